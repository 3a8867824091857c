-- Lists of edges that gain edges: the contacts that they sum up, and their order.
use Rattle.std.proofs.Common.{◌≡◌, ◌⊎◌, inl, inr, ℕ, ◌+◌, ◌*◌, ◌^◌, ◌<◌, ◌≤◌, Bool, true, false, cond, List, [], ◌∷◌, ◌++◌, length, get_or, take, refl, sym, ap, ◌∙◌, subst, arith}
use Rattle.std.specs.Prelude.{Contains, AllPairs, IsPermutation}
use Rattle.std.specs.List.Sorted.{IsNonDecreasingBy}
use Rattle.std.proofs.lemmas.List.{take_more}
use Rattle.std.proofs.lemmas.List.Sums.{sum_by_push}
use Rattle.std.proofs.lemmas.List.Elements.{Contains-get_or, Contains-push, Contains-push_cases, All-contains}
use Rattle.std.proofs.lemmas.List.Sorted.{All-permutation, sum_by-IsPermutation}
use Rattle.agglo_model.specs.PairOrder.{Contact, added}
use Rattle.agglo_model.specs.Contacts.{are}
use Rattle.agglo_model.specs.RegionGraph.{GraphEdge, StandsBefore, is_between, no_contact, contact_in}
use Rattle.agglo_model.proofs.GraphContacts.{same_contact, added_assoc, joint, joint-append, joint-permutation, contact_in-is, none-added}
use Rattle.agglo_model.proofs.Members.{contains_none, All-from_contains}
use Rattle.region_graph.specs.Lists.{AreOrdered, AreSummed, AreTouching, SameContacts, IsFit, TakesIn, Gains, count_of, order_of, with_contact}
use Rattle.region_graph.proofs.Gaining.{none_keyed, keyed_more, each_more, low_before}

-- ---- edges by their places in order

pub same_names : (a b p q : ℕ) → b < 2 ^ 32 → q < 2 ^ 32 → 2 ^ 32 * a + b ≡ 2 ^ 32 * p + q → (a ≡ p) × (b ≡ q)
same_names a b p q fits other same = (omega arith, omega arith)

stands_before : (a b p q : ℕ) → b < 2 ^ 32 → q < 2 ^ 32 → 2 ^ 32 * a + b < 2 ^ 32 * p + q → (a < p) ⊎ ((a ≡ p) × (b < q))
stands_before a b p q fits other less = grind arith

-- ---- contacts

-- one edge alone
pub joint-one : (past : ℕ) (test : GraphEdge → Bool) (e : GraphEdge)
    → joint past test (e ∷ []) ≡ cond (test e) (added e.contact (no_contact past)) (no_contact past)
unfolding joint
joint-one past test e = refl

taken_step : (past : ℕ) (b : Bool) (c d : Contact)
    → cond b (added (added c d) (no_contact past)) (no_contact past)
    ≡ added (cond b (added c (no_contact past)) (no_contact past)) (cond b (added d (no_contact past)) (no_contact past))
taken_step past true c d = same_contact (added (added c d) (no_contact past)) (added (added c (no_contact past)) (added d (no_contact past)))
    (omega arith) (omega arith) (omega arith)
taken_step past false c d = sym (none-added past (no_contact past) (omega arith))

taken_joint : (past x y : ℕ) (others : List GraphEdge) (last e : GraphEdge) → is_between x y last ≡ is_between x y e
    → joint past (is_between x y) (others ++ with_contact last e ∷ []) ≡ joint past (is_between x y) ((others ++ last ∷ []) ++ e ∷ [])
taken_joint past x y others last e same =
    let p = is_between x y in
    let none = no_contact past in
    joint-append past p others (with_contact last e ∷ [])
    ∙ ap (added (joint past p others)) (joint-one past p (with_contact last e) ∙ taken_step past (p last) last.contact e.contact
    ∙ (λ i. added (sym (joint-one past p last) i) (cond (same i) (added e.contact none) none))
    ∙ ap (added (joint past p (last ∷ []))) (sym (joint-one past p e)))
    ∙ sym (added_assoc (joint past p others) (joint past p (last ∷ [])) (joint past p (e ∷ [])))
    ∙ ap (λ c. added c (joint past p (e ∷ []))) (sym (joint-append past p others (last ∷ [])))
    ∙ sym (joint-append past p (others ++ last ∷ []) (e ∷ []))

-- the contacts after an edge was taken into the last of the list, which is between the same names
pub taken-contacts : (e : GraphEdge) (before after : List GraphEdge) (taken : TakesIn order_of with_contact e before after)
    → taken.last.b < 2 ^ 32 → e.b < 2 ^ 32 → SameContacts (before ++ e ∷ []) after
taken-contacts e before after taken fit fits past x y =
    let last = taken.last in
    let names = same_names last.a last.b e.a e.b fit fits taken.same_key in
    let same : is_between x y last ≡ is_between x y e = λ i. are (names.0 i) (names.1 i) x y in
    contact_in-is past x y after
    ∙ ap (joint past (is_between x y)) taken.is
    ∙ taken_joint past x y taken.others last e same
    ∙ ap (λ es. joint past (is_between x y) (es ++ e ∷ [])) (sym taken.was)
    ∙ sym (contact_in-is past x y (before ++ e ∷ []))

pub gained-contacts : (e : GraphEdge) (before after : List GraphEdge)
    → ((f : GraphEdge) → Contains before f → f.b < 2 ^ 32) → e.b < 2 ^ 32
    → Gains order_of with_contact e before after → SameContacts (before ++ e ∷ []) after
gained-contacts e before after fit fits (inl taken) past x y =
    taken-contacts e before after taken
    (fit taken.last (subst (λ es. Contains es taken.last) (sym taken.was) (Contains-push taken.others taken.last))) fits past x y
gained-contacts e before after fit fits (inr appended) past x y = ap (λ es. contact_in past es x y) appended.is

-- how many edges of the grid there are then
pub gained_count : (e : GraphEdge) (before after : List GraphEdge) → Gains order_of with_contact e before after
    → count_of after ≡ count_of before + e.contact.count
gained_count e before after (inl taken) =
    let one = ap count_of taken.is ∙ sum_by_push (λ f. f.contact.count) taken.others (with_contact taken.last e) in
    let other = ap count_of taken.was ∙ sum_by_push (λ f. f.contact.count) taken.others taken.last in
    omega (arith, one, other)
gained_count e before after (inr appended) =
    ap count_of appended.is ∙ sum_by_push (λ f. f.contact.count) before e

-- ---- a list of edges summed up so far

pub none_summed : AreSummed [] []
none_summed = record {
  keyed = none_keyed order_of;
  fit = λ e inside. absurd (contains_none e inside);
  done_fit = λ e inside. absurd (contains_none e inside);
  contacts = λ past x y. refl;
  count = refl;
}

fit_together : (e f : GraphEdge) → IsFit f → IsFit (with_contact f e)
fit_together e f fits = record { a_fits = fits.a_fits; b_fits = fits.b_fits; touching = let some = fits.touching in omega arith }

pub summed_more : (done summed after : List GraphEdge) (e : GraphEdge) → AreSummed done summed
    → ((f : GraphEdge) → Contains done f → order_of f ≤ order_of e) → IsFit e → Gains order_of with_contact e summed after
    → AreSummed (done ++ e ∷ []) after
summed_more done summed after e so_far low fits gained = record {
  keyed = keyed_more order_of with_contact e done summed after (λ last. refl) so_far.keyed low gained;
  fit = each_more IsFit order_of with_contact e summed after fits (λ last. fit_together e last) so_far.fit gained;
  done_fit = λ f inside. elim (Contains-push_cases done e f inside) [
    | inl earlier ↦ so_far.done_fit f earlier
    | inr here ↦ subst IsFit here fits
  ];
  contacts = λ past x y.
      gained-contacts e summed after (λ f inside. (so_far.fit f inside).b_fits) fits.b_fits gained past x y
      ∙ contact_in-is past x y (summed ++ e ∷ []) ∙ joint-append past (is_between x y) summed (e ∷ [])
      ∙ ap (λ c. added c (joint past (is_between x y) (e ∷ [])))
      (sym (contact_in-is past x y summed) ∙ so_far.contacts past x y ∙ contact_in-is past x y done)
      ∙ sym (joint-append past (is_between x y) done (e ∷ [])) ∙ sym (contact_in-is past x y (done ++ e ∷ []));
  count =
      let one = gained_count e summed after gained in
      let other = sum_by_push (λ f. f.contact.count) done e in
      let before = so_far.count in
      omega (arith, one, other);
}

-- the next of a sorted list
pub summed_next : (sorted : List GraphEdge) (k : ℕ) (summed after : List GraphEdge) (e : GraphEdge) → k < length sorted
    → e ≡ get_or sorted k e → IsNonDecreasingBy order_of sorted → AreSummed (take k sorted) summed → IsFit e
    → Gains order_of with_contact e summed after → AreSummed (take (k + 1) sorted) after
summed_next sorted k summed after e below here up so_far fits gained =
    subst (λ es. AreSummed es after) (sym (take_more sorted k e below ∙ ap (λ f. take k sorted ++ f ∷ []) (sym here)))
    (summed_more (take k sorted) summed after e so_far
    (λ f inside. subst (λ g. order_of f ≤ order_of g) (sym here) (low_before order_of sorted k e up below f inside)) fits gained)

-- ---- all of them

pub summed-ascend : (done summed : List GraphEdge) → AreSummed done summed → AllPairs StandsBefore summed
summed-ascend done summed all i j d before below =
    let e = get_or summed i d in
    let f = get_or summed j d in
    stands_before e.a e.b f.a f.b
    (all.fit e (Contains-get_or summed i d (omega arith))).b_fits (all.fit f (Contains-get_or summed j d below)).b_fits
    (all.keyed.ascend i j d before below)

pub summed-ordered : (edges done summed : List GraphEdge) → AreSummed done summed → IsPermutation edges done
    → AreOrdered edges → AreOrdered summed
summed-ordered edges done summed all moved ordered = All-from_contains (λ e. e.a < e.b) summed (λ e inside.
    let source = all.keyed.from e inside in
    let f = source.0 in
    let less : f.a < f.b = All-contains (λ g. g.a < g.b) done f (All-permutation (λ g. g.a < g.b) edges done moved ordered) source.1 in
    let names = same_names f.a f.b e.a e.b (all.done_fit f source.1).b_fits (all.fit e inside).b_fits source.2 in
    omega (arith, names.0, names.1))

pub summed-touching : (done summed : List GraphEdge) → AreSummed done summed → AreTouching summed
summed-touching done summed all = All-from_contains (λ e. 0 < e.contact.count) summed (λ e inside. (all.fit e inside).touching)

pub summed-contacts : (edges done summed : List GraphEdge) → AreSummed done summed → IsPermutation edges done
    → SameContacts edges summed
summed-contacts edges done summed all moved past x y =
    all.contacts past x y ∙ contact_in-is past x y done
    ∙ joint-permutation past (is_between x y) edges done moved ∙ sym (contact_in-is past x y edges)

pub summed-count : (edges done summed : List GraphEdge) → AreSummed done summed → IsPermutation edges done
    → count_of summed ≡ count_of edges
summed-count edges done summed all moved = all.count ∙ sum_by-IsPermutation (λ e. e.contact.count) edges done moved
