-- Links between the same regions added up, link by link.
use Rattle.std.proofs.Common.{◌≡◌, ◌≢◌, ◌⊎◌, inl, inr, ℕ, ◌+◌, ◌-◌, ◌<◌, ◌≤◌, List, [], ◌∷◌, ◌++◌, length, get_or, set, take, refl, sym, ap, ◌∙◌, subst, arith}
use Rattle.std.specs.Prelude.{All, AllPairs, Contains}
use Rattle.std.proofs.lemmas.List.{take_more, take_more_set, take_all, get_or_append_left, get_or_push, length_push, length-set}
use Rattle.std.proofs.lemmas.List.Sums.{sum_by_push}
use Rattle.std.proofs.lemmas.List.Elements.{All-push, All-get_or, All-nil, All-contains, Contains-push, Contains-push_cases, Contains-append_left, Contains-get_or}
use Rattle.std.proofs.lemmas.List.Quantifiers.{all_pairs_push}
use Rattle.agglo_model.specs.PairOrder.{added}
use Rattle.agglo_model.specs.RegionGraph.{is_between, contact_in}
use Rattle.agglo_model.proofs.GraphContacts.{contact_in-alike, contact_in-taken}
use Rattle.agglo_model.proofs.Members.{contains_none, All-from_contains}
use Rattle.mutual_merge.specs.declared.links.Link.{Link}
use Rattle.mutual_merge.specs.Linked.{IsLink, LinkBefore, link_edges, edge_by, edges_by}
use Rattle.mutual_merge.specs.Merged.{AreJoined, IsAppended, IsJoinedLink, JoinsLast, NoLater, SameContactsBy}
use Rattle.mutual_merge.proofs.MovedLinks.{pushed}

-- a list by its last element
pub split_last : (ls : List Link) (n : ℕ) (l d : Link) → n + 1 ≡ length ls → l ≡ get_or ls n d → ls ≡ take n ls ++ l ∷ []
split_last ls n l d len same =
    sym (take_all (n + 1) ls (omega arith)) ∙ take_more ls n d (omega arith) ∙ ap (λ z. take n ls ++ z ∷ []) (sym same)

-- the last element of a list is written
pub JoinsLast-written : (old : List Link) (n : ℕ) (last link : Link) → n + 1 ≡ length old → last ≡ get_or old n last
    → last.a ≡ link.a → last.b ≡ link.b
    → JoinsLast old link (set old n (record last { contact = added last.contact link.contact }))
JoinsLast-written old n last link len same a b =
    let sum : Link = record last { contact = added last.contact link.contact } in
    let len' = length-set old n sum in
    record {
      front = take n old;
      last = last;
      old_is = split_last old n last last len same;
      same_a = a;
      same_b = b;
      new_is = sym (take_all (n + 1) (set old n sum) (omega arith)) ∙ take_more_set old n sum (omega arith);
    }

-- what the first i links come to
pub record JoinedSoFar (links : List Link) (i : ℕ) (joined : List Link) : Type 0 where
  pub ascend : AllPairs LinkBefore joined
  pub each : (n : ℕ) → All (IsLink n) links → All (IsLink n) joined
  pub edges : link_edges joined ≡ link_edges (take i links)
  pub contacts : (name : ℕ → ℕ) → SameContactsBy name joined name (take i links)
  pub from : (l : Link) → Contains joined l → (k : ℕ) × (k < i) × (l.a ≡ (get_or links k l).a) × (l.b ≡ (get_or links k l).b)

pub JoinedSoFar-none : (links joined : List Link) → joined ≡ [] → JoinedSoFar links 0 joined
JoinedSoFar-none links joined none = record {
  ascend = subst (AllPairs LinkBefore) (sym none) (λ i j d before below. absurd (omega arith));
  each = λ n all. subst (All (IsLink n)) (sym none) (All-nil (IsLink n));
  edges = ap link_edges none;
  contacts = λ name past x y xy. ap (λ ls. contact_in past (edges_by name ls) x y) none;
  from = λ l inside. absurd (contains_none l (subst (λ ls. Contains ls l) none inside));
}

-- a list in order without its last element, and the others before that one
front_ascends : (front : List Link) (last : Link) → AllPairs LinkBefore (front ++ last ∷ []) → AllPairs LinkBefore front
front_ascends front last ascend i j d before below =
    let len = length_push front last in
    subst (λ z. LinkBefore z (get_or front j d)) (get_or_append_left front (last ∷ []) d i (omega arith))
    (subst (λ z. LinkBefore (get_or (front ++ last ∷ []) i d) z) (get_or_append_left front (last ∷ []) d j below)
    (ascend i j d before (omega arith)))

front_before : (front : List Link) (last : Link) → AllPairs LinkBefore (front ++ last ∷ []) → (k : ℕ) (d : Link)
    → k < length front → LinkBefore (get_or front k d) last
front_before front last ascend k d below =
    let len = length_push front last in
    subst (λ z. LinkBefore z last) (get_or_append_left front (last ∷ []) d k below)
    (subst (λ z. LinkBefore (get_or (front ++ last ∷ []) k d) z) (get_or_push front last d (length front) refl)
    (ascend k (length front) d below (omega arith)))

front_all : (P : Link → Type 0) (front : List Link) (last : Link) → All P (front ++ last ∷ []) → All P front × P last
front_all P front last all = (
  All-from_contains P front (λ l inside. All-contains P (front ++ last ∷ []) l all (Contains-append_left front (last ∷ []) l inside)),
  All-contains P (front ++ last ∷ []) last all (Contains-push front last),
)

-- the next link
pub record AtNext (links : List Link) (i : ℕ) (l : Link) : Type 0 where
  pub below : i < length links
  pub is : (d : Link) → get_or links i d ≡ l
  pub sorted : AllPairs NoLater links

next_links : (links : List Link) (i : ℕ) (l : Link) → AtNext links i l → take (i + 1) links ≡ take i links ++ l ∷ []
next_links links i l at_l = take_more links i l at_l.below ∙ ap (λ z. take i links ++ z ∷ []) (at_l.is l)

-- the links that were joined stand no later than the next one
joined_no_later : (links : List Link) (i : ℕ) (joined : List Link) (l : Link) → JoinedSoFar links i joined → AtNext links i l
    → (m : Link) → Contains joined m → NoLater m l
joined_no_later links i joined l so_far at_l m inside =
    let source = so_far.from m inside in
    let later = subst (NoLater (get_or links source.0 m)) (at_l.is m) (at_l.sorted source.0 i m source.1 at_l.below) in
    numbers m.a m.b (get_or links source.0 m).a (get_or links source.0 m).b l.a l.b source.2 source.3 later
  where
    numbers : (a b p q x y : ℕ) → a ≡ p → b ≡ q → (p < x) ⊎ ((p ≡ x) × (q ≤ y)) → (a < x) ⊎ ((a ≡ x) × (b ≤ y))
    numbers a b p q x y pa pb later = grind arith

more_from : (links : List Link) (i : ℕ) (joined : List Link) (l : Link) → AtNext links i l
    → ((m : Link) → Contains joined m
    → ((k : ℕ) × (k < i) × (m.a ≡ (get_or links k m).a) × (m.b ≡ (get_or links k m).b)) ⊎ ((m.a ≡ l.a) × (m.b ≡ l.b)))
    → (m : Link) → Contains joined m → (k : ℕ) × (k < i + 1) × (m.a ≡ (get_or links k m).a) × (m.b ≡ (get_or links k m).b)
more_from links i joined l at_l cases m inside = elim (cases m inside) [
  | inl (k, below, a, b) ↦ (k, omega arith, a, b)
  | inr (a, b) ↦ (i, omega arith, a ∙ sym (ap (λ z. z.a) (at_l.is m)), b ∙ sym (ap (λ z. z.b) (at_l.is m)))
]

contacts_next : (name : ℕ → ℕ) (links : List Link) (i : ℕ) (l : Link) (past x y : ℕ) → AtNext links i l
    → contact_in past (edges_by name (take (i + 1) links)) x y
    ≡ contact_in past (edges_by name (take i links) ++ edge_by name l ∷ []) x y
contacts_next name links i l past x y at_l =
    ap (λ ls. contact_in past (edges_by name ls) x y) (next_links links i l at_l) ∙ pushed name (take i links) l past x y

-- the next link is appended
before_next : (m l last : Link) → NoLater m l → (m.a ≢ l.a) ⊎ (m.b ≢ l.b) → LinkBefore m l
before_next m l last later differ = numbers m.a m.b l.a l.b later differ
  where
    numbers : (a b x y : ℕ) → (a < x) ⊎ ((a ≡ x) × (b ≤ y)) → (a ≢ x) ⊎ (b ≢ y) → (a < x) ⊎ ((a ≡ x) × (b < y))
    numbers a b x y later differ = grind arith

before_both : (m last l : Link) → LinkBefore m last → NoLater last l → LinkBefore m l
before_both m last l one other = numbers m.a m.b last.a last.b l.a l.b one other
  where
    numbers : (a b p q x y : ℕ) → (a < p) ⊎ ((a ≡ p) × (b < q)) → (p < x) ⊎ ((p ≡ x) × (q ≤ y)) → (a < x) ⊎ ((a ≡ x) × (b < y))
    numbers a b p q x y one other = grind arith

last_case : (k n : ℕ) → k < n → (k + 1 ≡ n) ⊎ (k + 1 < n)
last_case k n below = grind arith

pub JoinedSoFar-append : (links : List Link) (i : ℕ) (joined new : List Link) (l : Link) → JoinedSoFar links i joined
    → AtNext links i l → IsAppended joined l new → JoinedSoFar links (i + 1) new
JoinedSoFar-append links i joined new l so_far at_l app = subst (JoinedSoFar links (i + 1)) (sym app.new_is) (record {
  ascend = all_pairs_push LinkBefore joined l so_far.ascend (λ k d below. before k d below (last_case k (length joined) below));
  each = λ n all. All-push (IsLink n) joined l (so_far.each n all)
      (subst (IsLink n) (at_l.is l) (All-get_or (IsLink n) links i l at_l.below all));
  edges =
      let s = sum_by_push (λ m. m.contact.count) joined l in
      let t = sum_by_push (λ m. m.contact.count) (take i links) l in
      let e = so_far.edges in
      let f = ap link_edges (next_links links i l at_l) in
      omega arith;
  contacts = λ name past x y xy.
      pushed name joined l past x y
      ∙ contact_in-alike past x y (edges_by name joined) (edges_by name (take i links)) (edge_by name l) (edge_by name l) refl refl
      (so_far.contacts name past x y xy)
      ∙ sym (contacts_next name links i l past x y at_l);
  from = more_from links i (joined ++ l ∷ []) l at_l (λ m inside. elim (Contains-push_cases joined l m inside) [
    | inl there ↦ inl (so_far.from m there)
    | inr same ↦ inr (ap (λ z. z.a) (sym same), ap (λ z. z.b) (sym same))
  ]);
})
  where
    before : (k : ℕ) (d : Link) → k < length joined → (k + 1 ≡ length joined) ⊎ (k + 1 < length joined) → LinkBefore (get_or joined k d) l
    before k d below (inl last) =
        let m = get_or joined k d in
        before_next m l l (joined_no_later links i joined l so_far at_l m (Contains-get_or joined k d below))
        (app.other (take k joined) m (split_last joined k m d last refl))
    before k d below (inr more) =
        let n = length joined - 1 in
        let last = get_or joined n d in
        before_both (get_or joined k d) last l (so_far.ascend k n d (omega arith) (omega arith))
        (joined_no_later links i joined l so_far at_l last (Contains-get_or joined n d (omega arith)))

-- the contact of the next link is added to that of the last
pub JoinedSoFar-join : (links : List Link) (i : ℕ) (joined new : List Link) (l : Link) → JoinedSoFar links i joined
    → AtNext links i l → JoinsLast joined l new → JoinedSoFar links (i + 1) new
JoinedSoFar-join links i joined new l so_far at_l step = subst (JoinedSoFar links (i + 1)) (sym step.new_is) (record {
  ascend = all_pairs_push LinkBefore front sum (front_ascends front last ascend) (λ k d below. front_before front last ascend k d below);
  each = λ n all.
      let parts = front_all (IsLink n) front last (subst (All (IsLink n)) step.old_is (so_far.each n all)) in
      All-push (IsLink n) front sum parts.0 (record {
        ordered = parts.1.ordered;
        inside = parts.1.inside;
        touching = let some = parts.1.touching in omega arith;
      });
  edges =
      let s = sum_by_push (λ m. m.contact.count) front sum in
      let r = sum_by_push (λ m. m.contact.count) front last in
      let t = sum_by_push (λ m. m.contact.count) (take i links) l in
      let e = so_far.edges in
      let o = ap link_edges step.old_is in
      let f = ap link_edges (next_links links i l at_l) in
      omega arith;
  contacts = λ name past x y xy.
      pushed name front sum past x y
      ∙ contact_in-taken past x y (edges_by name front) (edge_by name last) (edge_by name l) (edge_by name sum) refl
      (λ j. is_between x y (record { a = name (sym step.same_a j); b = name (sym step.same_b j); contact = l.contact })) refl
      ∙ contact_in-alike past x y (edges_by name front ++ edge_by name last ∷ []) (edges_by name (take i links))
      (edge_by name l) (edge_by name l) refl refl
      (sym (pushed name front last past x y) ∙ ap (λ ls. contact_in past (edges_by name ls) x y) (sym step.old_is)
      ∙ so_far.contacts name past x y xy)
      ∙ sym (contacts_next name links i l past x y at_l);
  from = more_from links i (front ++ sum ∷ []) l at_l (λ m inside. elim (Contains-push_cases front sum m inside) [
    | inl there ↦ inl (so_far.from m (subst (λ ls. Contains ls m) (sym step.old_is) (Contains-append_left front (last ∷ []) m there)))
    | inr same ↦ inr (ap (λ z. z.a) (sym same) ∙ step.same_a, ap (λ z. z.b) (sym same) ∙ step.same_b)
  ]);
})
  where
    front : List Link
    front = step.front

    last : Link
    last = step.last

    sum : Link
    sum = record last { contact = added last.contact l.contact }

    ascend : AllPairs LinkBefore (front ++ last ∷ [])
    ascend = subst (AllPairs LinkBefore) step.old_is so_far.ascend

pub JoinedSoFar-next : (links : List Link) (i : ℕ) (joined new : List Link) (l : Link) → JoinedSoFar links i joined
    → AtNext links i l → IsJoinedLink joined l new → JoinedSoFar links (i + 1) new
JoinedSoFar-next links i joined new l so_far at_l (inl step) = JoinedSoFar-join links i joined new l so_far at_l step
JoinedSoFar-next links i joined new l so_far at_l (inr app) = JoinedSoFar-append links i joined new l so_far at_l app

pub AreJoined-all : (links : List Link) (i : ℕ) (joined : List Link) → length links ≤ i → JoinedSoFar links i joined → AreJoined links joined
AreJoined-all links i joined long so_far =
    let whole = take_all i links long in
    record {
      ascend = so_far.ascend;
      each = so_far.each;
      edges = so_far.edges ∙ ap link_edges whole;
      contacts = λ name past x y xy. so_far.contacts name past x y xy ∙ ap (λ ls. contact_in past (edges_by name ls) x y) whole;
    }
