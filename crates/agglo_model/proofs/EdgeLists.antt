-- Any list of edges put into the order of a graph's edges, with edges between the same names added up.
use Rattle.std.proofs.Common.{◌≡◌, ◌≢◌, ◌⊎◌, inl, inr, ℕ, ◌<◌, min, max, Bool, true, false, cond, ◌&&◌, ◌||◌, eqb, ltb, List, [], ◌∷◌, refl, sym, ap, ◌∙◌, subst, arith}
use Rattle.std.specs.Prelude.{Contains, AllPairs}
use Rattle.std.proofs.lemmas.Bool.Decides.{nat_tests}
use Rattle.std.proofs.lemmas.Bool.{false≢true}
use Rattle.std.proofs.lemmas.List.Kept.{AllPairs-cons}
use Rattle.agglo_model.specs.PairOrder.{Contact, added}
use Rattle.agglo_model.specs.Contacts.{are}
use Rattle.agglo_model.specs.RegionGraph.{GraphEdge, StandsBefore, is_between}
use Rattle.agglo_model.proofs.Members.{contains_head, contains_tail, contains_cases, contains_none, all_pairs_head, all_pairs_tail, All-from_contains}
use Rattle.agglo_model.proofs.GraphContacts.{joint, contact_in-is, added_assoc, added_comm}
use Rattle.agglo_model.proofs.GraphMerges.{SameContacts}

abbrev stands : GraphEdge → GraphEdge → Bool
stands e f = ltb e.a f.a || (eqb e.a f.a && ltb e.b f.b)

abbrev has_same_names : GraphEdge → GraphEdge → Bool
has_same_names e f = eqb e.a f.a && eqb e.b f.b

-- an edge put in its place in a list of edges
unfoldable pub inserted : GraphEdge → List GraphEdge → List GraphEdge
inserted e [] = e ∷ []
inserted e (f ∷ fs) =
    cond (stands e f) (e ∷ f ∷ fs)
    (cond (has_same_names e f) (record f { contact = added e.contact f.contact } ∷ fs) (f ∷ inserted e fs))

-- where an edge stands to the first of a list
record Stands (e f : GraphEdge) (b c : Bool) : Type 0 where
  before : b ≡ true → StandsBefore e f
  same : b ≡ false → c ≡ true → (e.a ≡ f.a) × (e.b ≡ f.b)
  after : b ≡ false → c ≡ false → StandsBefore f e

stands-is : (e f : GraphEdge) → Stands e f (stands e f) (has_same_names e f)
stands-is e f = record {
  before = before_of e.a e.b f.a f.b;
  same = same_of e.a e.b f.a f.b;
  after = after_of e.a e.b f.a f.b;
}
  where
    before_of : (a b p q : ℕ) → (ltb a p || (eqb a p && ltb b q)) ≡ true → (a < p) ⊎ ((a ≡ p) × (b < q))
    before_of a b p q h = grind (arith, nat_tests)

    same_of : (a b p q : ℕ) → (ltb a p || (eqb a p && ltb b q)) ≡ false → (eqb a p && eqb b q) ≡ true → (a ≡ p) × (b ≡ q)
    same_of a b p q g h = grind (arith, nat_tests)

    after_of : (a b p q : ℕ) → (ltb a p || (eqb a p && ltb b q)) ≡ false → (eqb a p && eqb b q) ≡ false
        → (p < a) ⊎ ((p ≡ a) × (q < b))
    after_of a b p q g h = grind (arith, nat_tests)

-- something is so of the names of each edge, and each contact has an edge of the grid
abbrev pub HaveNames : (ℕ → ℕ → Type 0) → List GraphEdge → Type 0
HaveNames P es = (e : GraphEdge) → Contains es e → P e.a e.b × (0 < e.contact.count)

inserted-names : (P : ℕ → ℕ → Type 0) (e : GraphEdge) (fs : List GraphEdge) → P e.a e.b → 0 < e.contact.count
    → HaveNames P fs → HaveNames P (inserted e fs)
unfolding inserted
inserted-names P e [] here some have g inside = elim (contains_cases e g [] inside) [
  | inl same ↦ subst (λ z. P z.a z.b × (0 < z.contact.count)) same (here, some)
  | inr none ↦ absurd (contains_none g none)
]
inserted-names P e (f ∷ fs) here some have g inside =
    step (stands e f) (has_same_names e f)
    (inserted-names P e fs here some (λ z later. have z (contains_tail f z fs later))) inside
  where
    first : (P f.a f.b × (0 < f.contact.count))
    first = have f (contains_head f fs)

    step : (b c : Bool) → HaveNames P (inserted e fs)
        → Contains (cond b (e ∷ f ∷ fs) (cond c (record f { contact = added e.contact f.contact } ∷ fs) (f ∷ inserted e fs))) g
        → P g.a g.b × (0 < g.contact.count)
    step true c rest at_g = elim (contains_cases e g (f ∷ fs) at_g) [
      | inl same ↦ subst (λ z. P z.a z.b × (0 < z.contact.count)) same (here, some)
      | inr later ↦ have g later
    ]
    step false true rest at_g = elim (contains_cases (record f { contact = added e.contact f.contact }) g fs at_g) [
      | inl same ↦ subst (λ z. P z.a z.b × (0 < z.contact.count)) same (first.0, omega (arith, first.1))
      | inr later ↦ have g (contains_tail f g fs later)
    ]
    step false false rest at_g = elim (contains_cases f g (inserted e fs) at_g) [
      | inl same ↦ subst (λ z. P z.a z.b × (0 < z.contact.count)) same first
      | inr later ↦ rest g later
    ]

stands_trans : (e f g : GraphEdge) → StandsBefore e f → StandsBefore f g → StandsBefore e g
stands_trans e f g one other = numbers e.a e.b f.a f.b g.a g.b one other
  where
    numbers : (a b p q x y : ℕ) → (a < p) ⊎ ((a ≡ p) × (b < q)) → (p < x) ⊎ ((p ≡ x) × (q < y)) → (a < x) ⊎ ((a ≡ x) × (b < y))
    numbers a b p q x y one other = grind arith

inserted-ascends : (e : GraphEdge) (fs : List GraphEdge) → 0 < e.contact.count → HaveNames (λ _ _. Unit {0}) fs
    → AllPairs StandsBefore fs → AllPairs StandsBefore (inserted e fs)
unfolding inserted
inserted-ascends e [] some counts ascend = λ i j d before below. absurd (omega arith)
inserted-ascends e (f ∷ fs) some counts ascend =
    step (stands e f) (has_same_names e f) (stands-is e f)
    (inserted-ascends e fs some (λ g later. counts g (contains_tail f g fs later)) (all_pairs_tail StandsBefore f fs ascend))
    (λ after. inserted-names (λ a b. (f.a < a) ⊎ ((f.a ≡ a) × (f.b < b))) e fs after some
    (λ g later. (all_pairs_head StandsBefore f g fs ascend later, (counts g (contains_tail f g fs later)).1)))
  where
    step : (b c : Bool) → Stands e f b c → AllPairs StandsBefore (inserted e fs)
        → (StandsBefore f e → HaveNames (λ a b. (f.a < a) ⊎ ((f.a ≡ a) × (f.b < b))) (inserted e fs))
        → AllPairs StandsBefore (cond b (e ∷ f ∷ fs) (cond c (record f { contact = added e.contact f.contact } ∷ fs) (f ∷ inserted e fs)))
    step true c place rest after =
        AllPairs-cons StandsBefore e (f ∷ fs)
        (All-from_contains (StandsBefore e) (f ∷ fs) (λ g inside. elim (contains_cases f g fs inside) [
          | inl same ↦ subst (StandsBefore e) same (place.before refl)
          | inr later ↦ stands_trans e f g (place.before refl) (all_pairs_head StandsBefore f g fs ascend later)
        ])) ascend
    step false true place rest after =
        let sum = record f { contact = added e.contact f.contact } in
        AllPairs-cons StandsBefore sum fs
        (All-from_contains (StandsBefore sum) fs (λ g later. all_pairs_head StandsBefore f g fs ascend later))
        (all_pairs_tail StandsBefore f fs ascend)
    step false false place rest after =
        AllPairs-cons StandsBefore f (inserted e fs)
        (All-from_contains (StandsBefore f) (inserted e fs) (λ g later. (after (place.after refl refl) g later).0)) rest

same_test : (x y a b p q : ℕ) → a ≡ p → b ≡ q → are a b x y ≡ are p q x y
same_test x y a b p q one other = λ i. are (one i) (other i) x y

join_step : (t u : Bool) (c d rest : Contact) → t ≡ u
    → cond u (added (added c d) rest) rest ≡ cond t (added c (cond u (added d rest) rest)) (cond u (added d rest) rest)
join_step true true c d rest same = added_assoc c d rest
join_step true false c d rest same = absurd (false≢true (sym same))
join_step false true c d rest same = absurd (false≢true same)
join_step false false c d rest same = refl

turn_step : (t u : Bool) (c d rest whole : Contact) → whole ≡ cond t (added c rest) rest
    → cond u (added d whole) whole ≡ cond t (added c (cond u (added d rest) rest)) (cond u (added d rest) rest)
turn_step true true c d rest whole same =
    ap (added d) same ∙ sym (added_assoc d c rest) ∙ ap (λ z. added z rest) (added_comm d c) ∙ added_assoc c d rest
turn_step true false c d rest whole same = same
turn_step false true c d rest whole same = ap (added d) same
turn_step false false c d rest whole same = same

-- the contacts of a list with an edge put into it
inserted-contacts : (past x y : ℕ) (e : GraphEdge) (fs : List GraphEdge)
    → joint past (is_between x y) (inserted e fs) ≡ joint past (is_between x y) (e ∷ fs)
unfolding inserted joint
inserted-contacts past x y e [] = refl
inserted-contacts past x y e (f ∷ fs) =
    step (stands e f) (has_same_names e f) (stands-is e f) (inserted-contacts past x y e fs)
  where
    rest : Contact
    rest = joint past (is_between x y) fs

    step : (b c : Bool) → Stands e f b c
        → joint past (is_between x y) (inserted e fs) ≡ joint past (is_between x y) (e ∷ fs)
        → joint past (is_between x y) (cond b (e ∷ f ∷ fs) (cond c (record f { contact = added e.contact f.contact } ∷ fs) (f ∷ inserted e fs)))
        ≡ joint past (is_between x y) (e ∷ f ∷ fs)
    step true c place same = refl
    step false true place same =
        let names = place.same refl refl in
        join_step (is_between x y e) (is_between x y f) e.contact f.contact rest
        (same_test x y e.a e.b f.a f.b names.0 names.1)
    step false false place same =
        turn_step (is_between x y e) (is_between x y f) e.contact f.contact rest
        (joint past (is_between x y) (inserted e fs)) same

-- an edge with its smaller name first
abbrev pub in_order : GraphEdge → GraphEdge
in_order e = record e { a = min e.a e.b; b = max e.a e.b }

-- all edges of a list put in their places, but for those that join a name to itself
unfoldable pub listed : List GraphEdge → List GraphEdge
listed [] = []
listed (e ∷ es) = cond (eqb e.a e.b) (listed es) (inserted (in_order e) (listed es))

pub listed-names : (P : ℕ → ℕ → Type 0) (es : List GraphEdge)
    → ((e : GraphEdge) → Contains es e → (e.a ≢ e.b → P (min e.a e.b) (max e.a e.b)) × (0 < e.contact.count))
    → HaveNames P (listed es)
unfolding listed
listed-names P [] each = λ g inside. absurd (contains_none g inside)
listed-names P (e ∷ es) each =
    step (eqb e.a e.b) (λ fail. (each e (contains_head e es)).0 (differ e.a e.b fail))
    (listed-names P es (λ f later. each f (contains_tail e f es later)))
  where
    differ : (a b : ℕ) → eqb a b ≡ false → a ≢ b
    differ a b fail = grind (arith, nat_tests)

    step : (t : Bool) → (t ≡ false → P (min e.a e.b) (max e.a e.b)) → HaveNames P (listed es)
        → HaveNames P (cond t (listed es) (inserted (in_order e) (listed es)))
    step true here rest = rest
    step false here rest =
        inserted-names P (in_order e) (listed es) (here refl) (each e (contains_head e es)).1 rest

pub listed-ascends : (es : List GraphEdge) → ((e : GraphEdge) → Contains es e → 0 < e.contact.count)
    → AllPairs StandsBefore (listed es)
unfolding listed
listed-ascends [] each = λ i j d before below. absurd (omega arith)
listed-ascends (e ∷ es) each =
    step (eqb e.a e.b) (listed-names (λ _ _. Unit {0}) es (λ f later. (λ _. tt, each f (contains_tail e f es later))))
    (listed-ascends es (λ f later. each f (contains_tail e f es later)))
  where
    step : (t : Bool) → HaveNames (λ _ _. Unit {0}) (listed es) → AllPairs StandsBefore (listed es)
        → AllPairs StandsBefore (cond t (listed es) (inserted (in_order e) (listed es)))
    step true counts rest = rest
    step false counts rest = inserted-ascends (in_order e) (listed es) (each e (contains_head e es)) counts rest

loop_test : (a b x y : ℕ) → eqb a b ≡ true → x ≢ y → are a b x y ≡ false
loop_test a b x y same xy = grind (arith, nat_tests)

pub order_test : (a b x y : ℕ) → are (min a b) (max a b) x y ≡ are a b x y
order_test a b x y = grind (arith, nat_tests)

listed-joint : (past x y : ℕ) (es : List GraphEdge) → x ≢ y
    → joint past (is_between x y) (listed es) ≡ joint past (is_between x y) es
unfolding listed joint
listed-joint past x y [] xy = refl
listed-joint past x y (e ∷ es) xy = step (eqb e.a e.b) (λ same. loop_test e.a e.b x y same xy) (listed-joint past x y es xy)
  where
    step : (t : Bool) → (t ≡ true → is_between x y e ≡ false)
        → joint past (is_between x y) (listed es) ≡ joint past (is_between x y) es
        → joint past (is_between x y) (cond t (listed es) (inserted (in_order e) (listed es)))
        ≡ cond (is_between x y e) (added e.contact (joint past (is_between x y) es)) (joint past (is_between x y) es)
    step true loop same =
        same ∙ (λ i. cond (sym (loop refl) i) (added e.contact (joint past (is_between x y) es)) (joint past (is_between x y) es))
    step false loop same =
        inserted-contacts past x y (in_order e) (listed es)
        ∙ (λ i. cond (order_test e.a e.b x y i) (added e.contact (same i)) (same i))

pub listed-contacts : (es : List GraphEdge) → SameContacts (listed es) es
listed-contacts es past x y xy =
    contact_in-is past x y (listed es) ∙ listed-joint past x y es xy ∙ sym (contact_in-is past x y es)
