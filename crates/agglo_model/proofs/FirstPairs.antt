-- Tests that show a pair to be the first, or labels to have no contact, by computing.
use Rattle.std.proofs.Common.{◌≡◌, ◌≢◌, ◌⊎◌, inl, inr, ℕ, ◌*◌, ◌<◌, Bool, true, false, ◌&&◌, ◌||◌, not, ltb, eqb, List, get_or, refl, sym, ap, ◌∙◌, subst, arith}
use Rattle.std.specs.List.{list_all}
use Rattle.std.proofs.lemmas.List.Folds.{list_all_at}
use Rattle.std.proofs.lemmas.List.FromFn.{length-range_with_len}
use Rattle.std.proofs.lemmas.Bool.Decides.{nat_tests}
use Rattle.std.proofs.lemmas.Bool.{false≢true, ltb-true, and_parts, or_cases}
use Rattle.agglo_model.specs.Axes.{edge_count, is_edge}
use Rattle.agglo_model.specs.Grid.{Grid}
use Rattle.agglo_model.specs.PairOrder.{Contact, Before}
use Rattle.agglo_model.specs.Contacts.{edge_numbers, differ, are, lower_label, higher_label, is_contact_edge, joins, between, InContact}
use Rattle.agglo_model.specs.Greedy.{IsFirstPair}
use Rattle.agglo_model.proofs.Totals.{edge_at}
use Rattle.agglo_model.proofs.ContactEdges.{joins-edge, InContact-tie, between-swap}

-- a test of all edge numbers that passes, passes at each
pub at_edge : (g : Grid) (p : ℕ → Bool) (e : ℕ) → e < edge_count g.axes
    → list_all p (edge_numbers g) ≡ true → p e ≡ true
at_edge g p e below all =
    let len = length-range_with_len 0 (edge_count g.axes) in
    by_cases (p (get_or (edge_numbers g) e 0)) refl
  where
    by_cases : (b : Bool) → p (get_or (edge_numbers g) e 0) ≡ b → p e ≡ true
    by_cases true h = ap p (sym (edge_at g e below)) ∙ h
    by_cases false h =
        absurd (false≢true (
        sym (list_all_at p (edge_numbers g) e 0
        (omega (arith, length-range_with_len 0 (edge_count g.axes))) h)
        ∙ all))

abbrev pub before_test : Contact → Contact → Bool
before_test c d = ltb (d.sum * c.count) (c.sum * d.count)
    || (eqb (c.sum * d.count) (d.sum * c.count) && ltb c.tie d.tie)

pub before_test-sound : (c d : Contact) → before_test c d ≡ true → Before c d
before_test-sound c d pass = grind (arith, nat_tests)

-- a contact edge joins a and b, or names whose contact comes later
abbrev later_test : Grid → List ℕ → ℕ → ℕ → ℕ → Bool
later_test g labels a b e =
    elim (is_contact_edge g labels e) [
      | true ↦ are (lower_label g labels e) (higher_label g labels e) a b
          || before_test (between g labels a b) (between g labels (lower_label g labels e) (higher_label g labels e))
      | false ↦ true
    ]

abbrev pub first_pair_test : Grid → List ℕ → ℕ → ℕ → Bool
first_pair_test g labels a b = (ltb a b && ltb 0 (between g labels a b).count)
    && list_all (later_test g labels a b) (edge_numbers g)

abbrev pub no_contact_test : Grid → List ℕ → Bool
no_contact_test g labels = list_all (λ e. not (is_contact_edge g labels e)) (edge_numbers g)

-- two pairs in ascending order that an edge joins both ways are one pair
pub same_pair : (i : Bool) (x y a b c d : ℕ) → ((i && differ x y) && are x y c d) ≡ true
    → are x y a b ≡ true → a < b → c < d → (c ≢ a) ⊎ (d ≢ b) → ⊥
same_pair i x y a b c d joined is_ab ab cd other = grind (arith, nat_tests)

-- the edge's names are c and d, in one order or the other
pub names_are : (i : Bool) (x y c d : ℕ) → ((i && differ x y) && are x y c d) ≡ true
    → ((x ≡ c) × (y ≡ d)) ⊎ ((x ≡ d) × (y ≡ c))
names_are i x y c d joined = grind (arith, nat_tests)

pub edge_of : (i : Bool) (x y c d : ℕ) → ((i && differ x y) && are x y c d) ≡ true
    → (i && differ x y) ≡ true
edge_of i x y c d joined = grind arith

pub contact_of_names : (g : Grid) (labels : List ℕ) (x y c d : ℕ)
    → ((x ≡ c) × (y ≡ d)) ⊎ ((x ≡ d) × (y ≡ c)) → between g labels x y ≡ between g labels c d
contact_of_names g labels x y c d (inl (p, q)) = λ i. between g labels (p i) (q i)
contact_of_names g labels x y c d (inr (p, q)) =
    between-swap g labels x y ∙ (λ i. between g labels (q i) (p i))

-- the test at one edge of a contact shows that the pair comes before it
later_at : (g : Grid) (labels : List ℕ) (a b c d e : ℕ) → a < b → c < d → (c ≢ a) ⊎ (d ≢ b)
    → joins g labels c d e ≡ true → later_test g labels a b e ≡ true
    → Before (between g labels a b) (between g labels c d)
later_at g labels a b c d e ab cd other joined pass =
    let i = is_edge g.axes e in
    let x = lower_label g labels e in
    let y = higher_label g labels e in
    let contact = edge_of i x y c d joined in
    let opened : (are x y a b || before_test (between g labels a b) (between g labels x y)) ≡ true =
    subst (λ v. (elim v [
      | true ↦ are x y a b || before_test (between g labels a b) (between g labels x y)
      | false ↦ true
    ]) ≡ true) contact pass in
    elim (or_cases _ _ opened) [
      | inl is_ab ↦ absurd (same_pair i x y a b c d joined is_ab ab cd other)
      | inr before ↦ subst (Before (between g labels a b))
          (contact_of_names g labels x y c d (names_are i x y c d joined))
          (before_test-sound (between g labels a b) (between g labels x y) before)
    ]

-- a pair that passes the test is the first pair
pub IsFirstPair-by_test : (g : Grid) (labels : List ℕ) (a b : ℕ)
    → first_pair_test g labels a b ≡ true → IsFirstPair g labels a b
IsFirstPair-by_test g labels a b pass =
    let split = and_parts _ _ pass in
    let front = and_parts _ _ split.0 in
    let ab : a < b = ltb-true a b front.0 in
    record {
      ordered = ab;
      touching = ltb-true _ _ front.1;
      first = λ c d cd touching other.
          let e = (between g labels c d).tie in
          let joined = InContact-tie g labels c d touching in
          later_at g labels a b c d e ab cd other joined
          (at_edge g (later_test g labels a b) e (joins-edge g labels c d e joined) split.1);
    }

-- where no edge is a contact edge, no names are in contact
pub no_contact-by_test : (g : Grid) (labels : List ℕ) → no_contact_test g labels ≡ true
    → (a b : ℕ) → ¬ (InContact g labels a b)
no_contact-by_test g labels pass a b touching =
    let e = (between g labels a b).tie in
    let joined = InContact-tie g labels a b touching in
    let i = is_edge g.axes e in
    let x = lower_label g labels e in
    let y = higher_label g labels e in
    let off = at_edge g (λ f. not (is_contact_edge g labels f)) e (joins-edge g labels a b e joined) pass in
    false≢true (subst (λ v. not v ≡ true) (edge_of i x y a b joined) off)
