-- Tests that show by computing which names are free in a node, which pair of them is reciprocal or the first such, and
-- that there is none.
use Rattle.std.proofs.Common.{◌≡◌, ◌⊎◌, inl, inr, ℕ, ◌*◌, ◌==◌, Bool, true, false, ◌&&◌, ◌||◌, not, ltb, leb, List, refl, sym, ap, ◌∙◌, subst, arith}
use Rattle.std.specs.List.{list_all}
use Rattle.std.proofs.lemmas.Bool.{and_parts, and_from, ltb-true, leb-true, le-leb, eqb-true, eq-eqb, cases_eq, or_cases}
use Rattle.std.proofs.lemmas.Bool.Decides.{nat_tests}
use Rattle.agglo_model.specs.Axes.{is_edge}
use Rattle.agglo_model.specs.Grid.{Grid}
use Rattle.agglo_model.specs.PairOrder.{Contact, Threshold, Before, Reaches}
use Rattle.agglo_model.specs.Contacts.{edge_numbers, differ, are, lower_label, higher_label, is_contact_edge, between, InContact}
use Rattle.agglo_model.specs.Greedy.{IsMutual}
use Rattle.agglo_model.specs.Cutting.{Chunking}
use Rattle.agglo_model.specs.Freezing.{occurs_in, touched_faces}
use Rattle.agglo_model.specs.Work.{IsFree, IsReciprocal, IsFirstNodeStep, IsFirstPartner}
use Rattle.agglo_model.proofs.ContactEdges.{joins-edge, InContact-tie}
use Rattle.agglo_model.proofs.FirstPairs.{at_edge, edge_of, names_are, same_pair, contact_of_names, before_test, before_test-sound, first_pair_test, IsFirstPair-by_test}
use Rattle.agglo_model.proofs.MutualRuns.{first_is_mutual}
use Rattle.agglo_model.proofs.Diamonds.{mutual_from_partners}
use Rattle.agglo_model.proofs.Freezing.{frozen_touches}

abbrev pub is_free : Chunking → ℕ → List ℕ → ℕ → Bool
is_free c m labels x = occurs_in c m labels x && (touched_faces c m labels x == 0)

pub IsFree-by_test : (c : Chunking) (m : ℕ) (labels : List ℕ) (x : ℕ) → is_free c m labels x ≡ true → IsFree c m labels x
IsFree-by_test c m labels x pass =
    let split = and_parts (occurs_in c m labels x) _ pass in
    record {
      occurs = split.0;
      unfrozen = λ frozen. (frozen_touches c m labels x).0 frozen (eqb-true (touched_faces c m labels x) 0 split.1);
    }

pub is_free-from : (c : Chunking) (m : ℕ) (labels : List ℕ) (x : ℕ) → IsFree c m labels x → is_free c m labels x ≡ true
is_free-from c m labels x free = elim (cases_eq (touched_faces c m labels x) 0) [
  | inl none ↦ and_from (occurs_in c m labels x) _ free.occurs (eq-eqb (touched_faces c m labels x) 0 none)
  | inr some ↦ absurd (free.unfrozen ((frozen_touches c m labels x).1 some))
]

abbrev reaches_test : Threshold → Contact → Bool
reaches_test t c = leb (t.p * c.count) (c.sum * t.q)

-- no contact edge joins two free names whose contact reaches
abbrev free_edge : Grid → Threshold → Chunking → ℕ → List ℕ → ℕ → Bool
free_edge g t c m labels e = elim (is_contact_edge g labels e) [
  | true ↦ not (is_free c m labels (lower_label g labels e) && is_free c m labels (higher_label g labels e))
      || not (reaches_test t (between g labels (lower_label g labels e) (higher_label g labels e)))
  | false ↦ true
]

abbrev pub no_free_pair : Grid → Threshold → Chunking → ℕ → List ℕ → Bool
no_free_pair g t c m labels = list_all (free_edge g t c m labels) (edge_numbers g)

both_free : (c : Chunking) (m : ℕ) (labels : List ℕ) (x y a b : ℕ) → is_free c m labels a ≡ true → is_free c m labels b ≡ true
    → ((x ≡ a) × (y ≡ b)) ⊎ ((x ≡ b) × (y ≡ a)) → (is_free c m labels x && is_free c m labels y) ≡ true
both_free c m labels x y a b of_a of_b (inl (p, q)) =
    and_from _ _ (ap (is_free c m labels) p ∙ of_a) (ap (is_free c m labels) q ∙ of_b)
both_free c m labels x y a b of_a of_b (inr (p, q)) =
    and_from _ _ (ap (is_free c m labels) p ∙ of_b) (ap (is_free c m labels) q ∙ of_a)

not_both : (a b : Bool) → (not a || not b) ≡ true → a ≡ true → b ≡ true → ⊥
not_both a b pass one other = grind arith

pub no_reciprocal-by_test : (g : Grid) (t : Threshold) (c : Chunking) (m : ℕ) (labels : List ℕ)
    → no_free_pair g t c m labels ≡ true → (a b : ℕ) → ¬ (IsReciprocal g t c m labels a b)
no_reciprocal-by_test g t c m labels pass a b pair =
    let e = (between g labels a b).tie in
    let i = is_edge g.axes e in
    let x = lower_label g labels e in
    let y = higher_label g labels e in
    let joined = InContact-tie g labels a b pair.pair.touching in
    let at = at_edge g (free_edge g t c m labels) e (joins-edge g labels a b e joined) pass in
    let ends = names_are i x y a b joined in
    let free = is_free c m labels x && is_free c m labels y in
    let reaches = reaches_test t (between g labels x y) in
    let opened : (not free || not reaches) ≡ true =
    subst (λ v. (elim v [ true ↦ not free || not reaches | false ↦ true ]) ≡ true) (edge_of i x y a b joined) at in
    not_both free reaches opened
    (both_free c m labels x y a b (is_free-from c m labels a pair.a_free) (is_free-from c m labels b pair.b_free) ends)
    (le-leb _ _ (subst (Reaches t) (sym (contact_of_names g labels x y a b ends)) pair.pair.reaches))

-- each contact edge at x joins it to y
abbrev partner_edge : Grid → List ℕ → ℕ → ℕ → ℕ → Bool
partner_edge g labels x y e = elim (is_contact_edge g labels e) [
  | true ↦ are (lower_label g labels e) (higher_label g labels e) x y
      || not (lower_label g labels e == x || higher_label g labels e == x)
  | false ↦ true
]

abbrev pub is_only_partner : Grid → List ℕ → ℕ → ℕ → Bool
is_only_partner g labels x y = list_all (partner_edge g labels x y) (edge_numbers g)

same_partner : (i : Bool) (p q x y z : ℕ) → ((i && differ p q) && are p q x z) ≡ true
    → (are p q x y || not (p == x || q == x)) ≡ true → z ≡ y
same_partner i p q x y z joined pass = grind (arith, nat_tests)

pub only_partner-by_test : (g : Grid) (labels : List ℕ) (x y : ℕ) → is_only_partner g labels x y ≡ true
    → (z : ℕ) → InContact g labels x z → z ≡ y
only_partner-by_test g labels x y pass z touching =
    let e = (between g labels x z).tie in
    let i = is_edge g.axes e in
    let p = lower_label g labels e in
    let q = higher_label g labels e in
    let joined = InContact-tie g labels x z touching in
    let at = at_edge g (partner_edge g labels x y) e (joins-edge g labels x z e joined) pass in
    let opened : (are p q x y || not (p == x || q == x)) ≡ true =
    subst (λ v. (elim v [ true ↦ are p q x y || not (p == x || q == x) | false ↦ true ]) ≡ true)
    (edge_of i p q x z joined) at in
    same_partner i p q x y z joined opened

-- an only partner is the first
pub IsFirstPartner-by_test : (g : Grid) (labels : List ℕ) (x y : ℕ) → InContact g labels x y
    → is_only_partner g labels x y ≡ true → IsFirstPartner g labels x y
IsFirstPartner-by_test g labels x y touching pass = record {
  touching = touching;
  first = λ z apart meets. absurd (apart (only_partner-by_test g labels x y pass z meets));
}

-- a first pair that reaches, of two free names
pub IsMutual-by_test : (g : Grid) (t : Threshold) (labels : List ℕ) (a b : ℕ) → first_pair_test g labels a b ≡ true
    → Reaches t (between g labels a b) → IsMutual g t labels a b
IsMutual-by_test g t labels a b pass reaches =
    first_is_mutual g t labels a b (IsFirstPair-by_test g labels a b pass) reaches

pub IsReciprocal-by_test : (g : Grid) (t : Threshold) (c : Chunking) (m : ℕ) (labels : List ℕ) (a b : ℕ)
    → first_pair_test g labels a b ≡ true → Reaches t (between g labels a b)
    → (is_free c m labels a && is_free c m labels b) ≡ true → IsReciprocal g t c m labels a b
IsReciprocal-by_test g t c m labels a b pass reaches free =
    let split = and_parts (is_free c m labels a) _ free in
    record {
      pair = IsMutual-by_test g t labels a b pass reaches;
      a_free = IsFree-by_test c m labels a split.0;
      b_free = IsFree-by_test c m labels b split.1;
    }

-- ---- where a pair isn't the only one of its names

-- each contact edge at x joins it to y, or to a name whose contact comes later
abbrev later_partner : Grid → List ℕ → ℕ → ℕ → ℕ → Bool
later_partner g labels x y e = elim (is_contact_edge g labels e) [
  | true ↦ (are (lower_label g labels e) (higher_label g labels e) x y
      || not (lower_label g labels e == x || higher_label g labels e == x))
      || before_test (between g labels x y) (between g labels (lower_label g labels e) (higher_label g labels e))
  | false ↦ true
]

abbrev pub is_first_partner : Grid → List ℕ → ℕ → ℕ → Bool
is_first_partner g labels x y =
    ltb 0 (between g labels x y).count && list_all (later_partner g labels x y) (edge_numbers g)

pub IsFirstPartner-by_order : (g : Grid) (labels : List ℕ) (x y : ℕ) → is_first_partner g labels x y ≡ true
    → IsFirstPartner g labels x y
IsFirstPartner-by_order g labels x y pass =
    let split = and_parts (ltb 0 (between g labels x y).count) _ pass in
    record {
      touching = ltb-true _ _ split.0;
      first = λ z apart meets.
          let e = (between g labels x z).tie in
          let i = is_edge g.axes e in
          let p = lower_label g labels e in
          let q = higher_label g labels e in
          let joined = InContact-tie g labels x z meets in
          let at = at_edge g (later_partner g labels x y) e (joins-edge g labels x z e joined) split.1 in
          let none = are p q x y || not (p == x || q == x) in
          let before = before_test (between g labels x y) (between g labels p q) in
          let opened : (none || before) ≡ true =
          subst (λ v. (elim v [ true ↦ none || before | false ↦ true ]) ≡ true) (edge_of i p q x z joined) at in
          elim (or_cases none before opened) [
            | inl same ↦ absurd (apart (same_partner i p q x y z joined same))
            | inr later ↦ subst (Before (between g labels x y)) (contact_of_names g labels p q x z (names_are i p q x z joined))
                (before_test-sound (between g labels x y) (between g labels p q) later)
          ];
    }

-- two free names that are each other's first partners
abbrev pub is_reciprocal : Grid → Threshold → Chunking → ℕ → List ℕ → ℕ → ℕ → Bool
is_reciprocal g t c m labels a b = (ltb a b && reaches_test t (between g labels a b))
    && ((is_first_partner g labels a b && is_first_partner g labels b a) && (is_free c m labels a && is_free c m labels b))

pub IsReciprocal-by_order : (g : Grid) (t : Threshold) (c : Chunking) (m : ℕ) (labels : List ℕ) (a b : ℕ)
    → is_reciprocal g t c m labels a b ≡ true → IsReciprocal g t c m labels a b
IsReciprocal-by_order g t c m labels a b pass =
    let split = and_parts (ltb a b && reaches_test t (between g labels a b)) _ pass in
    let front = and_parts (ltb a b) _ split.0 in
    let back = and_parts (is_first_partner g labels a b && is_first_partner g labels b a) _ split.1 in
    let first = and_parts (is_first_partner g labels a b) _ back.0 in
    let free = and_parts (is_free c m labels a) _ back.1 in
    record {
      pair = mutual_from_partners (ltb-true a b front.0) (IsFirstPartner-by_order g labels a b first.0)
          (IsFirstPartner-by_order g labels b a first.1) (leb-true _ _ front.1);
      a_free = IsFree-by_test c m labels a free.0;
      b_free = IsFree-by_test c m labels b free.1;
    }

-- each contact edge joins a and b, or names that aren't both free, or names whose contact comes later
abbrev later_free : Grid → Chunking → ℕ → List ℕ → ℕ → ℕ → ℕ → Bool
later_free g c m labels a b e = elim (is_contact_edge g labels e) [
  | true ↦ (are (lower_label g labels e) (higher_label g labels e) a b
      || not (is_free c m labels (lower_label g labels e) && is_free c m labels (higher_label g labels e)))
      || before_test (between g labels a b) (between g labels (lower_label g labels e) (higher_label g labels e))
  | false ↦ true
]

abbrev pub is_first_free : Grid → Chunking → ℕ → List ℕ → ℕ → ℕ → Bool
is_first_free g c m labels a b = list_all (later_free g c m labels a b) (edge_numbers g)

-- a reciprocal pair that comes before all other free names in contact is the first of the node
pub IsFirstNodeStep-by_test : (g : Grid) (t : Threshold) (c : Chunking) (m : ℕ) (labels : List ℕ) (a b : ℕ)
    → IsReciprocal g t c m labels a b → is_first_free g c m labels a b ≡ true
    → IsFirstNodeStep g t c m labels (record { survivor = a; absorbed = b; contact = between g labels a b })
IsFirstNodeStep-by_test g t c m labels a b pair pass = record {
  step_is = record { reciprocal = pair; contact_is = refl };
  first = λ d h other apart.
      let e = (between g labels d h).tie in
      let i = is_edge g.axes e in
      let x = lower_label g labels e in
      let y = higher_label g labels e in
      let joined = InContact-tie g labels d h other.pair.touching in
      let at = at_edge g (later_free g c m labels a b) e (joins-edge g labels d h e joined) pass in
      let ends = names_are i x y d h joined in
      let free = is_free c m labels x && is_free c m labels y in
      let before = before_test (between g labels a b) (between g labels x y) in
      let opened : ((are x y a b || not free) || before) ≡ true =
      subst (λ v. (elim v [ true ↦ (are x y a b || not free) || before | false ↦ true ]) ≡ true)
      (edge_of i x y d h joined) at in
      let both = both_free c m labels x y d h (is_free-from c m labels d other.a_free) (is_free-from c m labels h other.b_free) ends in
      elim (or_cases (are x y a b || not free) before opened) [
        | inl none ↦ absurd (same_pair i x y a b d h joined (first_of_two (are x y a b) free none both)
            pair.pair.ordered other.pair.ordered apart)
        | inr later ↦ subst (Before (between g labels a b)) (contact_of_names g labels x y d h ends)
            (before_test-sound (between g labels a b) (between g labels x y) later)
      ];
}
  where
    first_of_two : (p q : Bool) → (p || not q) ≡ true → q ≡ true → p ≡ true
    first_of_two p q pass set = grind arith
