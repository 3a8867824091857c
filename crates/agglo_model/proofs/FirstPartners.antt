-- A name in contact with others has a first partner.
use Rattle.std.proofs.Common.{◌≡◌, ◌⊎◌, inl, inr, ℕ, ◌<◌, ◌==◌, Bool, true, ◌&&◌, ◌||◌, List, sym, ap, ◌∙◌, subst, arith}
use Rattle.std.proofs.lemmas.Bool.{false≢true}
use Rattle.std.proofs.lemmas.Bool.Decides.{nat_tests}
use Rattle.agglo_model.specs.Axes.{edge_count, is_edge}
use Rattle.agglo_model.specs.Grid.{Grid}
use Rattle.agglo_model.specs.Contacts.{differ, are, lower_label, higher_label, is_contact_edge, between, InContact}
use Rattle.agglo_model.specs.Work.{IsFirstPartner}
use Rattle.agglo_model.proofs.ContactEdges.{joins-edge, between-swap, InContact-names, InContact-swap, InContact-tie, same_tie}
use Rattle.agglo_model.proofs.FirstEdges.{contact_at, NotAfter, meets_at, first_below, tie_contact}
use Rattle.agglo_model.proofs.Cases.{not_pair}

-- a contact edge with an end in the name x
abbrev is_edge_of : Grid → List ℕ → ℕ → ℕ → Bool
is_edge_of g labels x e = is_contact_edge g labels e && (lower_label g labels e == x || higher_label g labels e == x)

is_contact : (i : Bool) (p q x : ℕ) → ((i && differ p q) && (p == x || q == x)) ≡ true → (i && differ p q) ≡ true
is_contact i p q x pass = grind arith

one_end : (i : Bool) (p q x : ℕ) → ((i && differ p q) && (p == x || q == x)) ≡ true → (p ≡ x) ⊎ (q ≡ x)
one_end i p q x pass = grind (arith, nat_tests)

joined_at : (i : Bool) (p q x y : ℕ) → ((i && differ p q) && are p q x y) ≡ true
    → ((i && differ p q) && (p == x || q == x)) ≡ true
joined_at i p q x y joined = grind (arith, nat_tests)

-- the edges of a contact of x pass
tie_passes : (g : Grid) (labels : List ℕ) (x y : ℕ) → InContact g labels x y
    → is_edge_of g labels x (between g labels x y).tie ≡ true
tie_passes g labels x y touching =
    let e = (between g labels x y).tie in
    joined_at (is_edge g.axes e) (lower_label g labels e) (higher_label g labels e) x y (InContact-tie g labels x y touching)

-- a partner whose contact is the first of all edges at x is the first partner
first_from_edges : (g : Grid) (labels : List ℕ) (x y : ℕ) → InContact g labels x y
    → ((f : ℕ) → f < edge_count g.axes → is_edge_of g labels x f ≡ true
    → NotAfter (between g labels x y) (contact_at g labels f))
    → IsFirstPartner g labels x y
first_from_edges g labels x y touching first = record {
  touching = touching;
  first = λ z apart meets.
      let f = (between g labels x z).tie in
      let late : NotAfter (between g labels x y) (between g labels x z) =
      subst (NotAfter (between g labels x y)) (tie_contact g labels x z meets)
      (first f (joins-edge g labels x z f (InContact-tie g labels x z meets)) (tie_passes g labels x z meets)) in
      elim late [
        | inl same ↦ absurd (not_pair x y z (InContact-names g labels x y touching).2 apart
            (same_tie g labels x y x z touching meets (ap (λ c. c.tie) same)))
        | inr before ↦ before
      ];
}

-- either x is in contact with no name, or it has a first partner
pub first_partner_exists : (g : Grid) (labels : List ℕ) (x : ℕ)
    → ((y : ℕ) → ¬ (InContact g labels x y)) ⊎ ((y : ℕ) × IsFirstPartner g labels x y)
first_partner_exists g labels x =
    elim (first_below g labels (is_edge_of g labels x) contact (edge_count g.axes)) [
      | inl none ↦ inl (λ y touching.
          let f = (between g labels x y).tie in
          false≢true (sym (none f (joins-edge g labels x y f (InContact-tie g labels x y touching)))
          ∙ tie_passes g labels x y touching))
      | inr (e, best) ↦ inr (by_end e best.passes best.first
          (one_end (is_edge g.axes e) (lower_label g labels e) (higher_label g labels e) x best.passes))
    ]
  where
    contact : (e : ℕ) → is_edge_of g labels x e ≡ true → is_contact_edge g labels e ≡ true
    contact e pass = is_contact (is_edge g.axes e) (lower_label g labels e) (higher_label g labels e) x pass

    by_end : (e : ℕ) → is_edge_of g labels x e ≡ true
        → ((f : ℕ) → f < edge_count g.axes → is_edge_of g labels x f ≡ true
        → NotAfter (contact_at g labels e) (contact_at g labels f))
        → (lower_label g labels e ≡ x) ⊎ (higher_label g labels e ≡ x)
        → (y : ℕ) × IsFirstPartner g labels x y
    by_end e pass first (inl low) =
        let y = higher_label g labels e in (
          y,
          first_from_edges g labels x y (subst (λ z. InContact g labels z y) low (meets_at g labels e (contact e pass)))
              (λ f below at. subst (λ z. NotAfter (between g labels z y) (contact_at g labels f)) low (first f below at)),
        )
    by_end e pass first (inr high) =
        let y = lower_label g labels e in
        let here : contact_at g labels e ≡ between g labels x y =
        between-swap g labels y (higher_label g labels e) ∙ ap (λ z. between g labels z y) high in (
          y,
          first_from_edges g labels x y
              (subst (λ z. InContact g labels z y) high (InContact-swap g labels y (higher_label g labels e) (meets_at g labels e (contact e pass))))
              (λ f below at. subst (λ z. NotAfter z (contact_at g labels f)) here (first f below at)),
        )
