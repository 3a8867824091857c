-- The first contact edge of those that pass a test, by the order of the contacts that the edges belong to.
use Rattle.std.proofs.Common.{◌≡◌, ◌⊎◌, inl, inr, ℕ, zero, suc, ◌<◌, Bool, true, false, ◌&&◌, List, refl, sym, ap, ◌∙◌, subst, arith}
use Rattle.std.proofs.lemmas.Bool.{false≢true, cases_eq}
use Rattle.std.proofs.lemmas.Bool.Decides.{nat_tests}
use Rattle.agglo_model.specs.Axes.{is_edge}
use Rattle.agglo_model.specs.Grid.{Grid}
use Rattle.agglo_model.specs.PairOrder.{Contact, Before}
use Rattle.agglo_model.specs.Contacts.{differ, are, lower_label, higher_label, is_contact_edge, between, InContact}
use Rattle.agglo_model.proofs.ContactEdges.{between-swap, InContact-from_edge, InContact-tie, same_tie}
use Rattle.agglo_model.proofs.Means.{before_trans, before_total}
use Rattle.agglo_model.proofs.FirstPairs.{contact_of_names, names_are}

-- the contact of the two names that an edge joins
abbrev pub contact_at : Grid → List ℕ → ℕ → Contact
contact_at g labels e = between g labels (lower_label g labels e) (higher_label g labels e)

-- the first contact is that contact, or comes before it
abbrev pub NotAfter : Contact → Contact → Type 0
NotAfter c d = (c ≡ d) ⊎ Before c d

-- the two names that a contact edge joins are in contact
own_names : (i : Bool) (x y : ℕ) → (i && differ x y) ≡ true → ((i && differ x y) && are x y x y) ≡ true
own_names i x y contact = grind (arith, nat_tests)

pub meets_at : (g : Grid) (labels : List ℕ) (e : ℕ) → is_contact_edge g labels e ≡ true
    → InContact g labels (lower_label g labels e) (higher_label g labels e)
meets_at g labels e contact =
    InContact-from_edge g labels (lower_label g labels e) (higher_label g labels e) e
    (own_names (is_edge g.axes e) (lower_label g labels e) (higher_label g labels e) contact)

-- of two contacts one comes first, or they are the same
compared : (g : Grid) (labels : List ℕ) (e f : ℕ) → is_contact_edge g labels e ≡ true
    → is_contact_edge g labels f ≡ true
    → NotAfter (contact_at g labels e) (contact_at g labels f) ⊎ Before (contact_at g labels f) (contact_at g labels e)
compared g labels e f one other =
    let a = lower_label g labels e in
    let b = higher_label g labels e in
    let c = lower_label g labels f in
    let d = higher_label g labels f in
    elim (cases_eq (between g labels a b).tie (between g labels c d).tie) [
      | inl tie ↦ elim (same_tie g labels a b c d (meets_at g labels e one) (meets_at g labels f other) tie) [
        | inl (p, q) ↦ inl (inl (λ i. between g labels (sym p i) (sym q i)))
        | inr (p, q) ↦ inl (inl (between-swap g labels a b ∙ (λ i. between g labels (sym p i) (sym q i))))
      ]
      | inr apart ↦ elim (before_total (between g labels a b) (between g labels c d) apart) [
        | inl before ↦ inl (inr before)
        | inr after ↦ inr after
      ]
    ]

not_after-trans : (c d e : Contact) → 0 < c.count → 0 < d.count → 0 < e.count → Before c d → NotAfter d e
    → NotAfter c e
not_after-trans c d e pc pd pe one (inl same) = inr (subst (Before c) same one)
not_after-trans c d e pc pd pe one (inr other) = inr (before_trans c d e pc pd pe one other)

-- the edge that passes a test whose contact is the first of those below n that pass
pub record IsFirstBelow (g : Grid) (labels : List ℕ) (test : ℕ → Bool) (n e : ℕ) : Type 0 where
  pub passes : test e ≡ true
  pub first : (f : ℕ) → f < n → test f ≡ true → NotAfter (contact_at g labels e) (contact_at g labels f)

abbrev pub FirstBelow : Grid → List ℕ → (ℕ → Bool) → ℕ → Type 0
FirstBelow g labels test n = ((f : ℕ) → f < n → test f ≡ false) ⊎ ((e : ℕ) × IsFirstBelow g labels test n e)

-- one more edge
below_cases : (n f : ℕ) → f < suc n → (f < n) ⊎ (f ≡ n)
below_cases n f h = grind arith

-- a test that contact edges alone pass
module _ (g : Grid) (labels : List ℕ) (test : ℕ → Bool) (contact : (e : ℕ) → test e ≡ true → is_contact_edge g labels e ≡ true) where
  -- the edge n comes first, and before all that the one so far comes before
  taken_next : (n : ℕ) → test n ≡ true
      → ((f : ℕ) → f < n → test f ≡ true → NotAfter (contact_at g labels n) (contact_at g labels f))
      → IsFirstBelow g labels test (suc n) n
  taken_next n here before = record {
    passes = here;
    first = λ f below pass. elim (below_cases n f below) [
      | inl less ↦ before f less pass
      | inr same ↦ inl (ap (contact_at g labels) (sym same))
    ];
  }

  -- the edge so far stays the first
  kept_next : (n e : ℕ) → IsFirstBelow g labels test n e
      → (test n ≡ true → NotAfter (contact_at g labels e) (contact_at g labels n)) → IsFirstBelow g labels test (suc n) e
  kept_next n e best stays = record {
    passes = best.passes;
    first = λ f below pass. elim (below_cases n f below) [
      | inl less ↦ best.first f less pass
      | inr same ↦ subst (λ k. NotAfter (contact_at g labels e) (contact_at g labels k)) (sym same)
          (stays (sym (ap test same) ∙ pass))
    ];
  }

  first_step : (n : ℕ) → FirstBelow g labels test n → (b : Bool) → test n ≡ b → FirstBelow g labels test (suc n)
  first_step n (inl none) false here = inl (λ f below. elim (below_cases n f below) [
    | inl less ↦ none f less
    | inr same ↦ ap test same ∙ here
  ])
  first_step n (inl none) true here =
      inr (n, taken_next n here (λ f less pass. absurd (false≢true (sym (none f less) ∙ pass))))
  first_step n (inr (e, best)) false here =
      inr (e, kept_next n e best (λ pass. absurd (false≢true (sym here ∙ pass))))
  first_step n (inr (e, best)) true here =
      elim (compared g labels e n (contact e best.passes) (contact n here)) [
        | inl stays ↦ inr (e, kept_next n e best (λ pass. stays))
        | inr earlier ↦ inr (
          n,
          taken_next n here (λ f less pass.
              not_after-trans (contact_at g labels n) (contact_at g labels e) (contact_at g labels f)
              (meets_at g labels n (contact n here)) (meets_at g labels e (contact e best.passes))
              (meets_at g labels f (contact f pass)) earlier (best.first f less pass)),
        )
      ]

  -- either no edge below n passes, or there is a first one
  pub first_below : (n : ℕ) → FirstBelow g labels test n
  first_below zero = inl (λ f below. absurd (omega (arith, below)))
  first_below (suc n) = first_step n (first_below n) (test n) refl

-- the contact of names c and d, as that of the edge that is their tie
pub tie_contact : (g : Grid) (labels : List ℕ) (c d : ℕ) → InContact g labels c d
    → contact_at g labels (between g labels c d).tie ≡ between g labels c d
tie_contact g labels c d touching =
    let f = (between g labels c d).tie in
    contact_of_names g labels (lower_label g labels f) (higher_label g labels f) c d
    (names_are (is_edge g.axes f) (lower_label g labels f) (higher_label g labels f) c d
    (InContact-tie g labels c d touching))
