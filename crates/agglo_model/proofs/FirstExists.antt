-- Among names in contact there is a first pair, so greedy agglomeration never lacks its next step.
use Rattle.std.proofs.Common.{◌≡◌, ◌≢◌, ◌⊎◌, inl, inr, ℕ, ◌<◌, true, List, sym, ap, ◌∙◌, subst, arith}
use Rattle.std.proofs.lemmas.Bool.{false≢true}
use Rattle.agglo_model.specs.Axes.{edge_count, is_edge}
use Rattle.agglo_model.specs.Grid.{Grid}
use Rattle.agglo_model.specs.PairOrder.{Contact, Threshold, Reaches}
use Rattle.agglo_model.specs.Contacts.{lower_label, higher_label, is_contact_edge, between, InContact}
use Rattle.agglo_model.specs.Greedy.{IsFirstPair, IsGreedyEnd}
use Rattle.agglo_model.proofs.ContactEdges.{joins-edge, between-swap, InContact-names, InContact-swap, InContact-tie, same_tie}
use Rattle.agglo_model.proofs.FirstPairs.{edge_of}
use Rattle.agglo_model.proofs.FirstEdges.{contact_at, NotAfter, meets_at, first_below, tie_contact}
use Rattle.agglo_model.proofs.Cases.{apart_cases}

pub not_same : (a b c d : ℕ) → ((c ≡ a) × (d ≡ b)) ⊎ ((c ≡ b) × (d ≡ a)) → a < b → c < d
    → (c ≢ a) ⊎ (d ≢ b) → ⊥
not_same a b c d same ab cd other = grind arith

-- a pair whose contact is the first of all edges is the first pair
first_from_edges : (g : Grid) (labels : List ℕ) (a b : ℕ) → a < b → InContact g labels a b
    → ((f : ℕ) → f < edge_count g.axes → is_contact_edge g labels f ≡ true
    → NotAfter (between g labels a b) (contact_at g labels f))
    → IsFirstPair g labels a b
first_from_edges g labels a b ab touching first = record {
  ordered = ab;
  touching = touching;
  first = λ c d cd meets other.
      let f = (between g labels c d).tie in
      let joined = InContact-tie g labels c d meets in
      let contact = edge_of (is_edge g.axes f) (lower_label g labels f) (higher_label g labels f) c d joined in
      let late : NotAfter (between g labels a b) (between g labels c d) =
      subst (NotAfter (between g labels a b)) (tie_contact g labels c d meets)
      (first f (joins-edge g labels c d f joined) contact) in
      elim late [
        | inl same ↦ absurd (not_same a b c d
            (same_tie g labels a b c d touching meets (ap (λ z. z.tie) same)) ab cd other)
        | inr before ↦ before
      ];
}

-- either no names are in contact, or there is a first pair
pub first_exists : (g : Grid) (labels : List ℕ)
    → ((a b : ℕ) → ¬ (InContact g labels a b)) ⊎ ((a : ℕ) × (b : ℕ) × IsFirstPair g labels a b)
first_exists g labels = elim (first_below g labels (is_contact_edge g labels) (λ e pass. pass) (edge_count g.axes)) [
  | inl none ↦ inl (λ a b touching.
      let f = (between g labels a b).tie in
      let joined = InContact-tie g labels a b touching in
      let contact = edge_of (is_edge g.axes f) (lower_label g labels f) (higher_label g labels f) a b joined in
      false≢true (sym (none f (joins-edge g labels a b f joined)) ∙ contact))
  | inr (e, best) ↦
      let x = lower_label g labels e in
      let y = higher_label g labels e in
      let meets = meets_at g labels e best.passes in
      elim (apart_cases x y (InContact-names g labels x y meets).2) [
        | inl xy ↦ inr (x, y, first_from_edges g labels x y xy meets best.first)
        | inr yx ↦ inr (
          y,
          x,
          first_from_edges g labels y x yx (InContact-swap g labels x y meets)
              (λ f below contact. subst (λ z. NotAfter z (contact_at g labels f)) (between-swap g labels x y)
              (best.first f below contact)),
        )
      ]
]

pub reaches_cases : (t : Threshold) (c : Contact) → Reaches t c ⊎ (Reaches t c → ⊥)
reaches_cases t c = grind arith

-- either greedy agglomeration is at its end, or the first pair reaches the threshold
pub end_or_step : (g : Grid) (t : Threshold) (labels : List ℕ)
    → IsGreedyEnd g t labels
    ⊎ ((a : ℕ) × (b : ℕ) × IsFirstPair g labels a b × Reaches t (between g labels a b))
end_or_step g t labels = elim (first_exists g labels) [
  | inl none ↦ inl (inl none)
  | inr (a, b, first) ↦ elim (reaches_cases t (between g labels a b)) [
    | inl high ↦ inr (a, b, first, high)
    | inr low ↦ inl (inr (a, b, first, low))
  ]
]
