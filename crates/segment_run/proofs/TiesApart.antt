-- No two merges of a run have one rank: the edge that is the tie of one lies inside a name afterwards.
use Rattle.std.proofs.Common.{◌≡◌, ◌≢◌, inl, inr, ℕ, zero, suc, ◌<◌, List, [], ◌∷◌, length, get_or, sym, ap, ◌∙◌, subst, arith}
use Rattle.std.specs.Prelude.{AllPairs}
use Rattle.agglo_model.specs.Axes.{is_edge}
use Rattle.agglo_model.specs.Grid.{Grid}
use Rattle.agglo_model.specs.PairOrder.{Threshold}
use Rattle.agglo_model.specs.Contacts.{lower_label, higher_label, between, InContact, renamed}
use Rattle.agglo_model.specs.Greedy.{Merge, IsMutualRun, after_merge}
use Rattle.agglo_model.proofs.ContactEdges.{InContact-names, InContact-tie}
use Rattle.agglo_model.proofs.FirstPairs.{names_are}
use Rattle.agglo_model.proofs.Renames.{new_name, label-renamed, survivor_stays, absorbed_becomes}
use Rattle.merge_tree.specs.Order.{DifferInRank}

-- both ends of the edge have one label
abbrev IsInner : Grid → List ℕ → ℕ → Type 0
IsInner g labels e = lower_label g labels e ≡ higher_label g labels e

inner_renamed : (g : Grid) (labels : List ℕ) (a b e : ℕ) → b ≢ 0 → IsInner g labels e → IsInner g (renamed labels a b) e
inner_renamed g labels a b e some inner =
    label-renamed labels a b _ some ∙ ap (new_name a b) inner ∙ sym (label-renamed labels a b _ some)

-- the tie of a contact lies inside the survivor after the merge, and in no name before it
module _ (g : Grid) (labels : List ℕ) (a b : ℕ) (touching : InContact g labels a b) where
  tie_inside : IsInner g (renamed labels a b) (between g labels a b).tie
  tie_inside =
      let e = (between g labels a b).tie in
      let some = InContact-names g labels a b touching in
      let pos : b ≢ 0 = omega (arith, some) in
      elim (names_are (is_edge g.axes e) (lower_label g labels e) (higher_label g labels e) a b
      (InContact-tie g labels a b touching)) [
        | inl (low, high) ↦
            label-renamed labels a b _ pos ∙ ap (new_name a b) low ∙ survivor_stays a b
            ∙ sym (label-renamed labels a b _ pos ∙ ap (new_name a b) high ∙ absorbed_becomes a b)
        | inr (low, high) ↦
            label-renamed labels a b _ pos ∙ ap (new_name a b) low ∙ absorbed_becomes a b
            ∙ sym (label-renamed labels a b _ pos ∙ ap (new_name a b) high ∙ survivor_stays a b)
      ]

  tie_outside : ¬ (IsInner g labels (between g labels a b).tie)
  tie_outside inner =
      let e = (between g labels a b).tie in
      let some = InContact-names g labels a b touching in
      elim (names_are (is_edge g.axes e) (lower_label g labels e) (higher_label g labels e) a b
      (InContact-tie g labels a b touching)) [
        | inl (low, high) ↦ some.2 (sym low ∙ inner ∙ high)
        | inr (low, high) ↦ some.2 (sym high ∙ sym inner ∙ low)
      ]

-- an edge inside a name is the tie of no later merge
no_later_tie : (g : Grid) (t : Threshold) (e : ℕ) (labels : List ℕ) (merges : List Merge) → IsInner g labels e
    → IsMutualRun g t labels merges → (k : ℕ) (d : Merge) → k < length merges → e ≢ (get_or merges k d).contact.tie
no_later_tie g t e labels [] inner run k d below = absurd (omega arith)
no_later_tie g t e labels (m ∷ merges) inner run zero d below = λ same.
    tie_outside g labels m.survivor m.absorbed run.0.reciprocal.touching
    (subst (IsInner g labels) (same ∙ ap (λ c. c.tie) run.0.contact_is) inner)
no_later_tie g t e labels (m ∷ merges) inner run (suc k) d below =
    let some = InContact-names g labels m.survivor m.absorbed run.0.reciprocal.touching in
    no_later_tie g t e (after_merge labels m) merges
    (inner_renamed g labels m.survivor m.absorbed e (omega (arith, some)) inner) run.1 k d (omega arith)

pub ties_apart : (g : Grid) (t : Threshold) (labels : List ℕ) (merges : List Merge) → IsMutualRun g t labels merges
    → AllPairs DifferInRank merges
ties_apart g t labels [] run i j d before below = absurd (omega arith)
ties_apart g t labels (m ∷ merges) run i zero d before below = absurd (omega arith)
ties_apart g t labels (m ∷ merges) run zero (suc j) d before below = λ same.
    no_later_tie g t m.contact.tie (after_merge labels m) merges
    (subst (λ c. IsInner g (after_merge labels m) c.tie) (sym run.0.contact_is)
    (tie_inside g labels m.survivor m.absorbed run.0.reciprocal.touching))
    run.1 j d (omega arith) same.tie
ties_apart g t labels (m ∷ merges) run (suc i) (suc j) d before below =
    ties_apart g t (after_merge labels m) merges run.1 i j d (omega arith) (omega arith)
