-- The climbs of leaves in order of number.
use Rattle.std.proofs.Common.{◌≡◌, ℕ, ◌<◌, List, length, get_or, sym, ◌∙◌, subst, arith, [], ◌∷◌, ◌++◌, ◌⊎◌, inl, inr, eq-or-lt_of_le}
use Rattle.std.proofs.lemmas.List.{length_push, get_or_push, get_or_append_left}
use Rattle.agglo_model.specs.Cutting.{Chunking}
use Rattle.agglo_model.specs.Grid.{Grid}
use Rattle.steepest_ascent.specs.CellEnds.{CellEnds}
use Rattle.face_pointers.specs.Pieces.{IsLeafClimb}

-- the climbs of the leaves so far, and of one more
pub climb_more : (g : Grid) (low : ℕ) (t : Chunking) (m : ℕ) (pieces : List CellEnds) (piece : CellEnds)
    → length pieces ≡ m → ((k : ℕ) (d : CellEnds) → k < length pieces → IsLeafClimb g low t k (get_or pieces k d))
    → IsLeafClimb g low t m piece
    → (k : ℕ) (d : CellEnds) → k < length (pieces ++ piece ∷ []) → IsLeafClimb g low t k (get_or (pieces ++ piece ∷ []) k d)
climb_more g low t m pieces piece len done here k d lt = pick (eq-or-lt_of_le (omega (arith, length_push pieces piece)))
  where
    pick : (k ≡ length pieces) ⊎ (k < length pieces) → IsLeafClimb g low t k (get_or (pieces ++ piece ∷ []) k d)
    pick (inl last) =
        subst (λ q. IsLeafClimb g low t k q) (sym (get_or_push pieces piece d k (sym last)))
        (subst (λ j. IsLeafClimb g low t j piece) (sym len ∙ sym last) here)
    pick (inr less) =
        subst (λ q. IsLeafClimb g low t k q) (sym (get_or_append_left pieces (piece ∷ []) d k less)) (done k d less)
