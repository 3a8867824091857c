-- The pieces of a cutting from an ordered parallel map.
use Rattle.std.proofs.Common.{◌≡◌, ℕ, ◌<◌, List, Ok, IfOk, length, get_or, map, sym, ◌∙◌, ap, subst, subst₂, arith}
use Rattle.std.specs.List.{AllZip, range_with_len}
use Rattle.std.specs.declared.result.Result.{Result}
use Rattle.std.proofs.lemmas.List.{get_or-map, length-map}
use Rattle.std.proofs.lemmas.List.FromFn.{get_or-range_with_len, length-range_with_len}
use Rattle.std.proofs.lemmas.Slice.Zip.{AllZip-long}
use Rattle.agglo_model.specs.Cutting.{Chunking, cells_at}
use Rattle.agglo_model.specs.Grid.{Grid}
use Rattle.steepest_ascent.specs.CellEnds.{CellEnds}
use Rattle.face_pointers.specs.Pieces.{AreClimbs, IsLeafClimb}
use Rattle.chunk_run.proofs.Parts.{zip_at}

-- answers for all leaves in order, each of which is there, are the climbs
pub climbs_from : {E : Type 0} (g : Grid) (low : ℕ) (t : Chunking) (n : ℕ) (answers : List (Result CellEnds E))
    (pieces : List CellEnds) → n ≡ cells_at t 0
    → AllZip (λ leaf answer. IfOk answer (λ piece. IsLeafClimb g low t leaf piece)) (range_with_len 0 n) answers
    → answers ≡ map Ok pieces → AreClimbs g low t pieces
climbs_from {E} g low t n answers pieces n_is zip all = record {
  one_each = long ∙ n_is;
  each = λ m d lt.
      let below : m < n = subst (λ k. m < k) long lt in
      let within : m < length (range_with_len 0 n) = subst (λ k. m < k) (sym (length-range_with_len 0 n)) below in
      let here : get_or answers m (Ok d) ≡ Ok (get_or pieces m d) =
      ap (λ l. get_or l m (Ok d)) all ∙ get_or-map answer pieces m d (Ok d) lt in
      let place : get_or (range_with_len 0 n) m 0 ≡ m = get_or-range_with_len 0 n m 0 below ∙ omega arith in
      subst₂ (λ leaf answer. IfOk answer (λ piece. IsLeafClimb g low t leaf piece)) place here
      (zip_at (λ leaf answer. IfOk answer (λ piece. IsLeafClimb g low t leaf piece)) (range_with_len 0 n) answers m 0 (Ok d) zip within);
}
  where
    answer : CellEnds → Result CellEnds E
    answer piece = Ok piece

    long : length pieces ≡ n
    long = sym (ap length all ∙ length-map pieces answer)
        ∙ AllZip-long (λ leaf answer. IfOk answer (λ piece. IsLeafClimb g low t leaf piece)) (range_with_len 0 n) answers zip
        ∙ length-range_with_len 0 n
