-- Voxels one after another in a row of a leaf, and their labels.
use Rattle.std.proofs.Common.{◌≡◌, ◌≢◌, ℕ, ◌+◌, ◌-◌, ◌^◌, ◌<◌, ◌≤◌, ◌⊎◌, List, length, get_or, set, sym, ◌∙◌, ap, subst, subst₂, inl, inr, arith, add-zero, eq-or-lt_of_le, get_or-set_same, get_or-set_other}
use Rattle.std.proofs.lemmas.Bool.{cases_eq}
use Rattle.agglo_model.specs.Axes.{Axes, IsPlace, coordinate, voxel_at, voxel_count}
use Rattle.agglo_model.specs.Basins.{label_of}
use Rattle.agglo_model.specs.Boxes.{box_grid, box_index, box_voxel}
use Rattle.agglo_model.specs.Cell.{IsInBox}
use Rattle.agglo_model.specs.Cutting.{cells_at, leaf_of, low_corner, high_corner}
use Rattle.agglo_model.proofs.BoxPlaces.{box_limits, box_voxel-place}
use Rattle.agglo_model.proofs.Places.{voxel_at-lt, voxel_at-place}
use Rattle.steepest_ascent.specs.CellEnds.{CellEnds, end_at}
use Rattle.steepest_ascent.specs.Progress.{IsLabelOf}
use Rattle.face_pointers.specs.Exits.{TellsOf}
use Rattle.face_pointers.specs.Pieces.{AreLabelsFrom, AreParts, IsCut, IsPiece, Parts, leaf_grid, leaf_voxel}
use Rattle.face_pointers.specs.Runs.{IsRunFrom}
use Rattle.face_pointers.specs.declared.exits.Run.{Run}
use Rattle.face_pointers.proofs.Leaves.{has_leaf, leaf_is_box, leaf_of_holds, leaf_voxel-lt}
use Rattle.face_pointers.proofs.Pieces.{piece_grid, piece_read}

-- a voxel of a box, and others in its row there
row_place : (a : Axes) (lo hi : List ℕ) (v k : ℕ) → IsInBox a lo hi v → coordinate a v 0 + k < get_or hi 0 0
    → IsPlace (box_grid lo hi) (coordinate a v 0 - get_or lo 0 0 + k) (coordinate a v 1 - get_or lo 1 0) (coordinate a v 2 - get_or lo 2 0)
row_place a lo hi v k at short = record {
  in_x = omega (arith, at.from_x, at.to_x);
  in_y = omega (arith, at.from_y, at.to_y);
  in_z = omega (arith, at.from_z, at.to_z);
}

row_own : (a : Axes) (lo hi : List ℕ) (v k : ℕ)
    → box_index a lo hi v + k
    ≡ voxel_at (box_grid lo hi) (coordinate a v 0 - get_or lo 0 0 + k) (coordinate a v 1 - get_or lo 1 0) (coordinate a v 2 - get_or lo 2 0)
row_own a lo hi v k = omega arith

row_voxel : (a : Axes) (lo hi : List ℕ) (v k : ℕ) → IsInBox a lo hi v → coordinate a v 0 + k < get_or hi 0 0
    → box_voxel a lo hi (box_index a lo hi v + k) ≡ v + k
row_voxel a lo hi v k at short =
    let x : get_or lo 0 0 + (coordinate a v 0 - get_or lo 0 0 + k) ≡ coordinate a v 0 + k = omega (arith, at.from_x) in
    let y : get_or lo 1 0 + (coordinate a v 1 - get_or lo 1 0) ≡ coordinate a v 1 = omega (arith, at.from_y) in
    let z : get_or lo 2 0 + (coordinate a v 2 - get_or lo 2 0) ≡ coordinate a v 2 = omega (arith, at.from_z) in
    ap (box_voxel a lo hi) (row_own a lo hi v k)
    ∙ box_voxel-place a lo hi _ _ _ (row_place a lo hi v k at short)
    ∙ (λ i. voxel_at a (x i) (y i) (z i))
    ∙ omega (arith, voxel_at-place a v)

-- the voxels from one on, as far as they lie in its leaf
pub is_run : (p : Parts) (v : ℕ) (run : Run) → IsCut p → v < voxel_count p.grid.axes → run.leaf ≡ leaf_of p.cutting v
    → run.own ≡ box_index p.grid.axes (low_corner p.cutting run.leaf) (high_corner p.cutting run.leaf) v
    → run.length ≡ get_or (high_corner p.cutting run.leaf) 0 0 - coordinate p.grid.axes v 0 → IsRunFrom p v run
is_run p v run h lt leaf_is own_is length_is = record {
  leaf = leaf;
  some = omega (arith, inside.to_x);
  own = own;
  same = same;
  short = (let last : ℕ = run.length - 1 in
      let k : last < run.length = omega (arith, inside.to_x) in
      omega (arith, leaf_voxel-lt p run.leaf (run.own + last) h leaf (own last k), same last k));
}
  where
    a : Axes
    a = p.grid.axes

    lo : List ℕ
    lo = low_corner p.cutting run.leaf

    hi : List ℕ
    hi = high_corner p.cutting run.leaf

    leaf : run.leaf < cells_at p.cutting 0
    leaf = subst (λ m. m < cells_at p.cutting 0) (sym leaf_is) (has_leaf p v h lt)

    inside : IsInBox a lo hi v
    inside = subst (λ m. IsInBox p.grid.axes (low_corner p.cutting m) (high_corner p.cutting m) v) (sym leaf_is) (leaf_of_holds p v h lt)

    short : (k : ℕ) → k < run.length → coordinate a v 0 + k < get_or hi 0 0
    short k below = omega (arith, length_is, inside.to_x)

    own : (k : ℕ) → k < run.length → run.own + k < voxel_count (leaf_grid p run.leaf)
    own k below = subst (λ i. i < voxel_count (leaf_grid p run.leaf)) (sym (ap (λ i. i + k) own_is ∙ row_own a lo hi v k))
        (voxel_at-lt (leaf_grid p run.leaf) _ _ _ (row_place a lo hi v k inside (short k below)))

    same : (k : ℕ) → k < run.length → leaf_voxel p run.leaf (run.own + k) ≡ v + k
    same k below = ap (λ i. leaf_voxel p run.leaf (i + k)) own_is ∙ row_voxel a lo hi v k inside (short k below)

-- a voxel lies in the piece of its leaf
pub inside_piece : (p : Parts) (v m : ℕ) (piece : CellEnds) → IsCut p → v < voxel_count p.grid.axes → m ≡ leaf_of p.cutting v
    → IsPiece p m piece → IsInBox p.grid.axes piece.cell.lo piece.cell.hi v
inside_piece p v m piece h lt m_is is =
    subst₂ (λ lo hi. IsInBox p.grid.axes lo hi v)
    (ap (low_corner p.cutting) (sym m_is) ∙ sym is.low_is) (ap (high_corner p.cutting) (sym m_is) ∙ sym is.high_is)
    (leaf_of_holds p v h lt)

-- the first voxel of a run
pub run_own : (p : Parts) (v : ℕ) (run : Run) → IsRunFrom p v run → run.own < voxel_count (leaf_grid p run.leaf)
run_own p v run h = subst (λ i. i < voxel_count (leaf_grid p run.leaf)) (add-zero run.own) (h.own 0 h.some)

pub run_voxel : (p : Parts) (v : ℕ) (run : Run) → IsRunFrom p v run → leaf_voxel p run.leaf run.own ≡ v
run_voxel p v run h = ap (leaf_voxel p run.leaf) (sym (add-zero run.own)) ∙ h.same 0 h.some ∙ add-zero v

-- the labels so far, and one more
pub labels_more : (p : Parts) (first : ℕ) (labels : List ℕ) (n label : ℕ) → n < length labels → AreLabelsFrom p first labels n
    → IsLabelOf p.grid p.low (first + n) label → AreLabelsFrom p first (set labels n label) (n + 1)
labels_more p first labels n label lt done right k below = pick (cases_eq k n)
  where
    most : k ≤ n
    most = omega arith

    pick : (k ≡ n) ⊎ (k ≢ n) → IsLabelOf p.grid p.low (first + k) (label_of (set labels n label) k)
    pick (inl same) =
        subst (λ j. IsLabelOf p.grid p.low (first + j) (label_of (set labels n label) j)) (sym same)
        (subst (λ l. IsLabelOf p.grid p.low (first + n) l) (sym (get_or-set_same labels n label 0 lt)) right)
    pick (inr ne) =
        subst (λ l. IsLabelOf p.grid p.low (first + k) l) (sym (get_or-set_other labels n k label 0 ne))
        (done k (elim (eq-or-lt_of_le most) [ inl is ↦ absurd (ne is) | inr less ↦ less ]))

-- the ends of a run tell of its voxels
pub run_index : (p : Parts) (pieces : List CellEnds) (v k : ℕ) (run : Run) (piece : CellEnds) → AreParts p pieces → IsRunFrom p v run
    → piece ≡ get_or pieces run.leaf piece → k < run.length → run.own + k < voxel_count (box_grid piece.cell.lo piece.cell.hi)
run_index p pieces v k run piece h is read below =
    subst (λ a. run.own + k < voxel_count a) (sym (piece_grid p run.leaf piece (piece_read p pieces run.leaf piece h is.leaf read))) (is.own k below)

pub run_tells : (p : Parts) (pieces : List CellEnds) (v k : ℕ) (run : Run) (piece : CellEnds) → AreParts p pieces → IsRunFrom p v run
    → piece ≡ get_or pieces run.leaf piece → k < run.length → TellsOf p.grid p.low (v + k) (end_at piece.ends (run.own + k))
run_tells p pieces v k run piece h is read below =
    subst (λ u. TellsOf p.grid p.low u (end_at piece.ends (run.own + k))) (is.same k below)
    ((piece_read p pieces run.leaf piece h is.leaf read).tells (run.own + k) (is.own k below))

pub run_fits : (p : Parts) (v k : ℕ) (run : Run) → IsCut p → IsRunFrom p v run → k < run.length → run.own + k < 2 ^ 32
run_fits p v k run h is below =
    let limits = box_limits p.grid.axes (low_corner p.cutting run.leaf) (high_corner p.cutting run.leaf) h.whole.limits (leaf_is_box p run.leaf h is.leaf) in
    omega (arith, is.own k below, limits.most_voxels)
