-- Pieces whose ends tell of their voxels.
use Rattle.std.proofs.Common.{◌≡◌, ◌≢◌, ℕ, ◌<◌, List, [], ◌∷◌, ◌++◌, arith, eq-or-lt_of_le, length, get_or, set, sym, ◌∙◌, subst, subst₂, ◌⊎◌, inl, inr, get_or-set_same, get_or-set_other}
use Rattle.std.proofs.Math.ListN.{length-set}
use Rattle.std.proofs.lemmas.Bool.{cases_eq}
use Rattle.std.proofs.lemmas.List.{length_push, get_or_push, get_or_append_left}
use Rattle.agglo_model.specs.Axes.{Axes, voxel_count}
use Rattle.agglo_model.specs.Boxes.{box_grid, box_index}
use Rattle.agglo_model.specs.Cell.{IsInBox}
use Rattle.agglo_model.specs.Cutting.{cells_at, low_corner, high_corner}
use Rattle.agglo_model.proofs.BoxPlaces.{box_index-voxel, box_voxel_in}
use Rattle.steepest_ascent.specs.CellEnds.{CellEnds, end_at}
use Rattle.steepest_ascent.specs.Progress.{IsLabelOf}
use Rattle.steepest_ascent.specs.declared.ends.End.{End}
use Rattle.steepest_ascent.specs.declared.ends.End.TheVariants.{Background, Root}
use Rattle.face_pointers.specs.Exits.{TellsOf}
use Rattle.face_pointers.specs.Pieces.{AreClimbs, AreParts, AreVoxels, IsCut, IsLeafClimb, IsPiece, Parts, leaf_grid, leaf_voxel}
use Rattle.face_pointers.proofs.Leaves.{leaf_box_place, leaf_voxel-lt}
use Rattle.face_pointers.proofs.Telling.{tells_of_end}

-- the ends of the ascents within a leaf tell of its voxels
piece_of_climb : (p : Parts) (m : ℕ) (piece : CellEnds) → IsCut p → m < cells_at p.cutting 0
    → IsLeafClimb p.grid p.low p.cutting m piece → IsPiece p m piece
piece_of_climb p m piece h leaf is = record {
  low_is = is.low_is;
  high_is = is.high_is;
  one_each = is.climb.one_each ∙ (λ k. voxel_count (box_grid (is.low_is k) (is.high_is k)));
  tells = tells;
}
  where
    tells : (i : ℕ) → i < voxel_count (leaf_grid p m) → TellsOf p.grid p.low (leaf_voxel p m i) (end_at piece.ends i)
    tells i lt =
        let a : Axes = p.grid.axes in
        let u : ℕ = leaf_voxel p m i in
        let at = leaf_box_place p m i h leaf lt in
        let inside : IsInBox a piece.cell.lo piece.cell.hi u =
        subst₂ (λ lo hi. IsInBox a lo hi u) (sym is.low_is) (sym is.high_is)
        (box_voxel_in a (low_corner p.cutting m) (high_corner p.cutting m) i at) in
        let index : box_index a piece.cell.lo piece.cell.hi u ≡ i =
        (λ k. box_index a (is.low_is k) (is.high_is k) u) ∙ box_index-voxel a (low_corner p.cutting m) (high_corner p.cutting m) i at in
        subst (λ j. TellsOf p.grid p.low u (end_at piece.ends j)) index
        (tells_of_end p.grid p.low piece.cell (leaf_voxel-lt p m i h leaf lt) (is.climb.each u inside))

pub parts_of_climbs : (p : Parts) (pieces : List CellEnds) → IsCut p → AreClimbs p.grid p.low p.cutting pieces → AreParts p pieces
parts_of_climbs p pieces h are = record {
  cut = h;
  one_each = are.one_each;
  each = λ m d lt. piece_of_climb p m (get_or pieces m d) h (subst (λ n. m < n) are.one_each lt) (are.each m d lt);
}

-- the piece of a leaf, as it is read
pub piece_read : (p : Parts) (pieces : List CellEnds) (m : ℕ) (piece : CellEnds) → AreParts p pieces → m < cells_at p.cutting 0
    → piece ≡ get_or pieces m piece → IsPiece p m piece
piece_read p pieces m piece h leaf is =
    subst (λ q. IsPiece p m q) (sym is) (h.each m piece (subst (λ n. m < n) (sym h.one_each) leaf))

-- the grid of a leaf, from its piece
pub piece_grid : (p : Parts) (m : ℕ) (piece : CellEnds) → IsPiece p m piece → box_grid piece.cell.lo piece.cell.hi ≡ leaf_grid p m
piece_grid p m piece is = λ k. box_grid (is.low_is k) (is.high_is k)

-- one end is another, which tells the label
piece_after : (p : Parts) (m i name : ℕ) (piece : CellEnds) → IsPiece p m piece → i < voxel_count (leaf_grid p m)
    → IsLabelOf p.grid p.low (leaf_voxel p m i) name → IsPiece p m (record { cell = piece.cell; ends = set piece.ends i (Root name) })
piece_after p m i name piece is lt right = record {
  low_is = is.low_is;
  high_is = is.high_is;
  one_each = length-set piece.ends i (Root name) ∙ is.one_each;
  tells = λ j below. pick j below (cases_eq j i);
}
  where
    pick : (j : ℕ) → j < voxel_count (leaf_grid p m) → (j ≡ i) ⊎ (j ≢ i)
        → TellsOf p.grid p.low (leaf_voxel p m j) (end_at (set piece.ends i (Root name)) j)
    pick j below (inl same) =
        let at : end_at (set piece.ends i (Root name)) i ≡ Root name =
        get_or-set_same piece.ends i (Root name) Background (subst (λ n. i < n) (sym is.one_each) lt) in
        subst (λ k. TellsOf p.grid p.low (leaf_voxel p m k) (end_at (set piece.ends i (Root name)) k)) (sym same)
        (subst (λ (e : End). TellsOf p.grid p.low (leaf_voxel p m i) e) (sym at) right)
    pick j below (inr ne) =
        subst (λ (e : End). TellsOf p.grid p.low (leaf_voxel p m j) e) (sym (get_or-set_other piece.ends i j (Root name) Background ne)) (is.tells j below)

pub parts_after : (p : Parts) (pieces : List CellEnds) (m i name : ℕ) (piece : CellEnds) → AreParts p pieces → m < cells_at p.cutting 0
    → piece ≡ get_or pieces m piece → i < voxel_count (leaf_grid p m) → IsLabelOf p.grid p.low (leaf_voxel p m i) name
    → AreParts p (set pieces m (record { cell = piece.cell; ends = set piece.ends i (Root name) }))
parts_after p pieces m i name piece h leaf is lt right = record {
  cut = h.cut;
  one_each = length-set pieces m new ∙ h.one_each;
  each = λ k d below. pick k d (subst (λ n. k < n) (length-set pieces m new) below) (cases_eq k m);
}
  where
    new : CellEnds
    new = record { cell = piece.cell; ends = set piece.ends i (Root name) }

    pick : (k : ℕ) (d : CellEnds) → k < length pieces → (k ≡ m) ⊎ (k ≢ m) → IsPiece p k (get_or (set pieces m new) k d)
    pick k d below (inl same) =
        let at : get_or (set pieces m new) m d ≡ new = get_or-set_same pieces m new d (subst (λ n. m < n) (sym h.one_each) leaf) in
        subst (λ j. IsPiece p j (get_or (set pieces m new) j d)) (sym same)
        (subst (λ q. IsPiece p m q) (sym at) (piece_after p m i name piece (piece_read p pieces m piece h leaf is) lt right))
    pick k d below (inr ne) =
        subst (λ q. IsPiece p k q) (sym (get_or-set_other pieces m k new d ne)) (h.each k d below)

-- voxels of the volume, and one more
pub voxels_more : (p : Parts) (voxels : List ℕ) (v : ℕ) → AreVoxels p voxels → v < voxel_count p.grid.axes → AreVoxels p (voxels ++ v ∷ [])
voxels_more p voxels v are lt k below = pick (eq-or-lt_of_le (omega (arith, length_push voxels v)))
  where
    pick : (k ≡ length voxels) ⊎ (k < length voxels) → get_or (voxels ++ v ∷ []) k 0 < voxel_count p.grid.axes
    pick (inl last) = subst (λ u. u < voxel_count p.grid.axes) (sym (get_or_push voxels v 0 k (sym last))) lt
    pick (inr less) = subst (λ u. u < voxel_count p.grid.axes) (sym (get_or_append_left voxels (v ∷ []) 0 k less)) (are k less)
