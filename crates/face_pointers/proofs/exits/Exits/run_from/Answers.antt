use Rattle.std.proofs.Common.{◌≡◌, ◌-◌, ◌<◌, ◌∙◌, ℕ, List, get_or, sym, ap, subst, subst₂, arith}
use Rattle.agglo_model.specs.Axes.{IsPlace, place_of, voxel_at}
use Rattle.agglo_model.specs.Boxes.{box_grid, box_index}
use Rattle.agglo_model.specs.Cell.{IsInBox}
use Rattle.agglo_model.specs.Cutting.{cells_at, leaf_of}
use Rattle.agglo_model.proofs.BoxPlaces.{index_place}
use Rattle.seg_base.specs.declared.cell.Cell.{Cell}
use Rattle.steepest_ascent.specs.CellEnds.{CellEnds}
use Rattle.face_pointers.specs.Pieces.{AreParts, IsPiece, Parts}
use Rattle.face_pointers.proofs.Pieces.{piece_read}
use Rattle.face_pointers.proofs.Runs.{inside_piece, is_run}
use Rattle.face_pointers.proofs.exits.Exits.run_from.Goals as goal
use Rattle.face_pointers.proofs.exits.Exits.run_from.Goals.{After-grid}

the_parts : (c : After-grid) → AreParts c.args.self.now c.self.inside.pieces.items
the_parts c = subst (λ q. AreParts q c.self.inside.pieces.items) c.self.view_is c.self.invariant

leaf_is : (c : After-grid) → c.leaf_of-leaf.result ≡ leaf_of c.args.self.now.cutting c.args.v
leaf_is c = c.leaf_of-leaf.ensures.value ∙ ap (λ (q : Parts). leaf_of q.cutting c.args.v) c.self.view_is

the_piece : (c : After-grid) → IsPiece c.args.self.now c.leaf_of-leaf.result c.index-piece.result.now
the_piece c = piece_read c.args.self.now c.self.inside.pieces.items c.leaf_of-leaf.result c.index-piece.result.now (the_parts c)
    (subst (λ (q : Parts). c.leaf_of-leaf.result < cells_at q.cutting 0) c.self.view_is c.leaf_of-leaf.ensures.leaf) c.index-piece.ensures

place_is : (c : After-grid) → c.place.result ≡ place_of c.args.self.now.grid.axes c.args.v
place_is c = c.place.ensures.value ∙ ap (λ a. place_of a c.args.v) (c.dims.ensures.value ∙ ap (λ (q : Parts). q.grid.axes) c.self.view_is)

inside : (c : After-grid) → IsInBox c.args.self.now.grid.axes c.index-piece.result.now.cell.lo c.index-piece.result.now.cell.hi c.args.v
inside c = inside_piece c.args.self.now c.args.v c.leaf_of-leaf.result c.index-piece.result.now (the_parts c).cut c.requires (leaf_is c) (the_piece c)

low_is : (c : After-grid) → c.cell.result.now.lo ≡ c.index-piece.result.now.cell.lo
low_is c = ap (λ (cell : Cell). cell.lo) c.cell.ensures

pub overflow_sub-x : goal.overflow_sub-x
overflow_sub-x c =
    omega (arith, (inside c).from_x, ap (λ (l : List ℕ). get_or l 0 0) (place_is c), ap (λ (l : List ℕ). get_or l 0 0) (low_is c))

pub overflow_sub-y : goal.overflow_sub-y
overflow_sub-y c =
    omega (arith, (inside c).from_y, ap (λ (l : List ℕ). get_or l 1 0) (place_is c), ap (λ (l : List ℕ). get_or l 1 0) (low_is c))

pub overflow_sub-z : goal.overflow_sub-z
overflow_sub-z c =
    omega (arith, (inside c).from_z, ap (λ (l : List ℕ). get_or l 2 0) (place_is c), ap (λ (l : List ℕ). get_or l 2 0) (low_is c))

pub voxel-requires : goal.voxel-requires
voxel-requires c =
    let place : List ℕ = c.place.result in
    let lo : List ℕ = c.cell.result.now.lo in
    let piece : CellEnds = c.index-piece.result.now in
    subst (λ a. IsPlace a (get_or place 0 0 - get_or lo 0 0) (get_or place 1 0 - get_or lo 1 0) (get_or place 2 0 - get_or lo 2 0)) (sym c.grid.ensures)
    (subst₂ (λ (q l : List ℕ). IsPlace (box_grid piece.cell.lo piece.cell.hi) (get_or q 0 0 - get_or l 0 0) (get_or q 1 0 - get_or l 1 0) (get_or q 2 0 - get_or l 2 0))
    (sym (place_is c)) (sym (low_is c)) (index_place c.args.self.now.grid.axes piece.cell.lo piece.cell.hi c.args.v (inside c)))

pub overflow_sub-result : goal.overflow_sub-result
overflow_sub-result c =
    omega (arith, (inside c.before).to_x, ap (λ (l : List ℕ). get_or l 0 0) (place_is c.before), ap (λ (cell : Cell). get_or cell.hi 0 0) c.cell-2.ensures)

pub returns : goal.returns
returns c =
    let p : Parts = c.args.self.now in
    let before : After-grid = c.before in
    let piece = the_piece before in
    let axes = p.grid.axes in
    let m = c.leaf_of-leaf.result in
    is_run p c.args.v _ (the_parts before).cut c.requires (leaf_is before)
    (c.voxel.ensures.value
    ∙ (λ k. voxel_at (c.grid.ensures k) (get_or (place_is before k) 0 0 - get_or (low_is before k) 0 0) (get_or (place_is before k) 1 0 - get_or (low_is before k) 1 0) (get_or (place_is before k) 2 0 - get_or (low_is before k) 2 0))
    ∙ (λ k. box_index axes (piece.low_is k) (piece.high_is k) c.args.v))
    (λ k. get_or ((ap (λ (cell : Cell). cell.hi) c.cell-2.ensures ∙ piece.high_is) k) 0 0 - get_or (place_is before k) 0 0)
