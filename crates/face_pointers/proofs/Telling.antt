-- What the end of a voxel within its piece tells of its label, and the way from piece to piece.
use Rattle.std.proofs.Common.{ℕ, ◌<◌, ◌≤◌, sym, ◌∙◌, subst, arith}
use Rattle.agglo_model.specs.Axes.{voxel_count}
use Rattle.agglo_model.specs.EdgeOrder.{EdgeBefore}
use Rattle.agglo_model.specs.Grid.{Grid, IsWhole, affinity}
use Rattle.agglo_model.proofs.BestEdge.{before_trans, best_unique}
use Rattle.agglo_model.proofs.Ascent.{next_before, standing}
use Rattle.seg_base.specs.declared.cell.Cell.{Cell}
use Rattle.steepest_ascent.specs.CellEnds.{IsEndOf, Stays, Ends, Leaves, Climbs}
use Rattle.steepest_ascent.specs.Progress.{IsLabelOf}
use Rattle.steepest_ascent.specs.Turns.{ClimbsTo}
use Rattle.steepest_ascent.specs.declared.ends.End.{End}
use Rattle.steepest_ascent.specs.declared.ends.End.TheVariants.{Background, Root, Exit}
use Rattle.steepest_ascent.proofs.Filling.{label_along, label_at_end, label_back, next_voxel}
use Rattle.face_pointers.proofs.Standings.{standing_before}
use Rattle.face_pointers.specs.Exits.{LeadsOn, TellsOf}

-- an ascent that goes on leads on
climb_leads : (g : Grid) (low v w : ℕ) → ClimbsTo g low v w → LeadsOn g low v w
climb_leads g low v w h = record {
  edge = h.edge;
  next = h.next;
  best = h.best;
  far_best = h.far_best;
  before = next_before g low v w h.edge h.next h.best h.ends h.far_best h.other;
  voxel = next_voxel g low v w h;
  same_label = label_along g low v w h;
}

-- so what is told at the next voxel is told here too
tells_back : (g : Grid) (low v w : ℕ) (end : End) → ClimbsTo g low v w → TellsOf g low w end → TellsOf g low v end
tells_back g low v w Background h is = label_back g low v w 0 h is
tells_back g low v w (Root name) h is = label_back g low v w name h is
tells_back g low v w (Exit u) h is = record {
  edge = h.edge;
  next = is.next;
  best = h.best;
  far_best = is.far_best;
  before = before_trans g is.next is.edge h.edge is.before
      (subst (λ e. EdgeBefore g e h.edge) (best_unique g low w h.next is.edge h.far_best is.best)
      (next_before g low v w h.edge h.next h.best h.ends h.far_best h.other));
  voxel = is.voxel;
  same_label = λ basins are. label_along g low v w h basins are ∙ is.same_label basins are;
}

pub tells_of_end : (g : Grid) (low : ℕ) (cell : Cell) {v : ℕ} {end : End} → v < voxel_count g.axes
    → IsEndOf g low cell v end → TellsOf g low v end
tells_of_end g low cell {v} lt (Stays none) = λ basins are. sym ((are.background v lt).1 none)
tells_of_end g low cell lt (Ends {v} {name} h) = label_at_end g low v name h
tells_of_end g low cell lt (Leaves {v} {w} h out) = climb_leads g low v w h
tells_of_end g low cell lt (Climbs {v} {w} {end} h inside is) =
    tells_back g low v w end h (tells_of_end g low cell (next_voxel g low v w h) is)

-- the way from piece to piece comes to an end
pub leads_falls : (g : Grid) (low v w : ℕ) → IsWhole g → LeadsOn g low v w
    → standing 255 g low w < standing 255 g low v
leads_falls g low v w whole h = standing_before 255 g low v w h.edge h.next most h.best h.far_best h.before
  where
    most : (k : ℕ) → affinity g k ≤ 255
    most k = let p = whole.bytes_fit k in omega arith

-- both ends of a part of the way have one label
pub label_from : (g : Grid) (low v w label : ℕ) → LeadsOn g low v w → IsLabelOf g low w label → IsLabelOf g low v label
label_from g low v w label h is basins are = is basins are ∙ sym (h.same_label basins are)

pub label_to : (g : Grid) (low v w label : ℕ) → LeadsOn g low v w → IsLabelOf g low v label → IsLabelOf g low w label
label_to g low v w label h is basins are = is basins are ∙ h.same_label basins are
