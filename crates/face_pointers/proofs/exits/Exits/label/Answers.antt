use Rattle.std.proofs.Common.{◌∙◌, sym}
use Rattle.face_pointers.specs.Pieces.{Parts}
use Rattle.face_pointers.proofs.Telling.{leads_falls}
use Rattle.face_pointers.proofs.exits.Exits.label.Goals as goal

pub returns-in-Background : goal.returns-in-Background
returns-in-Background c = λ basins are. c.in-Background.ensures.tells basins are ∙ c.loop-name.invariant.same_label basins are

pub returns-in-Root : goal.returns-in-Root
returns-in-Root c = λ basins are. c.in-Root.ensures.tells basins are ∙ c.loop-name.invariant.same_label basins are

pub loop-name-smaller : goal.loop-name-smaller
loop-name-smaller c =
    let p : Parts = c.args.self.now in
    leads_falls p.grid p.low c.loop-name.here c.in-Exit.next c.in-Exit.ensures.whole c.in-Exit.ensures.tells

pub loop-name-preserved : goal.loop-name-preserved
loop-name-preserved c = record {
  voxel = c.in-Exit.ensures.tells.voxel;
  same_label = λ basins are. sym (c.in-Exit.ensures.tells.same_label basins are) ∙ c.loop-name.invariant.same_label basins are;
}
