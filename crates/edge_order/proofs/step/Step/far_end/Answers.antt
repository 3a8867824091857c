use Rattle.std.proofs.Common.{◌≡◌, ◌*◌, true, ap₂, subst, arith}
use Rattle.agglo_model.specs.Axes.{Axes}
use Rattle.edge_order.specs.Steps.{leads_within}
use Rattle.edge_order.specs.declared.step.Step.TheVariants.{OnX, OnY, OnZ}
use Rattle.edge_order.proofs.StepPlaces.{far_voxel}
use Rattle.edge_order.proofs.step.Step.far_end.Goals as goal

pub returns-in-OnX-clause-voxel : goal.returns-in-OnX-clause-voxel
returns-in-OnX-clause-voxel c =
    let a : Axes = c.args.dims.now in
    let within = subst (λ s. leads_within a c.args.v s ≡ true) c.in-OnX.is c.requires.within in
    let far = far_voxel a c.args.v OnX c.nx-row.ensures.limits c.requires.voxel within in
    omega (arith, far.1.leads, far.1.voxel)

pub returns-in-OnY-clause-voxel : goal.returns-in-OnY-clause-voxel
returns-in-OnY-clause-voxel c =
    let a : Axes = c.args.dims.now in
    let within = subst (λ s. leads_within a c.args.v s ≡ true) c.in-OnY.is c.requires.within in
    let far = far_voxel a c.args.v OnY c.nx-row.ensures.limits c.requires.voxel within in
    omega (arith, far.1.leads, far.1.voxel, c.nx-row.ensures.value)

pub returns-in-OnZ-clause-voxel : goal.returns-in-OnZ-clause-voxel
returns-in-OnZ-clause-voxel c =
    let a : Axes = c.args.dims.now in
    let within = subst (λ s. leads_within a c.args.v s ≡ true) c.in-OnZ.is c.requires.within in
    let far = far_voxel a c.args.v OnZ c.nx-row.ensures.limits c.requires.voxel within in
    let layer : c.nx-row.result * c.ny.result ≡ a.nx * a.ny = ap₂ (λ m n. m * n) c.nx-row.ensures.value c.ny.ensures.value in
    omega (arith, far.1.leads, far.1.voxel)
