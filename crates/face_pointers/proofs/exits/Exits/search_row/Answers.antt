use Rattle.std.proofs.Common.{◌≡◌, ◌+◌, ◌-◌, ◌<◌, sym, subst, arith}
use Rattle.agglo_model.specs.Axes.{Axes, voxel_at, voxel_count}
use Rattle.agglo_model.proofs.Places.{voxel_at-lt}
use Rattle.face_pointers.proofs.exits.Exits.search_row.Goals as goal

pub search_exit-requires-then-z-nz-clause-voxel : goal.search_exit-requires-then-z-nz-clause-voxel
search_exit-requires-then-z-nz-clause-voxel c =
    let a : Axes = c.args.grid.now in
    let last : c.voxel-first.result + (c.nx-width.result - 1) ≡ voxel_at a (a.nx - 1) c.args.y c.args.z =
    omega (arith, c.voxel-first.ensures.value, c.nx-width.ensures.value) in
    subst (λ g. c.voxel-first.result + (c.nx-width.result - 1) < voxel_count g)
    c.requires.grid
    (subst (λ i. i < voxel_count a) (sym last)
    (voxel_at-lt a (a.nx - 1) c.args.y c.args.z
    (record { in_x = omega (arith, c.nx-width.ensures.limits.some_x); in_y = c.requires.in_y; in_z = c.requires.in_z })))

pub search_exit-requires-in-loop-x-clause-voxel : goal.search_exit-requires-in-loop-x-clause-voxel
search_exit-requires-in-loop-x-clause-voxel c =
    let a : Axes = c.args.grid.now in
    let here : c.voxel-first.result + c.loop-x.x ≡ voxel_at a c.loop-x.x c.args.y c.args.z = omega (arith, c.voxel-first.ensures.value) in
    subst (λ g. c.voxel-first.result + c.loop-x.x < voxel_count g)
    c.requires.grid
    (subst (λ i. i < voxel_count a) (sym here)
    (voxel_at-lt a c.loop-x.x c.args.y c.args.z
    (record { in_x = omega (arith, c.nx-width.ensures.value); in_y = c.requires.in_y; in_z = c.requires.in_z })))
