use Rattle.std.proofs.Common.{◌≡◌, ℕ, ◌+◌, ◌*◌, ◌<◌, ◌≤◌, nat_lt, get_or, arith, sym, ap, ap₂, ◌∙◌, subst, subst₂, true, ◌^◌}
use Rattle.agglo_model.specs.Axes.{Axes, edge_count, voxel_count, coordinate}
use Rattle.agglo_model.specs.Grid.{Grid, affinity}
use Rattle.edge_order.specs.Keys.{key, raised}
use Rattle.edge_order.specs.Steps.{IsBestStep}
use Rattle.edge_order.specs.declared.step.Step.TheVariants.{BackX, BackY, BackZ, OnX, OnY, OnZ}
use Rattle.edge_order.proofs.Tracks.{best_of_six, edge_below, edge_on_x, edge_on_y, edge_on_z, layer-le}
use Rattle.edge_order.proofs.best.step_at_place.Goals as goal
use Rattle.edge_order.proofs.best.step_at_place.Goals.{After-ny}

pub raised-best-requires-4 : goal.raised-best-requires-4
raised-best-requires-4 c =
    let a = c.args.vol.now.axes in
    let nx_is : c.nx.result ≡ a.nx = c.nx.ensures.value ∙ ap (λ (d : Axes). d.nx) c.dims-dims.ensures.value in
    let x_is : get_or c.args.place 0 0 ≡ coordinate a c.args.v 0 = ap (λ p. get_or p 0 0) c.requires.place in
    λ t. edge_below a (3 * (c.args.v + 1)) (nat_lt (coordinate a c.args.v 0 + 1) a.nx)
    (edge_on_x a c.args.v c.dims-dims.ensures.whole.limits c.requires.voxel)
    (subst₂ (λ x n. nat_lt (x + 1) n ≡ true) x_is nx_is t)

pub raised-best-requires-5 : goal.raised-best-requires-5
raised-best-requires-5 c =
    let a = c.args.vol.now.axes in
    let row_is : c.nx-row.result ≡ a.nx = c.nx-row.ensures.value ∙ ap (λ (d : Axes). d.nx) c.dims-dims.ensures.value in
    let ny_is : c.ny-2.result ≡ a.ny = c.ny-2.ensures.value ∙ ap (λ (d : Axes). d.ny) c.dims-dims.ensures.value in
    let y_is : get_or c.args.place 1 0 ≡ coordinate a c.args.v 1 = ap (λ p. get_or p 1 0) c.requires.place in
    λ t. subst (λ r. 3 * (c.args.v + r) + 1 < edge_count a) (sym row_is)
    (edge_below a (3 * (c.args.v + a.nx) + 1) (nat_lt (coordinate a c.args.v 1 + 1) a.ny)
    (edge_on_y a c.args.v c.dims-dims.ensures.whole.limits c.requires.voxel)
    (subst₂ (λ y n. nat_lt (y + 1) n ≡ true) y_is ny_is t))

-- a layer and the volume have few voxels
few_of_layer : (c : After-ny) → (c.nx-row.result * c.ny.result ≤ 2 ^ 28) × (voxel_count c.args.vol.now.axes ≤ 2 ^ 28)
few_of_layer c =
    let a = c.args.vol.now.axes in
    let row_is : c.nx-row.result ≡ a.nx = c.nx-row.ensures.value ∙ ap (λ (d : Axes). d.nx) c.dims-dims.ensures.value in
    let ny_is : c.ny.result ≡ a.ny = c.ny.ensures.value ∙ ap (λ (d : Axes). d.ny) c.dims-dims.ensures.value in
    let layer_is : c.nx-row.result * c.ny.result ≡ a.nx * a.ny = ap₂ (λ m n. m * n) row_is ny_is in
    let wide = layer-le a c.dims-dims.ensures.whole.limits in
    (omega arith, c.dims-dims.ensures.whole.limits.most_voxels)

pub overflow_mul-v-6 : goal.overflow_mul-v-6
overflow_mul-v-6 c = omega (arith, few_of_layer (goal.at.overflow_mul-v-6 c).After-ny, c.requires.voxel)

pub overflow_add-v-7 : goal.overflow_add-v-7
overflow_add-v-7 c = omega (arith, few_of_layer (goal.at.overflow_add-v-7 c).After-ny, c.requires.voxel)

pub raised-best-requires-6 : goal.raised-best-requires-6
raised-best-requires-6 c =
    let a = c.args.vol.now.axes in
    let row_is : c.nx-row.result ≡ a.nx = c.nx-row.ensures.value ∙ ap (λ (d : Axes). d.nx) c.dims-dims.ensures.value in
    let ny_is : c.ny.result ≡ a.ny = c.ny.ensures.value ∙ ap (λ (d : Axes). d.ny) c.dims-dims.ensures.value in
    let nz_is : c.nz.result ≡ a.nz = c.nz.ensures.value ∙ ap (λ (d : Axes). d.nz) c.dims-dims.ensures.value in
    let z_is : get_or c.args.place 2 0 ≡ coordinate a c.args.v 2 = ap (λ p. get_or p 2 0) c.requires.place in
    λ t. subst₂ (λ m n. 3 * (c.args.v + m * n) + 2 < edge_count a) (sym row_is) (sym ny_is)
    (edge_below a (3 * (c.args.v + a.nx * a.ny) + 2) (nat_lt (coordinate a c.args.v 2 + 1) a.nz)
    (edge_on_z a c.args.v c.dims-dims.ensures.whole.limits c.requires.voxel)
    (subst₂ (λ z n. nat_lt (z + 1) n ≡ true) z_is nz_is t))

pub returns : goal.returns
returns c =
    let g : Grid = c.args.vol.now in
    let a : Axes = g.axes in
    let v : ℕ = c.args.v in
    let ax : c.dims-dims.result.now ≡ a = c.dims-dims.ensures.value in
    let row_is : c.nx-row.result ≡ a.nx = c.nx-row.ensures.value ∙ ap (λ (d : Axes). d.nx) ax in
    let layer_is : c.nx-row.result * c.ny.result ≡ a.nx * a.ny =
    ap₂ (λ m n. m * n) row_is (c.ny.ensures.value ∙ ap (λ (d : Axes). d.ny) ax) in
    let nx_is : c.nx.result ≡ a.nx = c.nx.ensures.value ∙ ap (λ (d : Axes). d.nx) ax in
    let ny_is : c.ny-2.result ≡ a.ny = c.ny-2.ensures.value ∙ ap (λ (d : Axes). d.ny) ax in
    let nz_is : c.nz.result ≡ a.nz = c.nz.ensures.value ∙ ap (λ (d : Axes). d.nz) ax in
    let x_is : get_or c.args.place 0 0 ≡ coordinate a v 0 = ap (λ p. get_or p 0 0) c.requires.place in
    let y_is : get_or c.args.place 1 0 ≡ coordinate a v 1 = ap (λ p. get_or p 1 0) c.requires.place in
    let z_is : get_or c.args.place 2 0 ≡ coordinate a v 2 = ap (λ p. get_or p 2 0) c.requires.place in
    let k1 = c.raised-best.result in
    let k2 = c.raised-best-2.result in
    let k3 = c.raised-best-3.result in
    let k4 = c.raised-best-4.result in
    let k5 = c.raised-best-5.result in
    let best = best_of_six g c.args.low v k1 k2 k3 k4 k5 c.raised-best-6.result
    c.dims-dims.ensures.whole.limits c.requires.voxel
    (c.raised-best.ensures ∙ ap (λ x. raised 0 (nat_lt 0 x) (key (affinity g (3 * v)) BackX)) x_is)
    (c.raised-best-2.ensures ∙ ap (λ y. raised k1 (nat_lt 0 y) (key (affinity g (3 * v + 1)) BackY)) y_is)
    (c.raised-best-3.ensures ∙ ap (λ z. raised k2 (nat_lt 0 z) (key (affinity g (3 * v + 2)) BackZ)) z_is)
    (c.raised-best-4.ensures
    ∙ ap₂ (λ x n. raised k3 (nat_lt (x + 1) n) (key (affinity g (3 * (v + 1))) OnX)) x_is nx_is)
    (c.raised-best-5.ensures
    ∙ ap₂ (λ y n. raised k4 (nat_lt (y + 1) n) (key (affinity g (3 * (v + c.nx-row.result) + 1)) OnY)) y_is ny_is
    ∙ ap (λ r. raised k4 (nat_lt (coordinate a v 1 + 1) a.ny) (key (affinity g (3 * (v + r) + 1)) OnY)) row_is)
    (c.raised-best-6.ensures
    ∙ ap₂ (λ z n. raised k5 (nat_lt (z + 1) n) (key (affinity g (3 * (v + c.nx-row.result * c.ny.result) + 2)) OnZ)) z_is nz_is
    ∙ ap (λ l. raised k5 (nat_lt (coordinate a v 2 + 1) a.nz) (key (affinity g (3 * (v + l) + 2)) OnZ)) layer_is) in
    subst (λ s. IsBestStep g c.args.low v s) (sym c.of_key.ensures) best
