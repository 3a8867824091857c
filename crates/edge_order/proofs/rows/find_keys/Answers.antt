use Rattle.std.proofs.Common.{◌≡◌, ◌+◌, ◌*◌, ◌<◌, ◌&&◌, nat_lt, nat_le, length, get_or, refl, arith, ap, ap₂, ◌∙◌, subst, ltb-true}
use Rattle.agglo_model.specs.Axes.{Axes, IsPlace, edge_count, voxel_at}
use Rattle.agglo_model.specs.Grid.{Grid}
use Rattle.edge_order.specs.Keys.{key, raised}
use Rattle.edge_order.specs.declared.step.Step.TheVariants.{BackX, BackY, BackZ, OnX, OnY, OnZ}
use Rattle.edge_order.proofs.RowKeys.{row_within, row_best}
use Rattle.edge_order.proofs.rows.find_keys.Goals as goal

pub raise_all-requires-3 : goal.raise_all-requires-3
raise_all-requires-3 c = λ t.
    let a : Axes = c.args.vol.now.axes in
    let ax : c.dims-dims.result.now ≡ a = c.dims-dims.ensures.value in
    let v_is : c.voxel.result ≡ voxel_at a c.args.x c.args.y c.args.z =
    c.voxel.ensures.value ∙ ap (λ (d : Axes). voxel_at d c.args.x c.args.y c.args.z) ax in
    let nx_is : c.nx.result ≡ a.nx = c.nx.ensures.value ∙ ap (λ (d : Axes). d.nx) ax in
    let ny_is : c.ny-2.result ≡ a.ny = c.ny-2.ensures.value ∙ ap (λ (d : Axes). d.ny) ax in
    let less = ltb-true (c.args.y + 1) c.ny-2.result t in
    let whole = c.dims-dims.ensures.whole in
    let h = row_within a (c.args.y + 1) c.args.z whole.limits (subst (λ n. c.args.y + 1 < n) ny_is less) c.requires.in_z in
    let len : length c.bytes-bytes.result.now ≡ edge_count a = ap length c.bytes-bytes.ensures.value ∙ whole.whole_body in
    let keys : length c.raise-2.new.keys ≡ length c.args.keys.now =
    c.raise-2.auto.keys ∙ c.raise_all-2.auto.keys ∙ c.raise_all.auto.keys ∙ c.raise.auto.keys ∙ c.fill.ensures.len in
    omega arith

pub raise_all-requires-4 : goal.raise_all-requires-4
raise_all-requires-4 c = λ t.
    let a : Axes = c.args.vol.now.axes in
    let ax : c.dims-dims.result.now ≡ a = c.dims-dims.ensures.value in
    let v_is : c.voxel.result ≡ voxel_at a c.args.x c.args.y c.args.z =
    c.voxel.ensures.value ∙ ap (λ (d : Axes). voxel_at d c.args.x c.args.y c.args.z) ax in
    let layer_is : c.nx.result * c.ny.result ≡ a.nx * a.ny = ap₂ (λ m n. m * n)
    (c.nx.ensures.value ∙ ap (λ (d : Axes). d.nx) ax) (c.ny.ensures.value ∙ ap (λ (d : Axes). d.ny) ax) in
    let nz_is : c.nz.result ≡ a.nz = c.nz.ensures.value ∙ ap (λ (d : Axes). d.nz) ax in
    let less = ltb-true (c.args.z + 1) c.nz.result t in
    let whole = c.dims-dims.ensures.whole in
    let h = row_within a c.args.y (c.args.z + 1) whole.limits c.requires.in_y (subst (λ n. c.args.z + 1 < n) nz_is less) in
    let len : length c.bytes-bytes.result.now ≡ edge_count a = ap length c.bytes-bytes.ensures.value ∙ whole.whole_body in
    let keys : length c.raise_all-3.new.keys ≡ length c.args.keys.now =
    c.raise_all-3.auto.keys ∙ c.raise-2.auto.keys ∙ c.raise_all-2.auto.keys ∙ c.raise_all.auto.keys ∙ c.raise.auto.keys
    ∙ c.fill.ensures.len in
    omega arith

pub returns : goal.returns
returns c = λ low i lt.
    let g : Grid = c.args.vol.now in
    let a : Axes = g.axes in
    let x = c.args.x in
    let y = c.args.y in
    let z = c.args.z in
    let ax : c.dims-dims.result.now ≡ a = c.dims-dims.ensures.value in
    let bytes_is : c.bytes-bytes.result.now ≡ g.bytes = c.bytes-bytes.ensures.value in
    let v_is : c.voxel.result ≡ voxel_at a x y z = c.voxel.ensures.value ∙ ap (λ (d : Axes). voxel_at d x y z) ax in
    let nx_is : c.nx.result ≡ a.nx = c.nx.ensures.value ∙ ap (λ (d : Axes). d.nx) ax in
    let length_is : c.nx-2.result ≡ a.nx = c.nx-2.ensures.value ∙ ap (λ (d : Axes). d.nx) ax in
    let layer_is : c.nx.result * c.ny.result ≡ a.nx * a.ny =
    ap₂ (λ m n. m * n) nx_is (c.ny.ensures.value ∙ ap (λ (d : Axes). d.ny) ax) in
    let ny_is : c.ny-2.result ≡ a.ny = c.ny-2.ensures.value ∙ ap (λ (d : Axes). d.ny) ax in
    let nz_is : c.nz.result ≡ a.nz = c.nz.ensures.value ∙ ap (λ (d : Axes). d.nz) ax in
    let l5 = c.raise_all-4.auto.keys in
    let l4 = c.raise_all-3.auto.keys in
    let l3 = c.raise-2.auto.keys in
    let l2 = c.raise_all-2.auto.keys in
    let l1 = c.raise_all.auto.keys in
    let l0 = c.raise.auto.keys in
    let width : length c.fill.new.self ≡ length c.args.keys.now = c.fill.ensures.len in
    let w = length c.args.keys.now in
    let within : i < w = omega arith in
    let place : IsPlace a (x + i) y z = record { in_x = omega (arith, c.requires.in_x); in_y = c.requires.in_y; in_z = c.requires.in_z } in
    let e1 = c.raise.ensures i (omega arith) in
    let e2 = c.raise_all.ensures i (omega arith) in
    let e3 = c.raise_all-2.ensures i (omega arith) in
    let e4 = c.raise-2.ensures i (omega arith) in
    let e5 = c.raise_all-3.ensures i (omega arith) in
    let e6 = c.raise_all-4.ensures i lt in
    let blank : get_or c.fill.new.self i 0 ≡ 0 = c.fill.ensures.clones i 0 (omega arith) refl in
    let k1 = get_or c.raise.new.keys i 0 in
    let k2 = get_or c.raise_all.new.keys i 0 in
    let k3 = get_or c.raise_all-2.new.keys i 0 in
    let k4 = get_or c.raise-2.new.keys i 0 in
    let k5 = get_or c.raise_all-3.new.keys i 0 in
    let first = 3 * c.voxel.result in
    let from_is = c.saturating_sub-from.ensures in
    let to_is = c.min-to.ensures in
    row_best g low x i y z w c.nx-2.result c.ny-2.result c.nz.result k1 k2 k3 k4 k5 (get_or c.raise_all-4.new.keys i 0)
    (first + 3 * i) (first + 1 + 3 * i) (first + 2 + 3 * i) (first + 3 + 3 * i)
    (first + 3 * c.nx.result + 1 + 3 * i) (first + 3 * c.nx.result * c.ny.result + 2 + 3 * i)
    c.dims-dims.ensures.whole.limits within c.requires.in_x place length_is ny_is nz_is
    (omega arith) (omega arith) (omega arith) (omega arith) (omega arith) (omega arith)
    (e1 ∙ ap₂ (λ k bs. raised k (nat_le c.saturating_sub-from.result i && nat_lt i w) (key (get_or bs (first + 3 * i) 0) BackX)) blank bytes_is
    ∙ ap (λ n. raised 0 (nat_le n i && nat_lt i w) (key (get_or g.bytes (first + 3 * i) 0) BackX)) from_is)
    (e2 ∙ ap (λ bs. raised k1 (nat_lt 0 y) (key (get_or bs (first + 1 + 3 * i) 0) BackY)) bytes_is)
    (e3 ∙ ap (λ bs. raised k2 (nat_lt 0 z) (key (get_or bs (first + 2 + 3 * i) 0) BackZ)) bytes_is)
    (e4 ∙ ap (λ bs. raised k3 (nat_le 0 i && nat_lt i c.min-to.result) (key (get_or bs (first + 3 + 3 * i) 0) OnX)) bytes_is
    ∙ ap (λ n. raised k3 (nat_le 0 i && nat_lt i n) (key (get_or g.bytes (first + 3 + 3 * i) 0) OnX)) to_is)
    (e5 ∙ ap (λ bs. raised k4 (nat_lt (y + 1) c.ny-2.result) (key (get_or bs (first + 3 * c.nx.result + 1 + 3 * i) 0) OnY)) bytes_is)
    (e6 ∙ ap (λ bs. raised k5 (nat_lt (z + 1) c.nz.result) (key (get_or bs (first + 3 * c.nx.result * c.ny.result + 2 + 3 * i) 0) OnZ)) bytes_is)
