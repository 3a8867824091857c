use Rattle.std.proofs.Common.{◌≤◌, ◌<◌, sym, ap, ◌∙◌, subst}
use Rattle.std.proofs.lemmas.Result.{err_from_is_err_and}
use Rattle.agglo_model.specs.Axes.{voxel_count}
use Rattle.merge_tree.proofs.Headers.{axes_read, threshold_read, tells_short, tells_magic, tells_axes, tells_denominator, tells_count, header_sound}
use Rattle.merge_tree.proofs.tree_reading.head_of.Goals as goal

pub returns-then-header-lt-HEADER_LENGTH : goal.returns-then-header-lt-HEADER_LENGTH
returns-then-header-lt-HEADER_LENGTH c = tells_short c.args.header.now c.if-header-lt-HEADER_LENGTH.true

pub returns-then-not-starts_with : goal.returns-then-not-starts_with
returns-then-not-starts_with c =
    tells_magic c.args.header.now c.if-header-lt-HEADER_LENGTH.false (sym c.starts_with.ensures.value ∙ c.if-not-starts_with.true)

pub returns-in_err-dims : goal.returns-in_err-dims
returns-in_err-dims c =
    let p = err_from_is_err_and c.from_residual.result c.from_residual.ensures.1 in
    rw (p.1, p.2) (tells_axes c.args.header.now _ c.in_err-dims.field-0.0 c.if-header-lt-HEADER_LENGTH.false
    (sym c.starts_with.ensures.value ∙ c.if-not-starts_with.false)
    (axes_read c.args.header.now _ _ _ c.u32_at.ensures c.u32_at-2.ensures c.u32_at-3.ensures) c.in_err-dims.ensures)

pub returns-in_default : goal.returns-in_default
returns-in_default c =
    tells_denominator c.args.header.now _ _ c.if-header-lt-HEADER_LENGTH.false
    (sym c.starts_with.ensures.value ∙ c.if-not-starts_with.false)
    (axes_read c.args.header.now _ _ _ c.u32_at.ensures c.u32_at-2.ensures c.u32_at-3.ensures) c.in_ok-dims.ensures.0
    c.u32_at-5.ensures c.in_default.ensures

pub returns-then-merges-voxels : goal.returns-then-merges-voxels
returns-then-merges-voxels c =
    let count = c.voxels.ensures.value ∙ ap voxel_count c.in_ok-dims.ensures.1 in
    tells_count c.args.header.now _ _ _ c.if-header-lt-HEADER_LENGTH.false
    (sym c.starts_with.ensures.value ∙ c.if-not-starts_with.false)
    (axes_read c.args.header.now _ _ _ c.u32_at.ensures c.u32_at-2.ensures c.u32_at-3.ensures) c.in_ok-dims.ensures.0
    c.u32_at-5.ensures c.in-Ok.ensures.0 c.u32_at-merges.ensures
    (subst (λ n. n ≤ c.u32_at-merges.result) count c.if-merges-voxels.true)

pub returns : goal.returns
returns c =
    let count = c.voxels.ensures.value ∙ ap voxel_count c.in_ok-dims.ensures.1 in
    let axes = axes_read c.args.header.now _ _ _ c.u32_at.ensures c.u32_at-2.ensures c.u32_at-3.ensures in (
      header_sound c.args.header.now _ _ _ c.if-header-lt-HEADER_LENGTH.false
          (sym c.starts_with.ensures.value ∙ c.if-not-starts_with.false) axes c.in_ok-dims.ensures.0
          c.u32_at-5.ensures c.in-Ok.ensures.0 c.u32_at-merges.ensures
          (subst (λ n. c.u32_at-merges.result < n) count c.if-merges-voxels.false),
      record {
        axes = c.in_ok-dims.ensures.1 ∙ axes;
        threshold = c.in-Ok.ensures.1 ∙ threshold_read c.args.header.now _ _ c.u32_at-4.ensures c.u32_at-5.ensures;
        merges = c.u32_at-merges.ensures;
      },
    )
