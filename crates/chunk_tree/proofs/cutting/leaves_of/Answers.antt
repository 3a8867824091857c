use Rattle.std.proofs.Common.{◌∙◌, sym, subst}
use Rattle.std.specs.Int.{div_ceil}
use Rattle.agglo_model.specs.Axes.{IsWithinLimits}
use Rattle.agglo_model.proofs.NodeCells.{level_grid-leaves, leaves_limits}
use Rattle.chunk_tree.proofs.cutting.leaves_of.Goals as goal

pub grid_of-requires : goal.grid_of-requires
grid_of-requires c = subst IsWithinLimits
    (λ i. record {
      nx = sym (c.div_ceil.ensures ∙ (λ j. div_ceil (c.nx.ensures.value j) (c.nx-2.ensures.value j))) i;
      ny = sym (c.div_ceil-2.ensures ∙ (λ j. div_ceil (c.ny.ensures.value j) (c.ny-2.ensures.value j))) i;
      nz = sym (c.div_ceil-3.ensures ∙ (λ j. div_ceil (c.nz.ensures.value j) (c.nz-2.ensures.value j))) i;
    })
    (leaves_limits c.args.dims.now c.args.leaf.now c.nx.ensures.limits c.nx-2.ensures.limits)

pub returns : goal.returns
returns c = c.grid_of.ensures
    ∙ (λ i. record {
      nx = (c.div_ceil.ensures ∙ (λ j. div_ceil (c.nx.ensures.value j) (c.nx-2.ensures.value j))) i;
      ny = (c.div_ceil-2.ensures ∙ (λ j. div_ceil (c.ny.ensures.value j) (c.ny-2.ensures.value j))) i;
      nz = (c.div_ceil-3.ensures ∙ (λ j. div_ceil (c.nz.ensures.value j) (c.nz-2.ensures.value j))) i;
    })
    ∙ sym (level_grid-leaves c.args.dims.now c.args.leaf.now)
