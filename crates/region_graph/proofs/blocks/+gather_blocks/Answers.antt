use Rattle.std.proofs.Common.{◌≡◌, ◌+◌, ◌*◌, ◌-◌, ◌/◌, ◌<◌, ◌≤◌, ℕ, get_or, set, sym, subst, arith}
use Rattle.region_graph.specs.Boxes.{GainsContacts, IsBlock, ends_above, volume_of}
use Rattle.region_graph.specs.Lists.{count_of}
use Rattle.agglo_model.specs.PairOrder.{most_edges}
use Rattle.region_graph.proofs.Halves.{IsHalved, span, span_halves, volume_halves, lower_block, upper_block, gains-halves}
use Rattle.region_graph.proofs.blocks.+gather_blocks.Goals as goal
use Rattle.region_graph.proofs.blocks.+gather_blocks.Goals.{After-up_to-lower}

-- the coordinate at which the block is halved
abbrev middle : (t : ℕ) → After-up_to-lower t → ℕ
middle t c = let block = c.args.block.now in let axis = c.widest-axis.result in
    get_or block.lo axis 0 + (get_or block.hi axis 0 - get_or block.lo axis 0) / 2

halved : (t : ℕ) (c : After-up_to-lower t) → IsHalved c.args.site.now.grid.axes c.args.outer.now.lo c.args.block.now.lo c.args.block.now.hi
    c.widest-axis.result (middle t c)
halved t c = record {
  block = c.requires.part;
  three = c.widest-axis.ensures;
  low = omega (arith, c.if-high-low-le-SIDE.false);
  high = omega (arith, c.if-high-low-le-SIDE.false);
}

-- how many voxels both halves have
volumes : (t : ℕ) (c : After-up_to-lower t) → volume_of c.args.block.now.lo c.args.block.now.hi
    ≡ volume_of c.args.block.now.lo (set c.args.block.now.hi c.widest-axis.result (middle t c))
    + volume_of (set c.args.block.now.lo c.widest-axis.result (middle t c)) c.args.block.now.hi
volumes t c = let h = halved t c in let block = c.args.block.now in
    volume_halves block.lo block.hi c.widest-axis.result (middle t c) h.three h.block.lo_three h.block.hi_three
    (omega (arith, h.low)) (omega (arith, h.high))

pub gather_blocks-requires : goal.gather_blocks-requires
gather_blocks-requires t c =
    let at = (goal.at.gather_blocks-requires t c).After-up_to-lower in
    let block = c.args.block.now in
    let a = c.args.site.now.grid.axes in
    let outer = c.args.outer.now.lo in
    let axis = c.widest-axis.result in
    let falls = span_halves a outer block.lo block.hi axis (middle t at) (halved t at) in
    let half = lower_block a outer block.lo block.hi axis (middle t at) (halved t at) in
    let both = volumes t at in (
      subst (λ z. span z.lo z.hi < t) (sym c.up_to-lower.ensures) (omega (arith, falls.0, c.decreases)),
      (
        subst (λ z. IsBlock a outer z.lo z.hi) (sym c.up_to-lower.ensures) half,
        subst (λ z. count_of c.args.edges.now.items + 3 * volume_of z.lo z.hi ≤ most_edges) (sym c.up_to-lower.ensures)
            (omega (arith, both, c.requires.room)),
      ),
    )

pub gather_blocks-requires-2 : goal.gather_blocks-requires-2
gather_blocks-requires-2 t c =
    let at = (goal.at.gather_blocks-requires-2 t c).After-up_to-lower in
    let block = c.args.block.now in
    let a = c.args.site.now.grid.axes in
    let outer = c.args.outer.now.lo in
    let axis = c.widest-axis.result in
    let falls = span_halves a outer block.lo block.hi axis (middle t at) (halved t at) in
    let half = upper_block a outer block.lo block.hi axis (middle t at) (halved t at) in
    let both = volumes t at in
    let before = c.gather_blocks.new.edges.items in
    let count = subst (λ z. count_of before ≤ count_of c.args.edges.now.items + 3 * volume_of z.lo z.hi)
    c.up_to-lower.ensures c.in_ok-gather_blocks.ensures.count in (
      subst (λ z. span z.lo z.hi < t) (sym c.from_on-upper.ensures) (omega (arith, falls.1, c.decreases)),
      (
        subst (λ z. IsBlock a outer z.lo z.hi) (sym c.from_on-upper.ensures) half,
        subst (λ z. count_of before + 3 * volume_of z.lo z.hi ≤ most_edges) (sym c.from_on-upper.ensures)
            (omega (arith, both, count, c.requires.room)),
      ),
    )

pub returns-clause-gains : goal.returns-clause-gains
returns-clause-gains t c =
    let at = (goal.at.returns-clause-gains t c).After-up_to-lower in
    let g = c.args.site.now.grid in
    let labels = c.args.site.now.labels in
    let block = c.args.block.now in
    let outer = c.args.outer.now.lo in
    let between = c.gather_blocks.new.edges.items in
    let after = c.gather_blocks-2.new.edges.items in
    gains-halves g labels outer block.lo block.hi c.widest-axis.result (middle t at) c.args.edges.now.items between after (halved t at)
    (subst (λ z. GainsContacts g labels (ends_above g.axes outer z.lo z.hi) c.args.edges.now.items between) c.up_to-lower.ensures
    c.in_ok-gather_blocks.ensures.gains)
    (subst (λ z. GainsContacts g labels (ends_above g.axes outer z.lo z.hi) between after) c.from_on-upper.ensures
    c.in_ok-gather_blocks-2.ensures.gains)

pub returns-clause-count : goal.returns-clause-count
returns-clause-count t c =
    let at = (goal.at.returns-clause-count t c).After-up_to-lower in
    let both = volumes t at in
    let between = c.gather_blocks.new.edges.items in
    let after = c.gather_blocks-2.new.edges.items in
    let one = subst (λ z. count_of between ≤ count_of c.args.edges.now.items + 3 * volume_of z.lo z.hi) c.up_to-lower.ensures
    c.in_ok-gather_blocks.ensures.count in
    let other = subst (λ z. count_of after ≤ count_of between + 3 * volume_of z.lo z.hi) c.from_on-upper.ensures
    c.in_ok-gather_blocks-2.ensures.count in
    omega (arith, both, one, other)
