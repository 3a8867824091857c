use Rattle.std.proofs.Common.{arith}
use Rattle.parent_join.specs.Kids.{FitsInto}
use Rattle.parent_join.proofs.FewEdges.{names_fit}
use Rattle.agglo_model.proofs.WaitingCells.{leaf_below}
use Rattle.segment_checks.proofs.tests.graphs.passed.Goals as goal
use Rattle.segment_checks.proofs.tests.graphs.passed.Goals.{In_ok-graph}

-- the graph of the leaf fits
whole_fits : (c : In_ok-graph) → FitsInto c.args.site.now.grid c.args.site.now.cutting c.args.leaf c.in_ok-graph.graph
whole_fits c =
    let s = c.args.site.now in
    names_fit (λ _. Unit {0}) s.grid s.cutting c.args.leaf s.labels c.in_ok-graph.graph c.in_ok-graph.ensures

pub artificial-frozen-requires : goal.artificial-frozen-requires
artificial-frozen-requires c = leaf_below c.cutting-cutting.result.now c.args.leaf (omega (arith, c.leaves.ensures.value))

pub returns-in-Residues : goal.returns-in-Residues
returns-in-Residues c = record {
  few = let whole = (whole_fits (goal.at.returns-in-Residues c).In_ok-graph).few in let fewer = c.in_ok-settle.ensures.fewer in omega (arith, whole, fewer);
}

pub returns-2 : goal.returns-2
returns-2 c = whole_fits (goal.at.returns-2 c).In_ok-graph
