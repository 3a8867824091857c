use Rattle.region_graph.proofs.Halves.{span}
use Rattle.region_graph.proofs.blocks.+gather_blocks.Given as goal

abbrev pub decreases-gather_blocks : goal.decreases-gather_blocks
decreases-gather_blocks l = span l.block.now.lo l.block.now.hi
