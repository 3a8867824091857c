-- What a fault of three sizes means.
use Rattle.agglo_model.specs.Cutting.{SizesFlaw, ChunkZero as FlawZero, TooManyLeaves as FlawMany}
use Rattle.chunk_tree.specs.declared.cutting.CutFault.{CutFault}
use Rattle.chunk_tree.specs.declared.cutting.CutFault.TheVariants.{ChunkZero, TooManyLeaves}

-- the flaw that a fault reports
abbrev pub flaw_of : CutFault → SizesFlaw
flaw_of (ChunkZero axis) = FlawZero axis
flaw_of (TooManyLeaves leaves) = FlawMany leaves
