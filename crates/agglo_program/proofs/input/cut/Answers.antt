use Rattle.agglo_program.proofs.CutVolumes.{too_many, no_zero}
use Rattle.agglo_program.proofs.input.cut.Goals as goal

pub returns-in-Err-TooManyLeaves : goal.returns-in-Err-TooManyLeaves
returns-in-Err-TooManyLeaves c =
    too_many _ _ _ c.in-Err-TooManyLeaves.leaves c.in-Err-TooManyLeaves.field-0-is c.in-Err-TooManyLeaves.ensures

pub unreachable-requires : goal.unreachable-requires
unreachable-requires c =
    no_zero _ _ _ c.in-Err-ChunkZero.field-0-0 c.requires c.in-Err-ChunkZero.field-0-is c.in-Err-ChunkZero.ensures
