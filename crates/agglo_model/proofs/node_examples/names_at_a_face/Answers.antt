use Rattle.std.proofs.Common.{inl, inr, refl}
use Rattle.agglo_model.specs.Cutting.{cells_on, last_level, level_of}
use Rattle.agglo_model.proofs.node_examples.names_at_a_face.Goals as goal

pub returns-clause-frozen : goal.returns-clause-frozen
unfolding cells_on last_level level_of
returns-clause-frozen c = record { voxel = 5; part = refl; at_face = inl (inr (refl, refl)) }
