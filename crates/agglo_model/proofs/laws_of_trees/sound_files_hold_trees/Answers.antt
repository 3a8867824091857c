use Rattle.agglo_model.proofs.SoundTrees.{sound_tree}
use Rattle.agglo_model.proofs.laws_of_trees.sound_files_hold_trees.Goals as goal

pub returns : goal.returns
returns c = sound_tree
