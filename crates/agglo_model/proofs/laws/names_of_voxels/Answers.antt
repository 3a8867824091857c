use Rattle.agglo_model.proofs.BasinLabels.{label_names_voxel}
use Rattle.agglo_model.proofs.laws.names_of_voxels.Goals as goal

pub returns : goal.returns
returns c = λ g low labels are v w. label_names_voxel g low labels are w v
