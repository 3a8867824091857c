use Rattle.agglo_model.proofs.BasinLabels.{basin_labels, basin_labels_are, same_basins}
use Rattle.agglo_model.proofs.laws.one_labelling.Goals as goal

pub returns : goal.returns
returns c = λ g low. (
  basin_labels g low,
  record {
    are = basin_labels_are g low;
    alone = λ others h. same_basins g low others (basin_labels g low) h (basin_labels_are g low);
  },
)
