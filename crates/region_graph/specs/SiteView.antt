-- What regions are merged in: a volume, the labels that the work starts from, a cutting, and the threshold.
use Rattle.std.specs.Prelude.{◌≡◌, ℕ, List}
use Rattle.agglo_model.specs.Grid.{Grid, IsWhole}
use Rattle.agglo_model.specs.LabelMap.{IsLabelled}
use Rattle.agglo_model.specs.PairOrder.{Threshold}
use Rattle.agglo_model.specs.Cutting.{Chunking, IsChunking}
use Rattle.agglo_model.specs.Connected.{AreConnected}

pub record SiteView : Type 0 where
  pub grid : Grid
  pub labels : List ℕ
  pub cutting : Chunking
  pub threshold : Threshold

-- the labels are one for each voxel, the cutting is of the volume's axes, and each name's voxels are connected
pub record IsSite (s : SiteView) : Type 0 where
  pub whole : IsWhole s.grid
  pub labelled : IsLabelled (record { axes = s.grid.axes; labels = s.labels })
  pub chunking : IsChunking s.cutting
  pub same_axes : s.cutting.axes ≡ s.grid.axes
  pub connected : AreConnected s.grid.axes s.labels
