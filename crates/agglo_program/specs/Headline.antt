-- What the product promises of a segmentation, and of a volume that is generated.
use Rattle.std.specs.Prelude.{◌≡◌, ℕ, List, [], ◌∷◌, ◌++◌, length, Some, IfSome}
use Rattle.std.specs.Option.{option_map}
use Rattle.agglo_model.specs.Axes.{voxel_count}
use Rattle.agglo_model.specs.Grid.{Grid}
use Rattle.agglo_model.specs.Basins.{AreBasins, names}
use Rattle.agglo_model.specs.Cutting.{chunking}
use Rattle.agglo_model.specs.Generated.{generated_volume}
use Rattle.agglo_model.specs.Greedy.{Merge, IsGreedyRun, after_merges}
use Rattle.agglo_model.specs.LabelFile.{label_file}
use Rattle.agglo_model.specs.MergeTree.{tree_file}
use Rattle.agglo_model.specs.Note.{make_note}
use Rattle.agglo_model.specs.Report.{Level, report}
use Rattle.agglo_model.specs.Segmentation.{AreLevels}
use Rattle.agglo_model.specs.VolumeFile.{volume_bytes}
use Rattle.command_words.specs.Words.{SegmentSettings, MakeSettings, TrialSettings}
use Rattle.seg_io.specs.Desk.{DeskState, appended}
use Rattle.seg_io.specs.declared.port.Port.TheVariants.{Labels, Tree, Volume, Note}
use Rattle.agglo_program.specs.Reading.{HasFile, file_of}
use Rattle.agglo_program.specs.Answers.{IsVolumeFile}

-- One whole volume was read to its end, and what was written is exactly the label file and the merge tree file of
-- greedy agglomeration of its basins. Neither the chunk size nor the number of workers is named here: of all that
-- the settings say, the two files depend on the volume, `low` and the threshold alone.
pub record IsAgglomerated (settings : SegmentSettings) (old new : DeskState) : Type 0 where
  pub volume : Grid
  pub found : HasFile old settings.volume
  pub whole : IfSome (file_of old settings.volume) (IsVolumeFile volume)
  pub ended : IfSome (file_of old settings.volume) (λ _. new.input ≡ Some [])
  pub basins : List ℕ
  pub basins_are : AreBasins volume settings.low basins
  pub merges : List Merge
  pub greedy : IsGreedyRun volume settings.threshold basins merges
  pub labels : IfSome new.labels (λ bytes. bytes ≡ label_file volume.axes (after_merges basins merges))
  pub tree : IfSome new.tree (λ bytes. bytes ≡ tree_file volume.axes settings.threshold merges)
  pub opened : new.opened ≡ old.opened ++ record { port = Labels; name = settings.labels }
      ∷ record { port = Tree; name = settings.tree } ∷ []

-- What was written is exactly the file of the generated volume, and then its note.
pub record IsMade (settings : MakeSettings) (old new : DeskState) : Type 0 where
  pub volume : IfSome new.volume (λ bytes. bytes ≡ volume_bytes (generated_volume settings.start settings.axes))
  pub note : new.note ≡ option_map (λ written. written ++ make_note (voxel_count settings.axes)) old.note
  pub opened : new.opened ≡ old.opened ++ record { port = Volume; name = settings.volume } ∷ []

-- What was written is exactly the report on greedy agglomeration of the basins of the generated volume, and nothing
-- else has changed. The chunks show in the lines on levels alone, and the workers nowhere.
pub record IsTried (settings : TrialSettings) (old new : DeskState) : Type 0 where
  pub basins : List ℕ
  pub basins_are : AreBasins (generated_volume settings.start settings.axes) settings.low basins
  pub merges : List Merge
  pub greedy : IsGreedyRun (generated_volume settings.start settings.axes) settings.threshold basins merges
  pub levels : List Level
  pub levels_are : AreLevels (generated_volume settings.start settings.axes) settings.threshold
      (chunking settings.axes settings.chunk) basins levels
  pub note : new ≡ appended Note (report (voxel_count settings.axes) (length (names basins)) (length merges) levels) old
