-- What each task finds in its input, and what it writes.
use Rattle.std.specs.Prelude.{◌≡◌, ℕ, List, [], ◌∷◌, length, None}
use Rattle.agglo_model.specs.Axes.{Axes, voxel_count}
use Rattle.agglo_model.specs.Grid.{Grid}
use Rattle.agglo_model.specs.Basins.{AreBasins}
use Rattle.agglo_model.specs.Cutting.{Chunking, chunking}
use Rattle.agglo_model.specs.Generated.{generated_volume}
use Rattle.agglo_model.specs.Greedy.{Merge}
use Rattle.agglo_model.specs.Note.{basins_note, make_note}
use Rattle.agglo_model.specs.Report.{Level, report}
use Rattle.agglo_model.specs.Segmentation.{IsSegmentation}
use Rattle.agglo_model.specs.TreeFile.{MergeTree, tree_flaw, tree_in}
use Rattle.agglo_model.specs.VolumeFile.{volume_flaw, volume_in}
use Rattle.command_words.specs.Words.{BasinsSettings, SegmentSettings, MakeSettings, TrialSettings, Task, Basins, Segment, Make, Trial, Show}
use Rattle.seg_io.specs.Desk.{DeskState}
use Rattle.agglo_program.specs.Reading.{ReadsFile}
use Rattle.agglo_program.specs.Flaws.{leaves_refusal}
use Rattle.agglo_program.specs.Writing.{Answer, labels_output, tree_output, generated_output}
use Rattle.agglo_program.specs.Shown.{shown}

-- the bytes are the file of this volume
pub record IsVolumeFile (volume : Grid) (bytes : List ℕ) : Type 0 where
  pub sound : volume_flaw bytes ≡ None
  pub says : volume ≡ volume_in bytes

-- the bytes are the file of this tree
pub record IsTreeFile (tree : MergeTree) (bytes : List ℕ) : Type 0 where
  pub sound : tree_flaw bytes ≡ None
  pub says : tree ≡ tree_in bytes

-- The volume in the file of this name was read to its end, and cut into leaves of these sizes, which are not too
-- many.
pub record ReadsCutVolume (name chunk : List ℕ) (volume : Grid) (cutting : Chunking) (old new : DeskState) : Type 0 where
  pub read : ReadsFile name (IsVolumeFile volume) old new
  pub cutting_is : cutting ≡ chunking volume.axes chunk
  pub few_leaves : leaves_refusal volume.axes chunk ≡ None

-- the label file, and the note on basins
abbrev pub basins_answer : BasinsSettings → Axes → List ℕ → Answer
basins_answer settings axes labels = record {
  outputs = labels_output settings.labels axes labels ∷ [];
  note = basins_note labels;
}

-- the label file, the tree file, and the report
abbrev pub segment_answer : SegmentSettings → Axes → List ℕ → ℕ → List Merge → List Level → Answer
segment_answer settings axes labels basins merges levels = record {
  outputs = labels_output settings.labels axes labels
      ∷ tree_output settings.tree (record { axes = axes; threshold = settings.threshold; merges = merges }) ∷ [];
  note = report (voxel_count axes) basins (length merges) levels;
}

-- the volume file, and the note on a volume
abbrev pub make_answer : MakeSettings → Answer
make_answer settings = record {
  outputs = generated_output settings.volume settings.start settings.axes ∷ [];
  note = make_note (voxel_count settings.axes);
}

-- the report alone
abbrev pub trial_answer : Axes → ℕ → List Merge → List Level → Answer
trial_answer axes basins merges levels = record { outputs = []; note = report (voxel_count axes) basins (length merges) levels }

-- the note on a tree
abbrev pub show_answer : MergeTree → Answer
show_answer tree = record { outputs = []; note = shown tree }

-- The volume was read to its end, and this is the answer for its basins.
pub record FindsBasins (settings : BasinsSettings) (answer : Answer) (old new : DeskState) : Type 0 where
  pub volume : Grid
  pub read : ReadsFile settings.volume (IsVolumeFile volume) old new
  pub labels : List ℕ
  pub basins : AreBasins volume settings.low labels
  pub answer_is : answer ≡ basins_answer settings volume.axes labels

-- The volume was read to its end, its leaves are within the limit, and this is the answer for its
-- segmentation.
pub record FindsSegmentation (settings : SegmentSettings) (answer : Answer) (old new : DeskState) : Type 0 where
  pub volume : Grid
  pub cutting : Chunking
  pub read : ReadsCutVolume settings.volume settings.chunk volume cutting old new
  pub labels : List ℕ
  pub basins : ℕ
  pub merges : List Merge
  pub levels : List Level
  pub segmentation : IsSegmentation volume settings.low settings.threshold cutting labels basins merges levels
  pub answer_is : answer ≡ segment_answer settings volume.axes labels basins merges levels

-- Nothing was read, and this is the answer for the generated volume.
pub record FindsVolume (settings : MakeSettings) (answer : Answer) (old new : DeskState) : Type 0 where
  pub answer_is : answer ≡ make_answer settings
  pub after : new ≡ old

-- Nothing was read, the leaves are within the limit, and this is the answer for the segmentation of the generated
-- volume.
pub record FindsTrial (settings : TrialSettings) (answer : Answer) (old new : DeskState) : Type 0 where
  pub few_leaves : leaves_refusal settings.axes settings.chunk ≡ None
  pub labels : List ℕ
  pub basins : ℕ
  pub merges : List Merge
  pub levels : List Level
  pub segmentation : IsSegmentation (generated_volume settings.start settings.axes) settings.low settings.threshold
      (chunking settings.axes settings.chunk) labels basins merges levels
  pub answer_is : answer ≡ trial_answer settings.axes basins merges levels
  pub after : new ≡ old

-- The tree was read to its end, and this is the answer for it.
pub record FindsTree (name : List ℕ) (answer : Answer) (old new : DeskState) : Type 0 where
  pub tree : MergeTree
  pub read : ReadsFile name (IsTreeFile tree) old new
  pub answer_is : answer ≡ show_answer tree

-- The input of the task, if it has one, was read to its end, and this is the answer.
abbrev pub Finds : Task → Answer → DeskState → DeskState → Type 0
Finds (Basins settings) answer old new = FindsBasins settings answer old new
Finds (Segment settings) answer old new = FindsSegmentation settings answer old new
Finds (Make settings) answer old new = FindsVolume settings answer old new
Finds (Trial settings) answer old new = FindsTrial settings answer old new
Finds (Show tree) answer old new = FindsTree tree answer old new
