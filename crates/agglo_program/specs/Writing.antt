-- How a run writes its answer: file after file, and then the note.
use Rattle.std.specs.Prelude.{◌≡◌, ℕ, ◌⊎◌, List, [], ◌∷◌, Result, MatchResult}
use Rattle.agglo_model.specs.Axes.{Axes}
use Rattle.agglo_model.specs.Generated.{generated_volume}
use Rattle.agglo_model.specs.LabelFile.{label_file}
use Rattle.agglo_model.specs.TreeFile.{MergeTree, tree_bytes}
use Rattle.agglo_model.specs.VolumeFile.{volume_bytes}
use Rattle.seg_io.specs.Desk.{DeskState, appended, OpensOutput, FailsToOpenOutput, FailsAfterWriting}
use Rattle.seg_io.specs.declared.port.Port.{Port}
use Rattle.seg_io.specs.declared.port.Port.TheVariants.{Labels, Tree, Volume, Note}

-- a file to be written: its port, the name that this is opened under, and its bytes
pub record Output : Type 0 where
  pub port : Port
  pub name : List ℕ
  pub bytes : List ℕ

-- the label file, the tree file, and the file of a generated volume
abbrev pub labels_output : List ℕ → Axes → List ℕ → Output
labels_output name axes labels = record { port = Labels; name = name; bytes = label_file axes labels }

abbrev pub tree_output : List ℕ → MergeTree → Output
tree_output name tree = record { port = Tree; name = name; bytes = tree_bytes tree }

abbrev pub generated_output : List ℕ → ℕ → Axes → Output
generated_output name start axes = record { port = Volume; name = name; bytes = volume_bytes (generated_volume start axes) }

-- what a run has to write: files in order, and a note
pub record Answer : Type 0 where
  pub outputs : List Output
  pub note : List ℕ

-- The port was opened under the name, and then all bytes were written on it.
pub record WritesFile (output : Output) (old new : DeskState) : Type 0 where
  pub begun : DeskState
  pub opened : OpensOutput output.port output.name old begun
  pub wrote : new ≡ appended output.port output.bytes begun

-- The port was opened under the name, and then a write failed after a prefix of the bytes.
pub record CutsFile (output : Output) (old new : DeskState) : Type 0 where
  pub begun : DeskState
  pub opened : OpensOutput output.port output.name old begun
  pub cut : FailsAfterWriting output.port output.bytes begun new

-- One file after another was written whole, and then the note.
abbrev pub WritesFiles : List Output → List ℕ → DeskState → DeskState → Type 0
WritesFiles [] note old new = new ≡ appended Note note old
WritesFiles (output ∷ others) note old new =
    (mid : DeskState) × WritesFile output old mid × WritesFiles others note mid new

abbrev pub WritesAll : Answer → DeskState → DeskState → Type 0
WritesAll answer old new = WritesFiles answer.outputs answer.note old new

-- The port could not be opened, or the file was cut.
abbrev pub FailsInFile : Output → DeskState → DeskState → Type 0
FailsInFile output old new = FailsToOpenOutput old new ⊎ CutsFile output old new

-- how a call ends that writes a file: it was written whole, or the call failed in it
abbrev pub WriteFileEnds : {X E : Type 0} → Output → Result X E → DeskState → DeskState → Type 0
WriteFileEnds output result old new = MatchResult result (λ _. WritesFile output old new) (λ _. FailsInFile output old new)

-- The first of the files failed; or it was written whole, and what comes after it failed. The last to fail is
-- the note.
abbrev pub FailsInFiles : List Output → List ℕ → DeskState → DeskState → Type 0
FailsInFiles [] note old new = FailsAfterWriting Note note old new
FailsInFiles (output ∷ others) note old new = FailsInFile output old new
    ⊎ ((mid : DeskState) × WritesFile output old mid × FailsInFiles others note mid new)

abbrev pub StopsWriting : Answer → DeskState → DeskState → Type 0
StopsWriting answer old new = FailsInFiles answer.outputs answer.note old new

-- how a call ends that writes files and then a note: all was written, or the call failed on the way
abbrev pub WriteFilesEnds : {X E : Type 0} → List Output → List ℕ → Result X E → DeskState → DeskState → Type 0
WriteFilesEnds outputs note result old new =
    MatchResult result (λ _. WritesFiles outputs note old new) (λ _. FailsInFiles outputs note old new)
