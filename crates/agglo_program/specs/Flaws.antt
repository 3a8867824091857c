-- Why a task is refused before anything is written.
use Rattle.std.specs.Prelude.{◌≡◌, ℕ, ◌⊎◌, List, [], ◌∷◌, Contains, Option, Some, None, is_some, if◌then◌else◌}
use Rattle.std.specs.Option.{option_map, option_and_then, option_or}
use Rattle.agglo_model.specs.Axes.{Axes}
use Rattle.agglo_model.specs.Cutting.{SizesFlaw, ChunkZero, TooManyLeaves, sizes_flaw}
use Rattle.agglo_model.specs.TreeFile.{TreeFlaw, tree_flaw}
use Rattle.agglo_model.specs.VolumeFile.{VolumeFlaw, header_length, header_axes, header_flaw, body, body_flaw, volume_flaw}
use Rattle.command_words.specs.Words.{Task, Basins, Segment, Make, Trial, Show}
use Rattle.volume_file.specs.Fault.{fault_of}
use Rattle.volume_file.specs.Reading.{judged_length}
use Rattle.merge_tree.specs.TreeFault.{fault_of as tree_fault_of}
use Rattle.merge_tree.specs.TreeReading.{judged_length as tree_judged_length}
use Rattle.seg_io.specs.Bytes.{SomeBytes}
use Rattle.seg_io.specs.Desk.{DeskState}
use Rattle.refusals.specs.declared.refusal.Refusal.{Refusal}
use Rattle.refusals.specs.declared.refusal.Refusal.TheVariants.{Memory, Words, Volume, Leaves, Input, Output, Tree}
use Rattle.agglo_program.specs.Reading.{OpensFile, JudgesFile, FailsToReadFile, HasFile, file_of}

abbrev pub volume_flaw_refusal : Option VolumeFlaw → Option Refusal
volume_flaw_refusal flaw = option_map (λ f. Volume (fault_of f)) flaw

abbrev pub tree_flaw_refusal : Option TreeFlaw → Option Refusal
tree_flaw_refusal flaw = option_map (λ f. Tree (tree_fault_of f)) flaw

-- Sizes of leaves are refused where there are too many leaves. Words spell no size of 0.
abbrev pub sizes_refusal : SizesFlaw → Option Refusal
sizes_refusal (ChunkZero axis) = None
sizes_refusal (TooManyLeaves leaves) = Some (Leaves leaves)

-- more leaves than a cutting may have
abbrev pub leaves_refusal : Axes → List ℕ → Option Refusal
leaves_refusal axes chunk = option_and_then sizes_refusal (sizes_flaw axes chunk)

-- why bytes are no volume
abbrev pub basins_refusal : List ℕ → Option Refusal
basins_refusal bytes = volume_flaw_refusal (volume_flaw bytes)

-- Why bytes are no volume that can be cut into leaves of these sizes: the header is judged first, then the leaves
-- are counted, and then the body is judged.
abbrev pub segment_refusal : List ℕ → List ℕ → Option Refusal
segment_refusal chunk bytes =
    option_or (volume_flaw_refusal (header_flaw bytes))
    (option_or (leaves_refusal (header_axes bytes) chunk)
    (volume_flaw_refusal (body_flaw (header_axes bytes) (body bytes))))

-- why bytes are no merge tree
abbrev pub show_refusal : List ℕ → Option Refusal
show_refusal bytes = tree_flaw_refusal (tree_flaw bytes)

-- How much is taken of a file that is refused: the header, where it has a flaw or tells of too many leaves, and else
-- all that it claims, and one byte more, which tells whether there is one.
abbrev pub basins_judged : List ℕ → ℕ
basins_judged bytes = judged_length bytes

abbrev pub segment_judged : List ℕ → List ℕ → ℕ
segment_judged chunk bytes =
    if is_some (leaves_refusal (header_axes bytes) chunk) then header_length
    else judged_length bytes

abbrev pub show_judged : List ℕ → ℕ
show_judged bytes = tree_judged_length bytes

-- some bytes are refused for this cause
abbrev pub SomeBytesHave : (List ℕ → Option Refusal) → Refusal → Type 0
SomeBytesHave refusal_of refusal = SomeBytes (λ bytes. refusal_of bytes ≡ Some refusal)

-- The input of this name was not read, for this cause. Bytes are refused for a flaw that such a file may have,
-- and it is the one that `refusal_of` tells of them, once as many are taken as `judged` says. A fault comes before that.
abbrev pub RefusesInput : (List ℕ → Option Refusal) → (List ℕ → ℕ) → List ℕ → Refusal → DeskState → DeskState → Type 0
RefusesInput refusal_of judged name Memory old new = OpensFile name (λ _. Unit {0}) old new
RefusesInput refusal_of judged name Input old new = FailsToReadFile judged name old new
RefusesInput refusal_of judged name refusal old new =
    SomeBytesHave refusal_of refusal × JudgesFile name (λ bytes. refusal_of bytes ≡ Some refusal) judged old new

-- Nothing is read, and the run ended for this cause: want of memory, or too many leaves as `cause` says.
abbrev pub RefusesNumbers : Option Refusal → Refusal → DeskState → DeskState → Type 0
RefusesNumbers cause Memory old new = new ≡ old
RefusesNumbers cause Words old new = ⊥
RefusesNumbers cause (Volume fault) old new = ⊥
RefusesNumbers cause (Leaves leaves) old new = (cause ≡ Some (Leaves leaves)) × (new ≡ old)
RefusesNumbers cause Input old new = ⊥
RefusesNumbers cause Output old new = ⊥
RefusesNumbers cause (Tree fault) old new = ⊥

-- ---- what a task starts from

-- What a task starts from: the file of a name, with why its bytes are refused and how many of them are judged, or
-- numbers alone, with why they are refused. Before these come the statuses of such refusals.
pub data Start : Type 0 where
  FromFile : (statuses : List ℕ) (refusal_of : List ℕ → Option Refusal) (judged : List ℕ → ℕ) (name : List ℕ) → Start
  FromNumbers : (statuses : List ℕ) (cause : Option Refusal) → Start

-- A flaw of a volume has the status 3, too many leaves have 4, and a flaw of a merge tree has 7.
abbrev pub start_of : Task → Start
start_of (Basins settings) = FromFile (3 ∷ []) basins_refusal basins_judged settings.volume
start_of (Segment settings) =
    FromFile (3 ∷ 4 ∷ []) (segment_refusal settings.chunk) (segment_judged settings.chunk) settings.volume
start_of (Make settings) = FromNumbers [] None
start_of (Trial settings) = FromNumbers (4 ∷ []) (leaves_refusal settings.axes settings.chunk)
start_of (Show tree) = FromFile (7 ∷ []) show_refusal show_judged tree

abbrev pub RefusesFrom : Start → Refusal → DeskState → DeskState → Type 0
RefusesFrom (FromFile statuses refusal_of judged name) refusal old new = RefusesInput refusal_of judged name refusal old new
RefusesFrom (FromNumbers statuses cause) refusal old new = RefusesNumbers cause refusal old new

-- The task ended for this cause before its answer was known.
abbrev pub RefusesStart : Task → Refusal → DeskState → DeskState → Type 0
RefusesStart task refusal old new = RefusesFrom (start_of task) refusal old new

-- ---- what a task deserves

-- The desk tells the file of this name, and this is the first cause that holds of its bytes, or there is none.
pub record IsJudgedFile (refusal_of : List ℕ → Option Refusal) (name : List ℕ) (cause : Option Refusal) (s : DeskState) : Type 0 where
  pub bytes : List ℕ
  pub file : file_of s name ≡ Some bytes
  pub judged : refusal_of bytes ≡ cause

abbrev pub IsJudgedFrom : Start → Option Refusal → DeskState → Type 0
IsJudgedFrom (FromFile statuses refusal_of judged name) cause s = IsJudgedFile refusal_of name cause s
IsJudgedFrom (FromNumbers statuses told) cause s = told ≡ cause

-- What the task starts from is told, by the desk or by its words alone, and this is the first cause for which it
-- is refused, or there is none.
abbrev pub IsJudged : Task → Option Refusal → DeskState → Type 0
IsJudged task cause s = IsJudgedFrom (start_of task) cause s

abbrev pub HasStart : DeskState → Start → Type 0
HasStart s (FromFile statuses refusal_of judged name) = HasFile s name
HasStart s (FromNumbers statuses cause) = Unit {0}

-- Where the desk tells its files, it has the one that the task reads, if it reads one.
abbrev pub HasInput : DeskState → Task → Type 0
HasInput s task = HasStart s (start_of task)

abbrev pub MayHideFlawFrom : Start → ℕ → Type 0
MayHideFlawFrom (FromFile statuses refusal_of judged name) status = (status ≡ 1) ⊎ (status ≡ 5)
MayHideFlawFrom (FromNumbers statuses cause) status = status ≡ 1

-- The status may come in the place of that of a flaw: want of memory, and where a file is read, a fault of the input.
abbrev pub MayHideFlaw : Task → ℕ → Type 0
MayHideFlaw task status = MayHideFlawFrom (start_of task) status

abbrev pub statuses_from : Start → List ℕ
statuses_from (FromFile statuses refusal_of judged name) = 0 ∷ 1 ∷ 5 ∷ 6 ∷ statuses
statuses_from (FromNumbers statuses cause) = 0 ∷ 1 ∷ 6 ∷ statuses

-- The statuses that a task may end with, whatever the desk tells: 5 only where it reads a file, and those of the
-- refusals of what it starts from.
abbrev pub statuses_of : Task → List ℕ
statuses_of task = statuses_from (start_of task)

abbrev pub MayEndWith : Task → ℕ → Type 0
MayEndWith task status = Contains (statuses_of task) status
