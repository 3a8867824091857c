-- What a run of the program does, by its status.
use Rattle.std.specs.Prelude.{◌≡◌, ℕ, ◌⊎◌, List, Some, None, Result, MatchResult}
use Rattle.command_words.specs.Words.{Task, Spells, AreNoSettings, MayBeSettings}
use Rattle.seg_io.specs.Desk.{DeskState, CanOpen, appended, FailsAfterWriting}
use Rattle.seg_io.specs.declared.port.Port.TheVariants.{Labels, Tree as TreePort, Volume as VolumePort, Trouble}
use Rattle.refusals.specs.declared.refusal.Refusal.{Refusal}
use Rattle.refusals.specs.declared.refusal.Refusal.TheVariants.{Memory, Words, Volume, Leaves, Input, Output, Tree}
use Rattle.refusals.specs.Refusal.{status_of, line_of}
use Rattle.agglo_program.specs.Writing.{Answer, WritesAll, StopsWriting}
use Rattle.agglo_program.specs.Answers.{Finds}
use Rattle.agglo_program.specs.Flaws.{RefusesStart, IsJudged}

-- the three ports that can be opened are not open
pub record HasNoOutput (s : DeskState) : Type 0 where
  pub labels : CanOpen Labels s
  pub tree : CanOpen TreePort s
  pub volume : CanOpen VolumePort s

-- The task was done: its answer was found, and then written whole.
pub record FinishesTask (task : Task) (old new : DeskState) : Type 0 where
  pub mid : DeskState
  pub answer : Answer
  pub found : Finds task answer old mid
  pub wrote : WritesAll answer mid new

-- The answer was found, and writing it failed on the way.
pub record StopsTask (task : Task) (old new : DeskState) : Type 0 where
  pub mid : DeskState
  pub answer : Answer
  pub found : Finds task answer old mid
  pub stopped : StopsWriting answer mid new

-- the task ended for this cause
abbrev pub RefusesTask : Task → Refusal → DeskState → DeskState → Type 0
RefusesTask task Output old new = StopsTask task old new
RefusesTask task refusal old new = RefusesStart task refusal old new

-- how a call for a task ends: the task was done, or ended for the cause that the call tells
abbrev pub TaskEnds : {X : Type 0} → Task → Result X Refusal → DeskState → DeskState → Type 0
TaskEnds task result old new =
    MatchResult result (λ _. FinishesTask task old new) (λ refusal. RefusesTask task refusal old new)

-- the words spell a task, and it ended for this cause
pub record RefusesSettings (words : List (List ℕ)) (refusal : Refusal) (old new : DeskState) : Type 0 where
  pub task : Task
  pub spelled : Spells words task
  pub refused : RefusesTask task refusal old new

-- the words may be settings, and there was no memory to read them
pub record LacksMemoryForWords (words : List (List ℕ)) (old new : DeskState) : Type 0 where
  pub may_be : MayBeSettings words
  pub after : new ≡ old

-- a run ended for this cause
abbrev pub RefusesRun : List (List ℕ) → Refusal → DeskState → DeskState → Type 0
RefusesRun words Memory old new = LacksMemoryForWords words old new ⊎ RefusesSettings words Memory old new
RefusesRun words Words old new = AreNoSettings words × (new ≡ old)
RefusesRun words (Volume fault) old new = RefusesSettings words (Volume fault) old new
RefusesRun words (Leaves leaves) old new = RefusesSettings words (Leaves leaves) old new
RefusesRun words (Tree fault) old new = RefusesSettings words (Tree fault) old new
RefusesRun words Input old new = RefusesSettings words Input old new
RefusesRun words Output old new = RefusesSettings words Output old new

-- The line of a refusal was printed, or a prefix of it, and then a write on the port Trouble failed.
abbrev pub Told : Refusal → DeskState → DeskState → Type 0
Told refusal old new = (new ≡ appended Trouble (line_of refusal) old)
    ⊎ FailsAfterWriting Trouble (line_of refusal) old new

-- ---- what the top call promises

-- The words are settings, and their task was done.
pub record Finishes (words : List (List ℕ)) (old new : DeskState) : Type 0 where
  pub task : Task
  pub spelled : Spells words task
  pub finished : FinishesTask task old new

-- how a run on these words ends: their task was done, or the run ended for the cause that the call tells
abbrev pub RunEnds : {X : Type 0} → List (List ℕ) → Result X Refusal → DeskState → DeskState → Type 0
RunEnds words result old new =
    MatchResult result (λ _. Finishes words old new) (λ refusal. RefusesRun words refusal old new)

-- The run ended for a cause of this status, and then its line was printed.
pub record Refuses (words : List (List ℕ)) (status : ℕ) (old new : DeskState) : Type 0 where
  pub refusal : Refusal
  pub status_is : status ≡ status_of refusal
  pub mid : DeskState
  pub refused : RefusesRun words refusal old mid
  pub told : Told refusal mid new

-- The words are settings, and what they name has a flaw of this status, as far as the desk tells it.
pub record NamesAFlawedInput (words : List (List ℕ)) (status : ℕ) (s : DeskState) : Type 0 where
  pub task : Task
  pub spelled : Spells words task
  pub refusal : Refusal
  pub status_is : status ≡ status_of refusal
  pub flawed : IsJudged task (Some refusal) s

-- The words are settings, and what they name is told and has nothing to refuse.
pub record NamesAGoodInput (words : List (List ℕ)) (s : DeskState) : Type 0 where
  pub task : Task
  pub spelled : Spells words task
  pub sound : IsJudged task None s

-- nothing changed but the input and the port Trouble
abbrev pub WritesNothing : DeskState → DeskState → Type 0
WritesNothing old new = new ≡ record old {
  input_faults = new.input_faults;
  misses = new.misses;
  has_input = new.has_input;
  input = new.input;
  trouble = new.trouble;
  trouble_faults = new.trouble_faults;
}

-- one of the statuses of the program
abbrev pub IsStatus : ℕ → Type 0
IsStatus status = (status ≡ 0) ⊎ ((status ≡ 1) ⊎ ((status ≡ 2) ⊎ ((status ≡ 3) ⊎ ((status ≡ 4)
    ⊎ ((status ≡ 5) ⊎ ((status ≡ 6) ⊎ (status ≡ 7)))))))
