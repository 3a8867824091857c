-- What the words of the command line ask for, as the program's own jobs.
use Rattle.std.specs.Prelude.{ℕ, List, Result, MatchResult, string_bytes}
use Rattle.command_words.specs.Words.{Task, Basins, Segment, Make, Trial, Show, Spells, AreNoSettings, MayBeSettings}
use Rattle.command_words.specs.declared.job.Job.{Job}
use Rattle.command_words.specs.declared.job.Job.TheVariants as jobs
use Rattle.command_words.specs.declared.job.WordsFault.{WordsFault}
use Rattle.command_words.specs.declared.job.WordsFault.TheVariants.{NoSettings, Memory}

-- what a job is
abbrev pub task_of : Job → Task
task_of (jobs.Basins volume labels low) =
    Basins (record { volume = string_bytes volume; labels = string_bytes labels; low = low })
task_of (jobs.Segment volume labels tree low threshold chunk workers) = Segment (record {
  volume = string_bytes volume;
  labels = string_bytes labels;
  tree = string_bytes tree;
  low = low;
  threshold = threshold;
  chunk = chunk;
  workers = workers;
})
task_of (jobs.Make volume start dims) = Make (record { volume = string_bytes volume; start = start; axes = dims })
task_of (jobs.Trial start dims low threshold chunk workers) = Trial (record {
  start = start;
  axes = dims;
  low = low;
  threshold = threshold;
  chunk = chunk;
  workers = workers;
})
task_of (jobs.Show tree) = Show (string_bytes tree)

-- the words spell this job
abbrev pub SpellsJob : List (List ℕ) → Job → Type 0
SpellsJob words job = Spells words (task_of job)

-- why words were refused: memory is asked for only where they may be settings
abbrev pub RefusesWords : List (List ℕ) → WordsFault → Type 0
RefusesWords words NoSettings = AreNoSettings words
RefusesWords words Memory = MayBeSettings words

-- the job of the words, or why there is none
abbrev pub AnswersWords : List (List ℕ) → Result Job WordsFault → Type 0
AnswersWords words result = MatchResult result (SpellsJob words) (RefusesWords words)
