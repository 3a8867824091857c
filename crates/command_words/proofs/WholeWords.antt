-- Words and the job that they spell: what options say in one reading, they say in every other.
use Rattle.std.proofs.Common.{◌≡◌, ◌≢◌, ℕ, zero, suc, List, ◌∷◌, get_or, All, Contains, codes, Option, Some, None, Result, Ok, Err, IsErrAnd, false, true≢false, refl, sym, ◌∙◌, subst, arith}
use Rattle.std.specs.List.{flat_map}
use Rattle.std.specs.Str.{bytes_eq}
use denote.Ref.{Bor}
use Rattle.std.proofs.lemmas.List.{get_or_default}
use Rattle.std.proofs.lemmas.Slice.Eq.{bytes_eq-Decides}
use Rattle.std.proofs.lemmas.List.Elements.{All-contains}
use Rattle.command_words.specs.Words.{Given, given_words, AreOptionsOf, Task, Basins, Segment, Make, Trial, Show, command_of, options_of, Gives, GivesBasins, GivesSegment, GivesMake, GivesTrial, GivesShow, BasinsSettings, SegmentSettings, MakeSettings, TrialSettings, commands, basins_options, segment_options, make_options, trial_options, show_options, AreNoSettings, IsBare, MayBeSettings}
use Rattle.command_words.specs.declared.settings.SegmentValues.{SegmentValues}
use Rattle.command_words.specs.declared.job.Job.{Job}
use Rattle.command_words.specs.declared.job.WordsFault.{WordsFault}
use Rattle.command_words.specs.declared.job.WordsFault.TheVariants.{NoSettings, Memory}
use Rattle.command_words.specs.Jobs.{RefusesWords, AnswersWords}
use Rattle.command_words.specs.Slots.{option_names, spelled, slot_of, IsSlot, AreSlots, ReadsOptions, RefusesOptions}
use Rattle.command_words.proofs.Slots.{AreKnownOnce}
use Rattle.command_words.proofs.OneReading.{SamePairs, one_reading, given_there, same_swap}
use Rattle.command_words.proofs.PlainValues.{values_are_names}
use Rattle.command_words.proofs.Cuts.{same_first, same_rest}

-- ---- options of a command are known, each given once

basins_known : All (Contains option_names) basins_options
basins_known zero d lt = (0, omega arith, refl)
basins_known (suc zero) d lt = (1, omega arith, refl)
basins_known (suc (suc zero)) d lt = (3, omega arith, refl)
basins_known (suc (suc (suc k))) d lt = absurd (omega arith)

segment_known : All (Contains option_names) segment_options
segment_known zero d lt = (0, omega arith, refl)
segment_known (suc zero) d lt = (1, omega arith, refl)
segment_known (suc (suc zero)) d lt = (2, omega arith, refl)
segment_known (suc (suc (suc zero))) d lt = (3, omega arith, refl)
segment_known (suc (suc (suc (suc zero)))) d lt = (4, omega arith, refl)
segment_known (suc (suc (suc (suc (suc zero))))) d lt = (5, omega arith, refl)
segment_known (suc (suc (suc (suc (suc (suc zero)))))) d lt = (6, omega arith, refl)
segment_known (suc (suc (suc (suc (suc (suc (suc k))))))) d lt = absurd (omega arith)

make_known : All (Contains option_names) make_options
make_known zero d lt = (0, omega arith, refl)
make_known (suc zero) d lt = (7, omega arith, refl)
make_known (suc (suc zero)) d lt = (8, omega arith, refl)
make_known (suc (suc (suc k))) d lt = absurd (omega arith)

trial_known : All (Contains option_names) trial_options
trial_known zero d lt = (7, omega arith, refl)
trial_known (suc zero) d lt = (8, omega arith, refl)
trial_known (suc (suc zero)) d lt = (3, omega arith, refl)
trial_known (suc (suc (suc zero))) d lt = (4, omega arith, refl)
trial_known (suc (suc (suc (suc zero)))) d lt = (5, omega arith, refl)
trial_known (suc (suc (suc (suc (suc zero))))) d lt = (6, omega arith, refl)
trial_known (suc (suc (suc (suc (suc (suc k)))))) d lt = absurd (omega arith)

show_known : All (Contains option_names) show_options
show_known zero d lt = (2, omega arith, refl)
show_known (suc k) d lt = absurd (omega arith)

known_from : (names : List (List ℕ)) (given : List Given) → All (Contains option_names) names → AreOptionsOf names given → AreKnownOnce given
known_from names given known are = record {
  known = λ k d lt. All-contains (Contains option_names) names (get_or given k d).name known (are.known k d lt);
  once = are.once;
}

pub gives_known : (given : List Given) (task : Task) → Gives given task → AreKnownOnce given
gives_known given (Basins settings) gives = known_from _ given basins_known gives.options_are
gives_known given (Segment settings) gives = known_from _ given segment_known gives.options_are
gives_known given (Make settings) gives = known_from _ given make_known gives.options_are
gives_known given (Trial settings) gives = known_from _ given trial_known gives.options_are
gives_known given (Show tree) gives = known_from _ given show_known gives.options_are

pub gives_options : (given : List Given) (task : Task) → Gives given task → AreOptionsOf (options_of task) given
gives_options given (Basins settings) gives = gives.options_are
gives_options given (Segment settings) gives = gives.options_are
gives_options given (Make settings) gives = gives.options_are
gives_options given (Trial settings) gives = gives.options_are
gives_options given (Show tree) gives = gives.options_are

pub command_known : (task : Task) → Contains commands (command_of task)
command_known (Basins settings) = (0, omega arith, refl)
command_known (Segment settings) = (1, omega arith, refl)
command_known (Make settings) = (2, omega arith, refl)
command_known (Trial settings) = (3, omega arith, refl)
command_known (Show tree) = (4, omega arith, refl)

-- ---- the values in one reading are those in another

slot_same : (given options : List Given) (name : List ℕ) (slot : Option (Bor (List ℕ))) → SamePairs given options
    → IsSlot given name slot → IsSlot options name slot
slot_same given options name None same none = λ k o lt named.
    let back = given_there options given (same_swap given options same) (get_or options k o) (k, lt, get_or_default options k (get_or options k o) o lt) in
    All-contains (λ p. p.name ≢ name) given back.0 none back.1 (back.2 ∙ named)
slot_same given options name (Some value) same (o, there, named, valued) =
    let on = given_there given options same o there in
    (on.0, on.1, on.2 ∙ named, on.3 ∙ valued)

slots_same : (given options : List Given) (values : List (Option (Bor (List ℕ)))) → SamePairs given options → AreKnownOnce options
    → AreSlots given values → AreSlots options values
slots_same given options values same known slots = record {
  once = known.once;
  slots = λ n. slot_same given options (spelled n) (slot_of values n) same (slots.slots n);
}

-- ---- words

-- a test tells texts apart
pub apart : (a b : List ℕ) → bytes_eq a b ≡ false → a ≢ b
apart a b differ same = true≢false (sym ((bytes_eq-Decides a b).1 same) ∙ differ)

-- a command's words ask for its own tasks alone, whose options are those of its row
pub basins_alone : (given : List Given) → ((settings : BasinsSettings) → ¬ (GivesBasins given settings)) → (task : Task)
    → command_of task ≡ codes "basins" → ¬ (Gives given task)
basins_alone given none (Basins settings) is gives = none settings gives
basins_alone given none task is gives = apart (command_of task) (codes "basins") refl is

pub basins_row : (task : Task) → command_of task ≡ codes "basins" → options_of task ≡ basins_options
basins_row (Basins settings) is = refl
basins_row task is = absurd (apart (command_of task) (codes "basins") refl is)

pub segment_alone : (given : List Given) → ((settings : SegmentSettings) → ¬ (GivesSegment given settings)) → (task : Task)
    → command_of task ≡ codes "segment" → ¬ (Gives given task)
segment_alone given none (Segment settings) is gives = none settings gives
segment_alone given none task is gives = apart (command_of task) (codes "segment") refl is

pub segment_row : (task : Task) → command_of task ≡ codes "segment" → options_of task ≡ segment_options
segment_row (Segment settings) is = refl
segment_row task is = absurd (apart (command_of task) (codes "segment") refl is)

pub make_alone : (given : List Given) → ((settings : MakeSettings) → ¬ (GivesMake given settings)) → (task : Task)
    → command_of task ≡ codes "make" → ¬ (Gives given task)
make_alone given none (Make settings) is gives = none settings gives
make_alone given none task is gives = apart (command_of task) (codes "make") refl is

pub make_row : (task : Task) → command_of task ≡ codes "make" → options_of task ≡ make_options
make_row (Make settings) is = refl
make_row task is = absurd (apart (command_of task) (codes "make") refl is)

pub trial_alone : (given : List Given) → ((settings : TrialSettings) → ¬ (GivesTrial given settings)) → (task : Task)
    → command_of task ≡ codes "trial" → ¬ (Gives given task)
trial_alone given none (Trial settings) is gives = none settings gives
trial_alone given none task is gives = apart (command_of task) (codes "trial") refl is

pub trial_row : (task : Task) → command_of task ≡ codes "trial" → options_of task ≡ trial_options
trial_row (Trial settings) is = refl
trial_row task is = absurd (apart (command_of task) (codes "trial") refl is)

pub show_alone : (given : List Given) → ((tree : List ℕ) → ¬ (GivesShow given tree)) → (task : Task)
    → command_of task ≡ codes "show" → ¬ (Gives given task)
show_alone given none (Show tree) is gives = none tree gives
show_alone given none task is gives = apart (command_of task) (codes "show") refl is

pub show_row : (task : Task) → command_of task ≡ codes "show" → options_of task ≡ show_options
show_row (Show tree) is = refl
show_row task is = absurd (apart (command_of task) (codes "show") refl is)

-- ---- a command word and the words of options

-- all that is known of a row of commands
pub record IsRow (command : List ℕ) (names : List (List ℕ)) : Type 0 where
  pub known : Contains commands command
  pub options : (task : Task) → command_of task ≡ command → options_of task ≡ names
  pub names_known : All (Contains option_names) names

pub may_be : (command : List ℕ) (words : List (List ℕ)) → Contains commands command → All (λ word. ¬ (IsBare word)) words
    → MayBeSettings (command ∷ words)
may_be command words known none = record { command = command; others = words; words_are = refl; known = known; none_bare = none }

-- options that were not found
pub refused_options : (command : List ℕ) (names words : List (List ℕ)) (fault : WordsFault) → IsRow command names
    → All (λ word. ¬ (IsBare word)) words → RefusesOptions names words fault → RefusesWords (command ∷ words) fault
refused_options command names words NoSettings row none refuses = λ task s.
    refuses s.options
    (subst (λ n. AreOptionsOf n s.options) (row.options task (sym (same_first command (command_of task) words (flat_map given_words s.options) s.words_are)))
    (gives_options s.options task s.gives))
    (values_are_names s.options task s.gives)
    (same_rest command (command_of task) words (flat_map given_words s.options) s.words_are)
refused_options command names words Memory row none refuses = may_be command words row.known none

-- the same fault again
pub fault_again : (r : Result Job WordsFault) (command : List ℕ) (names words : List (List ℕ)) (fault : WordsFault) → IsErrAnd r (λ e. e ≡ fault)
    → IsRow command names → All (λ word. ¬ (IsBare word)) words → RefusesOptions names words fault → AnswersWords (command ∷ words) r
fault_again (Ok job) command names words fault no_error row none refuses = absurd no_error
fault_again (Err e) command names words fault is row none refuses =
    subst (RefusesWords (command ∷ words)) (sym is) (refused_options command names words fault row none refuses)

-- options whose values are no settings
pub refused_values : (command : List ℕ) (names words : List (List ℕ)) (values : List (Option (Bor (List ℕ)))) → IsRow command names
    → ReadsOptions names words values
    → ((given : List Given) → AreSlots given values → AreOptionsOf names given → (task : Task) → command_of task ≡ command → ¬ (Gives given task))
    → AreNoSettings (command ∷ words)
refused_values command names words values row read refuses task s =
    let is = sym (same_first command (command_of task) words (flat_map given_words s.options) s.words_are) in
    let known = gives_known s.options task s.gives in
    let same = one_reading read.options s.options words read.words_are
    (same_rest command (command_of task) words (flat_map given_words s.options) s.words_are)
    (known_from names read.options row.names_known read.options_are) known in
    refuses s.options (slots_same read.options s.options values same known read.slots)
    (subst (λ n. AreOptionsOf n s.options) (row.options task is) (gives_options s.options task s.gives)) task is s.gives

-- no memory for a name
pub no_memory : (r : Result Job WordsFault) (command : List ℕ) (words : List (List ℕ)) → IsErrAnd r (λ e. e ≡ Memory) → Contains commands command
    → All (λ word. ¬ (IsBare word)) words → AnswersWords (command ∷ words) r
no_memory (Ok job) command words no_error known none = absurd no_error
no_memory (Err fault) command words is known none = subst (RefusesWords (command ∷ words)) (sym is) (may_be command words known none)

-- the rows
pub basins_is_row : IsRow (codes "basins") basins_options
basins_is_row = record { known = (0, omega arith, refl); options = basins_row; names_known = basins_known }

pub segment_is_row : IsRow (codes "segment") segment_options
segment_is_row = record { known = (1, omega arith, refl); options = segment_row; names_known = segment_known }

pub make_is_row : IsRow (codes "make") make_options
make_is_row = record { known = (2, omega arith, refl); options = make_row; names_known = make_known }

pub trial_is_row : IsRow (codes "trial") trial_options
trial_is_row = record { known = (3, omega arith, refl); options = trial_row; names_known = trial_known }

pub show_is_row : IsRow (codes "show") show_options
show_is_row = record { known = (4, omega arith, refl); options = show_row; names_known = show_known }

-- ---- the settings of `segment`

abbrev pub settings_of : SegmentValues → SegmentSettings
settings_of values = record {
  volume = values.volume.now;
  labels = values.labels.now;
  tree = values.tree.now;
  low = values.low;
  threshold = values.threshold;
  chunk = values.chunk;
  workers = values.workers;
}

-- copies of the names say the same
pub names_copied : (given : List Given) (settings : SegmentSettings) (volume labels tree : List ℕ) → volume ≡ settings.volume
    → labels ≡ settings.labels → tree ≡ settings.tree → GivesSegment given settings
    → GivesSegment given (record settings { volume = volume; labels = labels; tree = tree })
names_copied given settings volume labels tree e f g gives =
    let copied : settings ≡ record settings { volume = volume; labels = labels; tree = tree } =
    (λ i. record settings { volume = sym e i; labels = sym f i; tree = sym g i }) in
    subst (GivesSegment given) copied gives
