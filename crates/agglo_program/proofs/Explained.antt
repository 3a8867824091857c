-- Each status of the program has its cause: the clauses of the top call, from what its run did.
use Rattle.std.proofs.Common.{◌≡◌, ◌≢◌, ℕ, true, ◌⊎◌, Contains, lit≤, List, Option, Some, None, IsSome, IfSome, refl, sym, ap, subst, ◌∙◌, inl, inr}
use Rattle.std.specs.List.{flat_map}
use Rattle.agglo_model.specs.Count.{Rose}
use Rattle.command_words.specs.Words.{Task, Basins, Segment, Make, Trial, Show, Spells, AreNoSettings, MayBeSettings, OneTask, commands, command_of, given_words, SegmentSettings, MakeSettings, TrialSettings}
use Rattle.command_words.proofs.BareWords.{plain_words}
use Rattle.seg_io.specs.Desk.{DeskState, File, file_named}
use Rattle.refusals.specs.declared.refusal.Refusal.{Refusal}
use Rattle.refusals.specs.declared.refusal.Refusal.TheVariants.{Memory, Words, Volume, Leaves, Input, Output, Tree}
use Rattle.refusals.specs.Refusal.{status_of}
use Rattle.agglo_program.specs.Answers.{Finds}
use Rattle.agglo_program.specs.Flaws.{RefusesInput, RefusesNumbers, Start, FromFile, FromNumbers, start_of, RefusesFrom, RefusesStart, IsJudged, HasStart, HasInput, MayHideFlaw}
use Rattle.agglo_program.specs.Headline.{IsAgglomerated, IsMade, IsTried}
use Rattle.agglo_program.specs.Reading.{OnlyInputChanges, HasFile}
use Rattle.agglo_program.specs.Run.{FinishesTask, RefusesTask, StopsTask, RefusesRun, Told, Finishes, NamesAFlawedInput, NamesAGoodInput, WritesNothing}
use Rattle.agglo_program.specs.Writing.{Answer}
use Rattle.agglo_program.proofs.FlawKinds.{volume_kind, cut_kind, tree_kind}
use Rattle.agglo_program.proofs.ReadFile.{failed_fault, failed_alone, failed_misses}
use Rattle.agglo_program.proofs.Judged.{TellsFlaw, finds_sound, one_cause, memory_first, fault_first}
use Rattle.agglo_program.proofs.Segmented.{agglomerated, made, tried}
use Rattle.agglo_program.proofs.Written.{AreFiles, IsFilePort, stopped_fault, failing_files_keep}

-- ---- what a line on the port Trouble leaves

pub record Passes (s t : DeskState) : Type 0 where
  pub input_faults : t.input_faults ≡ s.input_faults
  pub output_faults : t.output_faults ≡ s.output_faults
  pub misses : t.misses ≡ s.misses

told_passes : (refusal : Refusal) (s t : DeskState) → Told refusal s t → Passes s t
told_passes refusal s t (inl e) = record {
  input_faults = ap (λ (z : DeskState). z.input_faults) e;
  output_faults = ap (λ (z : DeskState). z.output_faults) e;
  misses = ap (λ (z : DeskState). z.misses) e;
}
told_passes refusal s t (inr f) = record {
  input_faults = ap (λ (z : DeskState). z.input_faults) f.after;
  output_faults = ap (λ (z : DeskState). z.output_faults) f.after;
  misses = ap (λ (z : DeskState). z.misses) f.after;
}

-- ---- the outputs of an answer are files

found_files : (task : Task) (answer : Answer) (s t : DeskState) → Finds task answer s t → AreFiles answer.outputs
unfolding AreFiles IsFilePort
found_files (Basins settings) answer s t f = subst (λ (a : Answer). AreFiles a.outputs) (sym f.answer_is) (tt, tt)
found_files (Segment settings) answer s t f = subst (λ (a : Answer). AreFiles a.outputs) (sym f.answer_is) (tt, (tt, tt))
found_files (Make settings) answer s t f = subst (λ (a : Answer). AreFiles a.outputs) (sym f.answer_is) (tt, tt)
found_files (Trial settings) answer s t f = subst (λ (a : Answer). AreFiles a.outputs) (sym f.answer_is) tt
found_files (Show tree) answer s t f = subst (λ (a : Answer). AreFiles a.outputs) (sym f.answer_is) tt

opened_passes : (s t : DeskState) → t ≡ record s { has_input = true; input = t.input } → Passes s t
opened_passes s t e = record {
  input_faults = ap (λ (z : DeskState). z.input_faults) e;
  output_faults = ap (λ (z : DeskState). z.output_faults) e;
  misses = ap (λ (z : DeskState). z.misses) e;
}

same_passes : (s t : DeskState) → t ≡ s → Passes s t
same_passes s t e = record {
  input_faults = ap (λ (z : DeskState). z.input_faults) e;
  output_faults = ap (λ (z : DeskState). z.output_faults) e;
  misses = ap (λ (z : DeskState). z.misses) e;
}

found_passes : (task : Task) (answer : Answer) (s t : DeskState) → Finds task answer s t → Passes s t
found_passes (Basins settings) answer s t f = opened_passes s t f.read.opened.after
found_passes (Segment settings) answer s t f = opened_passes s t f.read.read.opened.after
found_passes (Make settings) answer s t f = same_passes s t f.after
found_passes (Trial settings) answer s t f = same_passes s t f.after
found_passes (Show tree) answer s t f = opened_passes s t f.read.opened.after

-- a fault of the output after the input was read is one of the whole run
stopped_rose : (task : Task) (s t : DeskState) → StopsTask task s t → Rose s.output_faults t.output_faults
stopped_rose task s t f = subst (λ (n : ℕ). Rose n t.output_faults) (found_passes task f.answer s f.mid f.found).output_faults
    (stopped_fault f.answer.outputs f.answer.note f.mid t (found_files task f.answer s f.mid f.found) f.stopped)

stopped_misses : (task : Task) (s t : DeskState) → StopsTask task s t → t.misses ≡ s.misses
stopped_misses task s t f =
    (failing_files_keep f.answer.outputs f.answer.note f.mid t (found_files task f.answer s f.mid f.found) f.stopped).misses
    ∙ (found_passes task f.answer s f.mid f.found).misses

-- ---- the answer was written

finishes_it : (words : List (List ℕ)) (task : Task) (s t : DeskState) → OneTask → Finishes words s t → Spells words task → FinishesTask task s t
finishes_it words task s t one f spelled = subst (λ (task : Task). FinishesTask task s t) (one words f.task task f.spelled spelled) f.finished

pub is_segmented : (words : List (List ℕ)) (s t : DeskState) → OneTask → Finishes words s t → (settings : SegmentSettings)
    → Spells words (Segment settings) → IsAgglomerated settings s t
is_segmented words s t one f settings spelled =
    let done = finishes_it words (Segment settings) s t one f spelled in
    agglomerated settings done.answer s done.mid t done.found done.wrote

pub is_made : (words : List (List ℕ)) (s t : DeskState) → OneTask → Finishes words s t → (settings : MakeSettings)
    → Spells words (Make settings) → IsMade settings s t
is_made words s t one f settings spelled =
    let done = finishes_it words (Make settings) s t one f spelled in
    made settings done.answer s done.mid t done.found done.wrote

pub is_tried : (words : List (List ℕ)) (s t : DeskState) → OneTask → Finishes words s t → (settings : TrialSettings)
    → Spells words (Trial settings) → IsTried settings s t
is_tried words s t one f settings spelled =
    let done = finishes_it words (Trial settings) s t one f spelled in
    tried settings done.answer s done.mid t done.found done.wrote

some_is : {a b : Refusal} → Some a ≡ Some b → a ≡ b
some_is e = cc e

none_is_some : {R : Type 0} (a : Refusal) → None ≡ Some a → R
none_is_some a e = cc e

-- what was found sound has no flaw
not_flawed : (words : List (List ℕ)) (task : Task) (answer : Answer) (status : ℕ) (s t : DeskState) (P : Type 0) → OneTask
    → Spells words task → Finds task answer s t → NamesAFlawedInput words status s → P
not_flawed words task answer status s t P one spelled f n = none_is_some n.refusal (sym (finds_sound task answer (Some n.refusal) s t f
    (subst (λ (task : Task). IsJudged task (Some n.refusal) s) (one words n.task task n.spelled spelled) n.flawed)))

pub done_not_flawed : (words : List (List ℕ)) (s t : DeskState) (P : Type 0) → OneTask → Finishes words s t → (status : ℕ)
    → NamesAFlawedInput words status s → P
done_not_flawed words s t P one f status n =
    not_flawed words f.task f.finished.answer status s f.finished.mid P one f.spelled f.finished.found n

-- ---- the run of settings ends for a cause

-- a task that started has words
no_words : (task : Task) (s t : DeskState) → RefusesStart task Words s t → ⊥
no_words (Basins settings) s t f = volume_kind Words f.0
no_words (Segment settings) s t f = cut_kind settings.chunk Words f.0
no_words (Make settings) s t f = f
no_words (Trial settings) s t f = f
no_words (Show tree) s t f = tree_kind Words f.0

pub settings_refused : (words : List (List ℕ)) (task : Task) (refusal : Refusal) (s t : DeskState) → Spells words task
    → RefusesTask task refusal s t → RefusesRun words refusal s t
settings_refused words task Memory s t spelled f = inr (record { task = task; spelled = spelled; refused = f })
settings_refused words task Words s t spelled f = absurd (no_words task s t f)
settings_refused words task (Volume fault) s t spelled f = record { task = task; spelled = spelled; refused = f }
settings_refused words task (Leaves leaves) s t spelled f = record { task = task; spelled = spelled; refused = f }
settings_refused words task Input s t spelled f = record { task = task; spelled = spelled; refused = f }
settings_refused words task Output s t spelled f = record { task = task; spelled = spelled; refused = f }
settings_refused words task (Tree fault) s t spelled f = record { task = task; spelled = spelled; refused = f }

-- ---- the run ended for a cause: status 2 comes where the words are none

only_none : (refusal : Refusal) (words : List (List ℕ)) (s t : DeskState) → RefusesRun words refusal s t → status_of refusal ≡ 2
    → AreNoSettings words
only_none Memory words s t f e = cc e
only_none Words words s t f e = f.0
only_none (Volume fault) words s t f e = cc e
only_none (Leaves leaves) words s t f e = cc e
only_none Input words s t f e = cc e
only_none Output words s t f e = cc e
only_none (Tree fault) words s t f e = cc e

-- words that are none, or memory was lacking to read them
none_judged : (refusal : Refusal) (words : List (List ℕ)) (s t : DeskState) → RefusesRun words refusal s t → AreNoSettings words
    → (status_of refusal ≡ 2) ⊎ ((status_of refusal ≡ 1) × MayBeSettings words)
none_judged Memory words s t (inl f) none = inr (refl, f.may_be)
none_judged Memory words s t (inr f) none = absurd (none f.task f.spelled)
none_judged Words words s t f none = inl refl
none_judged (Volume fault) words s t f none = absurd (none f.task f.spelled)
none_judged (Leaves leaves) words s t f none = absurd (none f.task f.spelled)
none_judged Input words s t f none = absurd (none f.task f.spelled)
none_judged Output words s t f none = absurd (none f.task f.spelled)
none_judged (Tree fault) words s t f none = absurd (none f.task f.spelled)

-- settings begin with a command, and none of their words is bare
known_command : (task : Task) → Contains commands (command_of task)
known_command (Basins settings) = (0, lit≤ tt, refl)
known_command (Segment settings) = (1, lit≤ tt, refl)
known_command (Make settings) = (2, lit≤ tt, refl)
known_command (Trial settings) = (3, lit≤ tt, refl)
known_command (Show tree) = (4, lit≤ tt, refl)

pub spelled_may_be : (words : List (List ℕ)) (task : Task) → Spells words task → MayBeSettings words
spelled_may_be words task spelled = record {
  command = command_of task;
  others = flat_map given_words spelled.options;
  words_are = spelled.words_are;
  known = known_command task;
  none_bare = plain_words (command_of task) (flat_map given_words spelled.options) task
      (subst (λ (w : List (List ℕ)). Spells w task) spelled.words_are spelled);
}

glance_judged : (refusal : Refusal) (words : List (List ℕ)) (s t : DeskState) → RefusesRun words refusal s t → ¬ (MayBeSettings words)
    → status_of refusal ≡ 2
glance_judged Memory words s t (inl f) bad = absurd (bad f.may_be)
glance_judged Memory words s t (inr f) bad = absurd (bad (spelled_may_be words f.task f.spelled))
glance_judged Words words s t f bad = refl
glance_judged (Volume fault) words s t f bad = absurd (bad (spelled_may_be words f.task f.spelled))
glance_judged (Leaves leaves) words s t f bad = absurd (bad (spelled_may_be words f.task f.spelled))
glance_judged Input words s t f bad = absurd (bad (spelled_may_be words f.task f.spelled))
glance_judged Output words s t f bad = absurd (bad (spelled_may_be words f.task f.spelled))
glance_judged (Tree fault) words s t f bad = absurd (bad (spelled_may_be words f.task f.spelled))

-- ---- a flaw is found

flaw_judged : (refusal : Refusal) (words : List (List ℕ)) (task : Task) (s t : DeskState) → TellsFlaw refusal → OneTask
    → Spells words task → RefusesStart task refusal s t → (status : ℕ) → NamesAFlawedInput words status s → status_of refusal ≡ status
flaw_judged refusal words task s t flaw one spelled f status n =
    let judged = subst (λ (task : Task). IsJudged task (Some n.refusal) s) (one words n.task task n.spelled spelled) n.flawed in
    sym (n.status_is ∙ ap status_of (some_is (one_cause task refusal (Some n.refusal) s t flaw f judged)))

exactly_judged : (refusal : Refusal) (words : List (List ℕ)) (s t : DeskState) → OneTask → RefusesRun words refusal s t → (status : ℕ)
    → (n : NamesAFlawedInput words status s) → (status_of refusal ≡ status) ⊎ MayHideFlaw n.task (status_of refusal)
unfolding TellsFlaw
exactly_judged Memory words s t one f status n = inr (memory_first n.task)
exactly_judged Words words s t one f status n = absurd (f.0 n.task n.spelled)
exactly_judged (Volume fault) words s t one f status n = inl (flaw_judged (Volume fault) words f.task s t tt one f.spelled f.refused status n)
exactly_judged (Leaves leaves) words s t one f status n = inl (flaw_judged (Leaves leaves) words f.task s t tt one f.spelled f.refused status n)
exactly_judged Input words s t one f status n = inr (subst (λ (task : Task). MayHideFlaw task 5)
    (one words f.task n.task f.spelled n.spelled) (fault_first f.task s t f.refused))
exactly_judged Output words s t one f status n =
    not_flawed words f.task f.refused.answer status s f.refused.mid _ one f.spelled f.refused.found n
exactly_judged (Tree fault) words s t one f status n = inl (flaw_judged (Tree fault) words f.task s t tt one f.spelled f.refused status n)

-- ---- faults

fault_of_start : (start : Start) (s t : DeskState) → RefusesFrom start Input s t → Rose s.input_faults t.input_faults
fault_of_start (FromFile statuses refusal_of judged name) s t f = failed_fault judged name s t f
fault_of_start (FromNumbers statuses cause) s t f = absurd f

fault_of_input : (task : Task) (s t : DeskState) → RefusesStart task Input s t → Rose s.input_faults t.input_faults
fault_of_input task s t f = fault_of_start (start_of task) s t f

input_rose : (words : List (List ℕ)) (s m t : DeskState) → RefusesRun words Input s m → Told Input m t
    → Rose s.input_faults t.input_faults
input_rose words s m t f told = subst (Rose s.input_faults) (sym (told_passes Input m t told).input_faults)
    (fault_of_input f.task s m f.refused)

output_rose : (words : List (List ℕ)) (s m t : DeskState) → RefusesRun words Output s m → Told Output m t
    → Rose s.output_faults t.output_faults
output_rose words s m t f told = subst (Rose s.output_faults) (sym (told_passes Output m t told).output_faults)
    (stopped_rose f.task s m f.refused)

input_judged : (refusal : Refusal) (words : List (List ℕ)) (s m t : DeskState) → RefusesRun words refusal s m → Told refusal m t
    → status_of refusal ≡ 5 → Rose s.input_faults t.input_faults
input_judged Memory words s m t f told e = cc e
input_judged Words words s m t f told e = cc e
input_judged (Volume fault) words s m t f told e = cc e
input_judged (Leaves leaves) words s m t f told e = cc e
input_judged Input words s m t f told e = input_rose words s m t f told
input_judged Output words s m t f told e = cc e
input_judged (Tree fault) words s m t f told e = cc e

output_judged : (refusal : Refusal) (words : List (List ℕ)) (s m t : DeskState) → RefusesRun words refusal s m → Told refusal m t
    → status_of refusal ≡ 6 → Rose s.output_faults t.output_faults
output_judged Memory words s m t f told e = cc e
output_judged Words words s m t f told e = cc e
output_judged (Volume fault) words s m t f told e = cc e
output_judged (Leaves leaves) words s m t f told e = cc e
output_judged Input words s m t f told e = cc e
output_judged Output words s m t f told e = output_rose words s m t f told
output_judged (Tree fault) words s m t f told e = cc e

-- ---- what has no flaw meets nothing but want of memory

abbrev Only_memory : Refusal → Type 0
Only_memory refusal = (status_of refusal ≡ 0) ⊎ (status_of refusal ≡ 1)

not_good : (refusal : Refusal) (words : List (List ℕ)) (task : Task) (s t : DeskState) → TellsFlaw refusal → OneTask
    → Spells words task → RefusesStart task refusal s t → NamesAGoodInput words s → ⊥
not_good refusal words task s t flaw one spelled f n =
    none_is_some refusal (one_cause task refusal None s t flaw f
    (subst (λ (task : Task). IsJudged task None s) (one words n.task task n.spelled spelled) n.sound))

complete_judged : (refusal : Refusal) (words : List (List ℕ)) (s m t : DeskState) → OneTask → RefusesRun words refusal s m
    → Told refusal m t → NamesAGoodInput words s → ¬ (Rose s.input_faults t.input_faults) → ¬ (Rose s.output_faults t.output_faults)
    → Only_memory refusal
unfolding TellsFlaw
complete_judged Memory words s m t one f told n no_input no_output = inr refl
complete_judged Words words s m t one f told n no_input no_output = absurd (f.0 n.task n.spelled)
complete_judged (Volume fault) words s m t one f told n no_input no_output = absurd (not_good _ words f.task s m tt one f.spelled f.refused n)
complete_judged (Leaves leaves) words s m t one f told n no_input no_output = absurd (not_good _ words f.task s m tt one f.spelled f.refused n)
complete_judged Input words s m t one f told n no_input no_output = absurd (no_input (input_rose words s m t f told))
complete_judged Output words s m t one f told n no_input no_output = absurd (no_output (output_rose words s m t f told))
complete_judged (Tree fault) words s m t one f told n no_input no_output = absurd (not_good _ words f.task s m tt one f.spelled f.refused n)

-- ---- nothing is written before the answer is known

input_alone : (s t : DeskState) → t ≡ record s { has_input = true; input = t.input } → OnlyInputChanges s t
input_alone s t e = e ∙ sym (ap (λ (z : DeskState). record s {
  input_faults = z.input_faults;
  misses = z.misses;
  has_input = z.has_input;
  input = z.input;
}) e)

nothing_alone : (s t : DeskState) → t ≡ s → OnlyInputChanges s t
nothing_alone s t e = e ∙ sym (ap (λ (z : DeskState). record s {
  input_faults = z.input_faults;
  misses = z.misses;
  has_input = z.has_input;
  input = z.input;
}) e)

file_alone : (refusal_of : List ℕ → Option Refusal) (judged : List ℕ → ℕ) (name : List ℕ) (refusal : Refusal) (s t : DeskState)
    → RefusesInput refusal_of judged name refusal s t → OnlyInputChanges s t
file_alone refusal_of judged name Memory s t f = input_alone s t f.after
file_alone refusal_of judged name Words s t f = input_alone s t f.1.opened.after
file_alone refusal_of judged name (Volume fault) s t f = input_alone s t f.1.opened.after
file_alone refusal_of judged name (Leaves leaves) s t f = input_alone s t f.1.opened.after
file_alone refusal_of judged name Input s t f = failed_alone judged name s t f
file_alone refusal_of judged name Output s t f = input_alone s t f.1.opened.after
file_alone refusal_of judged name (Tree fault) s t f = input_alone s t f.1.opened.after

-- where no file is read, nothing changes
numbers_same : (cause : Option Refusal) (refusal : Refusal) (s t : DeskState) → RefusesNumbers cause refusal s t → t ≡ s
numbers_same cause Memory s t f = f
numbers_same cause Words s t f = absurd f
numbers_same cause (Volume fault) s t f = absurd f
numbers_same cause (Leaves leaves) s t f = f.1
numbers_same cause Input s t f = absurd f
numbers_same cause Output s t f = absurd f
numbers_same cause (Tree fault) s t f = absurd f

alone_from : (start : Start) (refusal : Refusal) (s t : DeskState) → RefusesFrom start refusal s t → OnlyInputChanges s t
alone_from (FromFile statuses refusal_of judged name) refusal s t f = file_alone refusal_of judged name refusal s t f
alone_from (FromNumbers statuses cause) refusal s t f = nothing_alone s t (numbers_same cause refusal s t f)

start_alone : (task : Task) (refusal : Refusal) (s t : DeskState) → RefusesStart task refusal s t → OnlyInputChanges s t
start_alone task refusal s t f = alone_from (start_of task) refusal s t f

run_alone : (refusal : Refusal) (words : List (List ℕ)) (s t : DeskState) → RefusesRun words refusal s t → status_of refusal ≢ 6
    → OnlyInputChanges s t
run_alone Memory words s t (inl f) apart = nothing_alone s t f.after
run_alone Memory words s t (inr f) apart = start_alone f.task Memory s t f.refused
run_alone Words words s t f apart = nothing_alone s t f.1
run_alone (Volume fault) words s t f apart = start_alone f.task (Volume fault) s t f.refused
run_alone (Leaves leaves) words s t f apart = start_alone f.task (Leaves leaves) s t f.refused
run_alone Input words s t f apart = start_alone f.task Input s t f.refused
run_alone Output words s t f apart = absurd (apart refl)
run_alone (Tree fault) words s t f apart = start_alone f.task (Tree fault) s t f.refused

-- after the input, the port Trouble
abbrev trouble_too : DeskState → DeskState → DeskState
trouble_too s z = record s {
  input_faults = z.input_faults;
  misses = z.misses;
  has_input = z.has_input;
  input = z.input;
  trouble = z.trouble;
  trouble_faults = z.trouble_faults;
}

told_alone : (refusal : Refusal) (s m t : DeskState) → OnlyInputChanges s m → Told refusal m t → WritesNothing s t
told_alone refusal s m t e (inl f) =
    let g : t ≡ record s { input_faults = m.input_faults; misses = m.misses; has_input = m.has_input; input = m.input; trouble = t.trouble } =
    f ∙ (λ i. record (e i) { trouble = (sym (ap (λ (z : DeskState). z.trouble) f)) i }) in
    g ∙ sym (ap (trouble_too s) g)
told_alone refusal s m t e (inr f) =
    let g : t ≡ record s { input_faults = m.input_faults; misses = m.misses; has_input = m.has_input; input = m.input; trouble = t.trouble; trouble_faults = t.trouble_faults } =
    f.after ∙ (λ i. record (e i) { trouble = (sym (ap (λ (z : DeskState). z.trouble) f.after)) i; trouble_faults = t.trouble_faults }) in
    g ∙ sym (ap (trouble_too s) g)

quiet_judged : (refusal : Refusal) (words : List (List ℕ)) (s m t : DeskState) → RefusesRun words refusal s m → Told refusal m t
    → status_of refusal ≢ 6 → WritesNothing s t
quiet_judged refusal words s m t f told apart = told_alone refusal s m t (run_alone refusal words s m f apart) told

-- ---- misses

-- a claim that needs no file
everywhere : (files : Option (List File)) (P : Type 0) → P → IfSome files (λ _. P)
everywhere None P p = tt
everywhere (Some fs) P p = p

-- a file that is there is no miss
found_stays : (name : List ℕ) (files : Option (List File)) (old new : ℕ)
    → IfSome files (λ fs. IsSome (file_named fs name)) → IfSome files (λ fs. IsSome (file_named fs name) → new ≡ old)
    → IfSome files (λ _. new ≡ old)
found_stays name None old new found stays = tt
found_stays name (Some fs) old new found stays = stays found

abbrev Misses_stay : DeskState → DeskState → Type 0
Misses_stay s t = IfSome s.files (λ _. t.misses ≡ s.misses)

file_misses : (refusal_of : List ℕ → Option Refusal) (judged : List ℕ → ℕ) (name : List ℕ) (refusal : Refusal) (s t : DeskState)
    → RefusesInput refusal_of judged name refusal s t → HasFile s name → Misses_stay s t
file_misses refusal_of judged name Memory s t f has = everywhere s.files _ (ap (λ (z : DeskState). z.misses) f.after)
file_misses refusal_of judged name Words s t f has = everywhere s.files _ (ap (λ (z : DeskState). z.misses) f.1.opened.after)
file_misses refusal_of judged name (Volume fault) s t f has = everywhere s.files _ (ap (λ (z : DeskState). z.misses) f.1.opened.after)
file_misses refusal_of judged name (Leaves leaves) s t f has = everywhere s.files _ (ap (λ (z : DeskState). z.misses) f.1.opened.after)
file_misses refusal_of judged name Input s t f has = found_stays name s.files s.misses t.misses has (failed_misses judged name s t f)
file_misses refusal_of judged name Output s t f has = everywhere s.files _ (ap (λ (z : DeskState). z.misses) f.1.opened.after)
file_misses refusal_of judged name (Tree fault) s t f has = everywhere s.files _ (ap (λ (z : DeskState). z.misses) f.1.opened.after)

numbers_misses : (cause : Option Refusal) (refusal : Refusal) (s t : DeskState) → RefusesNumbers cause refusal s t → Misses_stay s t
numbers_misses cause refusal s t f = everywhere s.files _ (ap (λ (z : DeskState). z.misses) (numbers_same cause refusal s t f))

misses_from : (start : Start) (refusal : Refusal) (s t : DeskState) → RefusesFrom start refusal s t → HasStart s start
    → Misses_stay s t
misses_from (FromFile statuses refusal_of judged name) refusal s t f has = file_misses refusal_of judged name refusal s t f has
misses_from (FromNumbers statuses cause) refusal s t f has = numbers_misses cause refusal s t f

start_misses : (task : Task) (refusal : Refusal) (s t : DeskState) → RefusesStart task refusal s t → HasInput s task → Misses_stay s t
start_misses task refusal s t f has = misses_from (start_of task) refusal s t f has

run_misses : (refusal : Refusal) (words : List (List ℕ)) (s t : DeskState) → RefusesRun words refusal s t
    → ((task : Task) → Spells words task → HasInput s task) → Misses_stay s t
run_misses Memory words s t (inl f) has = everywhere s.files _ (ap (λ (z : DeskState). z.misses) f.after)
run_misses Memory words s t (inr f) has = start_misses f.task Memory s t f.refused (has f.task f.spelled)
run_misses Words words s t f has = everywhere s.files _ (ap (λ (z : DeskState). z.misses) f.1)
run_misses (Volume fault) words s t f has = start_misses f.task (Volume fault) s t f.refused (has f.task f.spelled)
run_misses (Leaves leaves) words s t f has = start_misses f.task (Leaves leaves) s t f.refused (has f.task f.spelled)
run_misses Input words s t f has = start_misses f.task Input s t f.refused (has f.task f.spelled)
run_misses Output words s t f has = everywhere s.files _ (stopped_misses f.task s t f.refused)
run_misses (Tree fault) words s t f has = start_misses f.task (Tree fault) s t f.refused (has f.task f.spelled)

pub misses_judged : (refusal : Refusal) (words : List (List ℕ)) (s m t : DeskState) → RefusesRun words refusal s m → Told refusal m t
    → ((task : Task) → Spells words task → HasInput s task) → Misses_stay s t
misses_judged refusal words s m t f told has = subst (λ (n : ℕ). IfSome s.files (λ _. n ≡ s.misses))
    (sym (told_passes refusal m t told).misses) (run_misses refusal words s m f has)

-- ---- the same of the status that was answered

pub no_settings_told : (refusal : Refusal) (words : List (List ℕ)) (s t : DeskState) (status : ℕ) → status ≡ status_of refusal
    → RefusesRun words refusal s t → status ≡ 2 → AreNoSettings words
no_settings_told refusal words s t status is f e = only_none refusal words s t f (sym is ∙ e)

pub words_told : (refusal : Refusal) (words : List (List ℕ)) (s t : DeskState) (status : ℕ) → status ≡ status_of refusal
    → RefusesRun words refusal s t → AreNoSettings words → (status ≡ 2) ⊎ ((status ≡ 1) × MayBeSettings words)
words_told refusal words s t status is f none =
    subst (λ (n : ℕ). (n ≡ 2) ⊎ ((n ≡ 1) × MayBeSettings words)) (sym is) (none_judged refusal words s t f none)

pub glance_told : (refusal : Refusal) (words : List (List ℕ)) (s t : DeskState) (status : ℕ) → status ≡ status_of refusal
    → RefusesRun words refusal s t → ¬ (MayBeSettings words) → status ≡ 2
glance_told refusal words s t status is f bad = is ∙ glance_judged refusal words s t f bad

pub input_told : (refusal : Refusal) (words : List (List ℕ)) (s m t : DeskState) (status : ℕ) → status ≡ status_of refusal
    → RefusesRun words refusal s m → Told refusal m t → status ≡ 5 → Rose s.input_faults t.input_faults
input_told refusal words s m t status is f told e = input_judged refusal words s m t f told (sym is ∙ e)

pub output_told : (refusal : Refusal) (words : List (List ℕ)) (s m t : DeskState) (status : ℕ) → status ≡ status_of refusal
    → RefusesRun words refusal s m → Told refusal m t → status ≡ 6 → Rose s.output_faults t.output_faults
output_told refusal words s m t status is f told e = output_judged refusal words s m t f told (sym is ∙ e)

pub quiet_told : (refusal : Refusal) (words : List (List ℕ)) (s m t : DeskState) (status : ℕ) → status ≡ status_of refusal
    → RefusesRun words refusal s m → Told refusal m t → status ≢ 0 → status ≢ 6 → WritesNothing s t
quiet_told refusal words s m t status is f told _ apart = quiet_judged refusal words s m t f told (λ e. apart (is ∙ e))

pub exactly_told : (refusal : Refusal) (words : List (List ℕ)) (s t : DeskState) (result : ℕ) → result ≡ status_of refusal → OneTask
    → RefusesRun words refusal s t → (status : ℕ) → (n : NamesAFlawedInput words status s)
    → (result ≡ status) ⊎ MayHideFlaw n.task result
exactly_told refusal words s t result is one f status n =
    subst (λ (k : ℕ). (k ≡ status) ⊎ MayHideFlaw n.task k) (sym is) (exactly_judged refusal words s t one f status n)

pub complete_told : (refusal : Refusal) (words : List (List ℕ)) (s m t : DeskState) (result : ℕ) → result ≡ status_of refusal → OneTask
    → RefusesRun words refusal s m → Told refusal m t → NamesAGoodInput words s → ¬ (Rose s.input_faults t.input_faults)
    → ¬ (Rose s.output_faults t.output_faults) → (result ≡ 0) ⊎ (result ≡ 1)
complete_told refusal words s m t result is one f told n no_input no_output =
    subst (λ (k : ℕ). (k ≡ 0) ⊎ (k ≡ 1)) (sym is) (complete_judged refusal words s m t one f told n no_input no_output)
