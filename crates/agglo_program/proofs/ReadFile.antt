-- The states of a desk whose input is opened and then read.
use Rattle.std.proofs.Common.{◌≡◌, ℕ, ◌<◌, Bool, true, List, [], drop, Option, Some, None, IsSome, IfSome, MatchOption, Result, Ok, Err, MatchResult, sym, ap, subst, ◌∙◌, inl, inr}
use Rattle.std.specs.Option.{option_map, option_and_then}
use Rattle.std.specs.Result.{IsErrAnd}
use Rattle.std.proofs.lemmas.Result.{err_from_is_err_and}
use Rattle.agglo_model.specs.Count.{Rose}
use Rattle.agglo_model.specs.Grid.{Grid}
use Rattle.agglo_model.specs.VolumeFile.{VolumeFlaw, volume_flaw}
use Rattle.seg_io.specs.Desk.{DeskState, File, file_named, taken, OpensInput, FailsToOpenInput, FailsAfterReading}
use Rattle.seg_io.proofs.Bytes.{same_bytes}
use Rattle.volume_file.specs.declared.fault.VolumeFault.{VolumeFault}
use Rattle.volume_file.specs.declared.fault.VolumeFault.TheVariants.{ShortHeader, Magic, Channels, Reserved, AxisZero, AxisLarge, TooMany, Truncated, Trailing, Read, Memory}
use Rattle.volume_file.specs.Fault.{fault_of}
use Rattle.volume_file.specs.Reading.{ReadsVolume, FindsBadVolume, FailsToReadVolume}
use Rattle.refusals.specs.declared.refusal.Refusal.TheVariants.{Volume}
use Rattle.refusals.specs.Refusal.{volume_refusal}
use Rattle.agglo_program.specs.Reading.{OnlyInputChanges, OpensFile, ReadsFile, JudgesFile, IsUnjudged, FailsToReadFile}
use Rattle.agglo_program.specs.Answers.{IsVolumeFile}
use Rattle.agglo_program.specs.Flaws.{volume_flaw_refusal, basins_refusal, basins_judged, RefusesInput}

-- what holds of the input that was opened holds of the file
of_file : (name : List ℕ) (files : Option (List File)) (input : Option (List ℕ)) (P : List ℕ → Type 0)
    → IfSome files (λ fs. input ≡ file_named fs name) → IfSome input P
    → IfSome (option_and_then (λ fs. file_named fs name) files) P
of_file name None input P h p = tt
of_file name (Some fs) input P h p = subst (λ (i : Option (List ℕ)). IfSome i P) h p

nothing_left : (name : List ℕ) (files : Option (List File)) (input left : Option (List ℕ))
    → IfSome files (λ fs. input ≡ file_named fs name) → left ≡ option_map (λ (bytes : List ℕ). []) input
    → IfSome (option_and_then (λ fs. file_named fs name) files) (λ _. left ≡ Some [])
nothing_left name files input left h e = of_file name files input (λ _. left ≡ Some []) h (by_input input e)
  where
    by_input : (i : Option (List ℕ)) → left ≡ option_map (λ (bytes : List ℕ). []) i → IfSome i (λ _. left ≡ Some [])
    by_input None e = tt
    by_input (Some bytes) e = e

-- a state that differs in its input alone
input_alone : (s t u : DeskState) (input : Option (List ℕ)) → t ≡ record s { has_input = true; input = t.input }
    → u ≡ record t { input = input } → u ≡ record s { has_input = true; input = u.input }
input_alone s t u input e f =
    let g : u ≡ record s { has_input = true; input = input } =
    f ∙ ap (λ (z : DeskState). record z { input = input }) e in
    g ∙ ap (λ (i : Option (List ℕ)). record s { has_input = true; input = i }) (sym (ap (λ (z : DeskState). z.input) g))

-- ---- two facts about the same bytes, or one that follows from another

pub if_some : (o : Option (List ℕ)) (P Q : List ℕ → Type 0) → ((bytes : List ℕ) → P bytes → Q bytes) → IfSome o P → IfSome o Q
if_some None P Q f h = tt
if_some (Some bytes) P Q f h = f bytes h

pub if_both : (o : Option (List ℕ)) (P Q R : List ℕ → Type 0) → ((bytes : List ℕ) → P bytes → Q bytes → R bytes)
    → IfSome o P → IfSome o Q → IfSome o R
if_both None P Q R f h k = tt
if_both (Some bytes) P Q R f h k = f bytes h k

pub any_bytes : (o : Option (List ℕ)) → IfSome o (λ _. Unit {0})
any_bytes None = tt
any_bytes (Some bytes) = tt

-- ---- files

ok_or_err : {X F : Type 0} (x : X) (f : F) → Ok x ≡ Err f → ⊥
ok_or_err x f e = cc e

-- what a call did, where it is told with another error, and did not fail
pub was_opened : {X E F : Type 0} (told : E → F → Type 0) (call : Result X E) (result : Result X F) (x : X) (P Q : Type 0)
    → MatchResult call (λ _. P) (λ _. Q) → MatchResult call (λ y. result ≡ Ok y) (λ e. IsErrAnd result (told e)) → result ≡ Ok x → P
was_opened told (Ok y) result x P Q h is e = h
was_opened told (Err fault) result x P Q h is e =
    let d = err_from_is_err_and result is in
    absurd (ok_or_err x d.0 (sym e ∙ d.1))

pub opens_file : (name : List ℕ) (Are : List ℕ → Type 0) (s t u : DeskState) (input : Option (List ℕ)) → OpensInput name s t
    → IfSome t.input Are → u ≡ record t { input = input } → OpensFile name Are s u
opens_file name Are s t u input o are e = record {
  found = o.found;
  bytes = of_file name s.files t.input Are o.file are;
  after = input_alone s t u input o.after e;
}

left_after : (o : Option (List ℕ)) (n : ℕ) (judged : List ℕ → ℕ) (left : Option (List ℕ)) → IfSome o (λ bytes. n ≡ judged bytes)
    → left ≡ option_map (drop n) o → IfSome o (λ bytes. left ≡ Some (drop (judged bytes) bytes))
left_after None n judged left count e = tt
left_after (Some bytes) n judged left count e = e ∙ ap (λ (k : ℕ). Some (drop k bytes)) count

pub judges_file : (name : List ℕ) (Are : List ℕ → Type 0) (judged : List ℕ → ℕ) (n : ℕ) (s t u : DeskState) → OpensInput name s t
    → IfSome t.input Are → IfSome t.input (λ bytes. n ≡ judged bytes) → u ≡ taken n t → JudgesFile name Are judged s u
judges_file name Are judged n s t u o are count e = record {
  opened = opens_file name Are s t u (option_map (drop n) t.input) o are e;
  left = of_file name s.files t.input (λ bytes. u.input ≡ Some (drop (judged bytes) bytes)) o.file
      (left_after t.input n judged u.input count (ap (λ (z : DeskState). z.input) e));
}

pub reads_file : (name : List ℕ) (Are : List ℕ → Type 0) (s t u : DeskState) → OpensInput name s t → IfSome t.input Are
    → u ≡ record t { input = option_map (λ (bytes : List ℕ). []) t.input } → ReadsFile name Are s u
reads_file name Are s t u o are e = record {
  opened = opens_file name Are s t u (option_map (λ (bytes : List ℕ). []) t.input) o are e;
  ended = nothing_left name s.files t.input u.input o.file (ap (λ (z : DeskState). z.input) e);
}

-- ---- faults

pub only_input : (s u : DeskState) (faults misses : ℕ) (has : Bool) (input : Option (List ℕ))
    → u ≡ record s { input_faults = faults; misses = misses; has_input = has; input = input } → OnlyInputChanges s u
only_input s u faults misses has input e =
    let F : DeskState → DeskState = λ (z : DeskState). record s { input_faults = z.input_faults; misses = z.misses; has_input = z.has_input; input = z.input } in
    e ∙ sym (ap F e)

-- a name that some file has is no miss
stays_where_found : (name : List ℕ) (files : Option (List File)) (old new : ℕ)
    → IfSome files (λ fs. MatchOption (file_named fs name) (Rose old new) (λ _. new ≡ old))
    → IfSome files (λ fs. IsSome (file_named fs name) → new ≡ old)
stays_where_found name None old new h = tt
stays_where_found name (Some fs) old new h = by_file (file_named fs name) h
  where
    by_file : (o : Option (List ℕ)) → MatchOption o (Rose old new) (λ _. new ≡ old) → IsSome o → new ≡ old
    by_file None h s = absurd (none_is_some s)
      where
        none_is_some : IsSome {T = List ℕ} None → ⊥
        none_is_some e = cc
    by_file (Some x) h s = h

stays : (name : List ℕ) (files : Option (List File)) (old new : ℕ) → new ≡ old
    → IfSome files (λ fs. IsSome (file_named fs name) → new ≡ old)
stays name None old new e = tt
stays name (Some fs) old new e = λ _. e

pub fails_to_open : (judged : List ℕ → ℕ) (name : List ℕ) (s t : DeskState) → FailsToOpenInput name s t → FailsToReadFile judged name s t
fails_to_open judged name s t f = inl f

fewer : (o : Option (List ℕ)) (read : ℕ) (judged : List ℕ → ℕ) (u : DeskState) → IfSome o (λ bytes. read < judged bytes)
    → u.input ≡ option_map (drop read) o → IfSome o (IsUnjudged judged u)
fewer None read judged u few e = tt
fewer (Some bytes) read judged u few e = record { read = read; few = few; left = e }

pub fails_to_read : (judged : List ℕ → ℕ) (name : List ℕ) (s t u : DeskState) → OpensInput name s t → FailsAfterReading judged t u
    → FailsToReadFile judged name s u
fails_to_read judged name s t u o f =
    let g : u ≡ record s { input_faults = u.input_faults; has_input = true; input = option_map (drop f.read) t.input } =
    f.after ∙ ap (λ (z : DeskState). record z { input_faults = u.input_faults; input = option_map (drop f.read) t.input }) o.after in
    let left : u.input ≡ option_map (drop f.read) t.input = ap (λ (z : DeskState). z.input) g in
    inr (record {
      found = o.found;
      unjudged = of_file name s.files t.input (IsUnjudged judged u) o.file (fewer t.input f.read judged u f.few left);
      fault = subst (λ (n : ℕ). Rose n u.input_faults) (ap (λ (z : DeskState). z.input_faults) o.after) f.fault;
      after = g ∙ ap (λ (i : Option (List ℕ)). record s { input_faults = u.input_faults; has_input = true; input = i }) (sym left);
    })

-- whichever way the input failed
pub failed_fault : (judged : List ℕ → ℕ) (name : List ℕ) (s t : DeskState) → FailsToReadFile judged name s t → Rose s.input_faults t.input_faults
failed_fault judged name s t (inl f) = f.fault
failed_fault judged name s t (inr f) = f.fault

pub failed_alone : (judged : List ℕ → ℕ) (name : List ℕ) (s t : DeskState) → FailsToReadFile judged name s t → OnlyInputChanges s t
failed_alone judged name s t (inl f) = only_input s t _ _ _ _ f.after
failed_alone judged name s t (inr f) = only_input s t t.input_faults s.misses true t.input f.after

pub failed_misses : (judged : List ℕ → ℕ) (name : List ℕ) (s t : DeskState) → FailsToReadFile judged name s t
    → IfSome s.files (λ files. IsSome (file_named files name) → t.misses ≡ s.misses)
failed_misses judged name s t (inl f) = stays_where_found name s.files s.misses t.misses f.misses
failed_misses judged name s t (inr f) = stays name s.files s.misses t.misses (ap (λ (z : DeskState). z.misses) f.after)

-- ---- whole volumes

pub reads_volume : (name : List ℕ) (volume : Grid) (s t u : DeskState) → OpensInput name s t → ReadsVolume volume t u
    → ReadsFile name (IsVolumeFile volume) s u
reads_volume name volume s t u o r = reads_file name (IsVolumeFile volume) s t u o
    (if_both t.input _ _ (IsVolumeFile volume) (λ bytes sound says. record { sound = sound; says = says }) r.sound r.says) r.after

-- a flaw that a fault tells of is the cause of a refusal
pub told_flaw : (flaw : Option VolumeFlaw) (fault : VolumeFault) → option_map fault_of flaw ≡ Some fault
    → volume_flaw_refusal flaw ≡ Some (Volume fault)
told_flaw None fault e = cc e
told_flaw (Some flaw) fault e = ap (option_map Volume) e

bad_volume : (name : List ℕ) (fault : VolumeFault) (s t u : DeskState) → OpensInput name s t → FindsBadVolume fault t u
    → RefusesInput basins_refusal basins_judged name (Volume fault) s u
bad_volume name fault s t u o f = (
  same_bytes (λ bytes. told_flaw (volume_flaw bytes) fault) f.possible,
  judges_file name _ basins_judged f.count s t u o
      (if_some t.input _ _ (λ bytes e. told_flaw (volume_flaw bytes) fault e) f.flaw) f.judged f.after,
)

pub no_volume : (name : List ℕ) (fault : VolumeFault) (s t u : DeskState) → OpensInput name s t → FailsToReadVolume fault t u
    → RefusesInput basins_refusal basins_judged name (volume_refusal fault) s u
no_volume name Read s t u o f = fails_to_read basins_judged name s t u o f
no_volume name Memory s t u o f = opens_file name _ s t u _ o (any_bytes t.input) f.after
no_volume name (ShortHeader got) s t u o f = bad_volume name _ s t u o f
no_volume name Magic s t u o f = bad_volume name _ s t u o f
no_volume name (Channels count) s t u o f = bad_volume name _ s t u o f
no_volume name Reserved s t u o f = bad_volume name _ s t u o f
no_volume name (AxisZero axis) s t u o f = bad_volume name _ s t u o f
no_volume name (AxisLarge axis) s t u o f = bad_volume name _ s t u o f
no_volume name TooMany s t u o f = bad_volume name _ s t u o f
no_volume name (Truncated got) s t u o f = bad_volume name _ s t u o f
no_volume name Trailing s t u o f = bad_volume name _ s t u o f
