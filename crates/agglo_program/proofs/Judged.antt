-- What a run found is what its task deserves: found sound, or found to have a flaw.
use Rattle.std.proofs.Common.{◌≡◌, ℕ, List, Option, Some, None, IfSome, refl, sym, ap, subst, ◌∙◌, inl, inr}
use Rattle.std.specs.Option.{option_or}
use Rattle.agglo_model.specs.Axes.{Axes}
use Rattle.agglo_model.specs.Grid.{Grid}
use Rattle.agglo_model.specs.Cutting.{Chunking}
use Rattle.agglo_model.specs.VolumeFile.{VolumeFlaw, header_axes, header_flaw, body, body_flaw, first_of_two}
use Rattle.command_words.specs.Words.{Task, Basins, Segment, Make, Trial, Show}
use Rattle.seg_io.specs.Desk.{DeskState}
use Rattle.refusals.specs.declared.refusal.Refusal.{Refusal}
use Rattle.refusals.specs.declared.refusal.Refusal.TheVariants.{Memory, Words, Volume, Leaves, Input, Output, Tree}
use Rattle.agglo_program.specs.Answers.{IsVolumeFile, IsTreeFile, ReadsCutVolume, Finds}
use Rattle.agglo_program.specs.Flaws.{volume_flaw_refusal, tree_flaw_refusal, leaves_refusal, basins_refusal, segment_refusal, show_refusal, RefusesInput, RefusesNumbers, Start, FromFile, FromNumbers, start_of, RefusesFrom, RefusesStart, IsJudgedFile, IsJudgedFrom, IsJudged, MayHideFlawFrom, MayHideFlaw}
use Rattle.agglo_program.specs.Reading.{file_of}
use Rattle.agglo_program.specs.Writing.{Answer}
use Rattle.agglo_program.proofs.ReadFile.{if_some}

-- ---- what was found sound has no cause of a refusal

no_first : (first later : Option VolumeFlaw) → first_of_two first later ≡ None → (first ≡ None) × (later ≡ None)
no_first None later e = (refl, e)
no_first (Some flaw) later e = cc e

sound_segment : (name chunk : List ℕ) (volume : Grid) (cutting : Chunking) (s t : DeskState) → ReadsCutVolume name chunk volume cutting s t
    → (bytes : List ℕ) → IsVolumeFile volume bytes → segment_refusal chunk bytes ≡ None
sound_segment name chunk volume cutting s t r bytes v =
    let parts = no_first (header_flaw bytes) (body_flaw (header_axes bytes) (body bytes)) v.sound in
    let axes : volume.axes ≡ header_axes bytes = ap (λ (g : Grid). g.axes) v.says in
    let few = subst (λ (a : Axes). leaves_refusal a chunk ≡ None) axes r.few_leaves in
    λ i. option_or (volume_flaw_refusal (parts.0 i)) (option_or (few i) (volume_flaw_refusal (parts.1 i)))

-- a file of which something is known, and the cause that its bytes have
of_told : (refusal_of : List ℕ → Option Refusal) (name : List ℕ) (cause told : Option Refusal) (s : DeskState)
    → IfSome (file_of s name) (λ bytes. refusal_of bytes ≡ told) → IsJudgedFile refusal_of name cause s → cause ≡ told
of_told refusal_of name cause told s h j =
    sym j.judged ∙ subst (λ (o : Option (List ℕ)). IfSome o (λ bytes. refusal_of bytes ≡ told)) j.file h

pub finds_sound : (task : Task) (answer : Answer) (cause : Option Refusal) (s t : DeskState) → Finds task answer s t
    → IsJudged task cause s → cause ≡ None
finds_sound (Basins settings) answer cause s t f j = of_told basins_refusal settings.volume cause None s
    (if_some _ _ _ (λ bytes (v : IsVolumeFile f.volume bytes). ap volume_flaw_refusal v.sound) f.read.opened.bytes) j
finds_sound (Segment settings) answer cause s t f j = of_told (segment_refusal settings.chunk) settings.volume cause None s
    (if_some _ _ _ (sound_segment settings.volume settings.chunk f.volume f.cutting s t f.read) f.read.read.opened.bytes) j
finds_sound (Make settings) answer cause s t f j = sym j
finds_sound (Trial settings) answer cause s t f j = sym j ∙ f.few_leaves
finds_sound (Show tree) answer cause s t f j = of_told show_refusal tree cause None s
    (if_some _ _ _ (λ bytes (v : IsTreeFile f.tree bytes). ap tree_flaw_refusal v.sound) f.read.opened.bytes) j

-- ---- what was found to have a flaw has no other

-- the refusal tells of a flaw, and not of a fault or of memory
unfoldable pub TellsFlaw : Refusal → Type 0
TellsFlaw Memory = ⊥
TellsFlaw Words = ⊥
TellsFlaw (Volume fault) = Unit {0}
TellsFlaw (Leaves leaves) = Unit {0}
TellsFlaw Input = ⊥
TellsFlaw Output = ⊥
TellsFlaw (Tree fault) = Unit {0}

of_file : (refusal_of : List ℕ → Option Refusal) (judged : List ℕ → ℕ) (name : List ℕ) (refusal : Refusal) (cause : Option Refusal)
    (s t : DeskState) → TellsFlaw refusal → RefusesInput refusal_of judged name refusal s t → IsJudgedFile refusal_of name cause s
    → cause ≡ Some refusal
unfolding TellsFlaw
of_file refusal_of judged name Memory cause s t flaw f j = absurd flaw
of_file refusal_of judged name Words cause s t flaw f j = absurd flaw
of_file refusal_of judged name (Volume fault) cause s t flaw f j = of_told refusal_of name cause _ s f.1.opened.bytes j
of_file refusal_of judged name (Leaves leaves) cause s t flaw f j = of_told refusal_of name cause _ s f.1.opened.bytes j
of_file refusal_of judged name Input cause s t flaw f j = absurd flaw
of_file refusal_of judged name Output cause s t flaw f j = absurd flaw
of_file refusal_of judged name (Tree fault) cause s t flaw f j = of_told refusal_of name cause _ s f.1.opened.bytes j

of_numbers : (told cause : Option Refusal) (refusal : Refusal) (s t : DeskState) → TellsFlaw refusal → RefusesNumbers told refusal s t
    → told ≡ cause → cause ≡ Some refusal
unfolding TellsFlaw
of_numbers told cause Memory s t flaw f j = absurd flaw
of_numbers told cause Words s t flaw f j = absurd flaw
of_numbers told cause (Volume fault) s t flaw f j = absurd f
of_numbers told cause (Leaves leaves) s t flaw f j = sym j ∙ f.0
of_numbers told cause Input s t flaw f j = absurd flaw
of_numbers told cause Output s t flaw f j = absurd flaw
of_numbers told cause (Tree fault) s t flaw f j = absurd f

one_cause_from : (start : Start) (refusal : Refusal) (cause : Option Refusal) (s t : DeskState) → TellsFlaw refusal
    → RefusesFrom start refusal s t → IsJudgedFrom start cause s → cause ≡ Some refusal
one_cause_from (FromFile statuses refusal_of judged name) refusal cause s t flaw f j =
    of_file refusal_of judged name refusal cause s t flaw f j
one_cause_from (FromNumbers statuses told) refusal cause s t flaw f j = of_numbers told cause refusal s t flaw f j

pub one_cause : (task : Task) (refusal : Refusal) (cause : Option Refusal) (s t : DeskState) → TellsFlaw refusal
    → RefusesStart task refusal s t → IsJudged task cause s → cause ≡ Some refusal
one_cause task refusal cause s t flaw f j = one_cause_from (start_of task) refusal cause s t flaw f j

-- ---- what may come in the place of a flaw

memory_from : (start : Start) → MayHideFlawFrom start 1
memory_from (FromFile statuses refusal_of judged name) = inl refl
memory_from (FromNumbers statuses cause) = refl

pub memory_first : (task : Task) → MayHideFlaw task 1
memory_first task = memory_from (start_of task)

fault_from : (start : Start) (s t : DeskState) → RefusesFrom start Input s t → MayHideFlawFrom start 5
fault_from (FromFile statuses refusal_of judged name) s t f = inr refl
fault_from (FromNumbers statuses cause) s t f = absurd f

pub fault_first : (task : Task) (s t : DeskState) → RefusesStart task Input s t → MayHideFlaw task 5
fault_first task s t f = fault_from (start_of task) s t f
