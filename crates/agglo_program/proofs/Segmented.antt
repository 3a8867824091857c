-- What a segmentation writes: its merges are lawful, and its answer is in the words of the headline. What is written
-- of a generated volume.
use Rattle.std.proofs.Common.{◌≡◌, ℕ, suc, zero, ◌*◌, ◌<◌, ◌≤◌, All, List, [], ◌∷◌, length, ◌++◌, Option, Some, None, IfSome, refl, sym, ap, subst, ◌∙◌, arith}
use Rattle.std.proofs.lemmas.List.{get_or_default}
use Rattle.agglo_model.specs.Axes.{Axes, IsWithinLimits, voxel_count}
use Rattle.agglo_model.specs.Basins.{AreBasins}
use Rattle.agglo_model.specs.Cutting.{Chunking, chunking}
use Rattle.agglo_model.specs.Generated.{generated_volume}
use Rattle.agglo_model.specs.Grid.{Grid, IsWhole}
use Rattle.agglo_model.specs.Greedy.{Merge}
use Rattle.agglo_model.specs.LabelFile.{label_file}
use Rattle.agglo_model.specs.Laws.{LabelsAreBounded}
use Rattle.agglo_model.specs.MergeLaws.{GreedyIsLawful}
use Rattle.agglo_model.specs.MergeTree.{AreLawful, tree_file}
use Rattle.agglo_model.specs.Note.{make_note}
use Rattle.agglo_model.specs.PairOrder.{Threshold}
use Rattle.agglo_model.specs.Report.{Level, report}
use Rattle.agglo_model.specs.Segmentation.{IsSegmentation}
use Rattle.agglo_model.specs.TreeFile.{MergeTree, tree_bytes}
use Rattle.agglo_model.specs.VolumeFile.{volume_bytes}
use Rattle.command_words.specs.Words.{SegmentSettings, MakeSettings, TrialSettings}
use Rattle.seg_io.specs.Desk.{DeskState, Opened, appended}
use Rattle.seg_io.specs.declared.port.Port.TheVariants.{Labels, Tree, Volume, Note}
use Rattle.agglo_program.specs.Answers.{segment_answer, make_answer, FindsSegmentation, FindsVolume, FindsTrial}
use Rattle.agglo_program.specs.Flaws.{leaves_refusal}
use Rattle.agglo_program.specs.Headline.{IsAgglomerated, IsMade, IsTried}
use Rattle.agglo_program.specs.Reading.{file_of}
use Rattle.agglo_program.specs.Writing.{Answer, WritesAll}
use Rattle.agglo_program.proofs.Written.{AreFiles, IsFilePort, holds_two, holds_volume, files_keep}

-- ---- the merges are lawful

some_product : (x y : ℕ) → 0 < x → 0 < y → 0 < x * y
some_product zero y h k = absurd (omega arith)
some_product (suc x) y h k = omega arith

some_voxels : (a : Axes) → IsWithinLimits a → 0 < voxel_count a
some_voxels a l = some_product (a.nx * a.ny) a.nz (some_product a.nx a.ny l.some_x l.some_y) l.some_z

bytes_are : (g : Grid) → IsWhole g → All (λ b. b ≤ 255) g.bytes
bytes_are g whole k d below = by_default (get_or_default g.bytes k 0 d below) (whole.bytes_fit k)
  where
    by_default : {b c : ℕ} → b ≡ c → b < 256 → c ≤ 255
    by_default e h = omega (arith, e, h)

labels_are : (g : Grid) (low : ℕ) (labels : List ℕ) → LabelsAreBounded → AreBasins g low labels → All (λ x. x ≤ voxel_count g.axes) labels
labels_are g low labels bounded basins k d below = by_default (get_or_default labels k 0 d below) (bounded g low labels basins k)
  where
    by_default : {b c : ℕ} → b ≡ c → b ≤ voxel_count g.axes → c ≤ voxel_count g.axes
    by_default e h = subst (λ (x : ℕ). x ≤ voxel_count g.axes) e h

pub lawful : (g : Grid) (low : ℕ) (t : Threshold) (c : Chunking) (labels : List ℕ) (basins : ℕ) (merges : List Merge) (levels : List Level)
    → GreedyIsLawful → LabelsAreBounded → IsWhole g → IsSegmentation g low t c labels basins merges levels → AreLawful g.axes t merges
lawful g low t c labels basins merges levels law bounded whole seg =
    law g t seg.start merges (some_voxels g.axes whole.limits) (bytes_are g whole) (labels_are g low seg.start bounded seg.basins_are) seg.greedy

-- ---- the answer

-- what is written of these labels, this tree and this note
abbrev pub written : SegmentSettings → Axes → List ℕ → MergeTree → List ℕ → Answer
written settings axes labels tree note = record {
  outputs = record { port = Labels; name = settings.labels; bytes = label_file axes labels }
      ∷ record { port = Tree; name = settings.tree; bytes = tree_bytes tree } ∷ [];
  note = note;
}

-- it is the answer for them
pub answer_is : (settings : SegmentSettings) (axes labels_axes : Axes) (labels : List ℕ) (basins : ℕ) (merges : List Merge) (levels : List Level)
    (tree : MergeTree) (note : List ℕ) → labels_axes ≡ axes
    → tree ≡ record { axes = axes; threshold = settings.threshold; merges = merges }
    → note ≡ report (voxel_count labels_axes) basins (length merges) levels
    → written settings labels_axes labels tree note ≡ segment_answer settings axes labels basins merges levels
answer_is settings axes labels_axes labels basins merges levels tree note e f n =
    (λ i. written settings labels_axes labels (f i) (n i))
    ∙ (λ i. written settings (e i) labels (record { axes = axes; threshold = settings.threshold; merges = merges })
    (report (voxel_count (e i)) basins (length merges) levels))

-- ---- the headline

kept_end : (o : Option (List ℕ)) (left now : Option (List ℕ)) → now ≡ left → IfSome o (λ _. left ≡ Some []) → IfSome o (λ _. now ≡ Some [])
kept_end o left now e h = subst (λ (l : Option (List ℕ)). IfSome o (λ _. l ≡ Some [])) (sym e) h

pub agglomerated : (settings : SegmentSettings) (answer : Answer) (s m t : DeskState) → FindsSegmentation settings answer s m
    → WritesAll answer m t → IsAgglomerated settings s t
unfolding AreFiles IsFilePort
agglomerated settings answer s m t f w =
    let seg = f.segmentation in
    let w' = subst (λ (a : Answer). WritesAll a m t) f.answer_is w in
    let two = holds_two settings.labels settings.tree (label_file f.volume.axes f.labels)
    (tree_file f.volume.axes settings.threshold f.merges) (segment_answer settings f.volume.axes f.labels f.basins f.merges f.levels).note m t w' in
    let keeps = files_keep (segment_answer settings f.volume.axes f.labels f.basins f.merges f.levels).outputs
    (segment_answer settings f.volume.axes f.labels f.basins f.merges f.levels).note m t (tt, (tt, tt)) w' in
    record {
      volume = f.volume;
      found = f.read.read.opened.found;
      whole = f.read.read.opened.bytes;
      ended = kept_end (file_of s settings.volume) m.input t.input keeps.input f.read.read.ended;
      basins = seg.start;
      basins_are = seg.basins_are;
      merges = f.merges;
      greedy = seg.greedy;
      labels = subst (λ (l : List ℕ). IfSome t.labels (λ bytes. bytes ≡ label_file f.volume.axes l)) seg.labels_are two.labels_are;
      tree = two.tree_is;
      opened = two.opened ∙ ap (λ (o : List Opened). o ++ record { port = Labels; name = settings.labels } ∷ record { port = Tree; name = settings.tree } ∷ [])
          (ap (λ (z : DeskState). z.opened) f.read.read.opened.after);
    }

-- ---- generated volumes

-- what was written of the generated volume, and the note, are the answer
pub made_answer : (settings : MakeSettings) (note : List ℕ) → note ≡ make_note (voxel_count settings.axes)
    → record { outputs = record { port = Volume; name = settings.volume; bytes = volume_bytes (generated_volume settings.start settings.axes) } ∷ []; note = note }
    ≡ make_answer settings
made_answer settings note f = λ i. record {
  outputs = record { port = Volume; name = settings.volume; bytes = volume_bytes (generated_volume settings.start settings.axes) } ∷ [];
  note = f i;
}

pub made : (settings : MakeSettings) (answer : Answer) (s m t : DeskState) → FindsVolume settings answer s m → WritesAll answer m t
    → IsMade settings s t
made settings answer s m t f w =
    let w' = subst (λ (u : DeskState). WritesAll answer u t) f.after w in
    let held = holds_volume settings.volume (volume_bytes (generated_volume settings.start settings.axes))
    (make_note (voxel_count settings.axes)) s t (subst (λ (a : Answer). WritesAll a s t) f.answer_is w') in
    record { volume = held.volume_is; note = held.note_is; opened = held.opened }

-- the segmentation of a volume and a cutting is that of the ones that the settings say
pub found_trial : (settings : TrialSettings) (volume : Grid) (cutting : Chunking) (axes : Axes) (labels : List ℕ) (basins : ℕ)
    (merges : List Merge) (levels : List Level) (note : List ℕ) (s : DeskState)
    → volume ≡ generated_volume settings.start settings.axes → cutting ≡ chunking settings.axes settings.chunk
    → leaves_refusal settings.axes settings.chunk ≡ None → axes ≡ volume.axes
    → IsSegmentation volume settings.low settings.threshold cutting labels basins merges levels
    → note ≡ report (voxel_count axes) basins (length merges) levels
    → FindsTrial settings (record { outputs = []; note = note }) s s
found_trial settings volume cutting axes labels basins merges levels note s v c few a seg e = record {
  few_leaves = few;
  labels = labels;
  basins = basins;
  merges = merges;
  levels = levels;
  segmentation = subst (λ (k : Chunking). IsSegmentation (generated_volume settings.start settings.axes) settings.low settings.threshold k labels basins merges levels) c
      (subst (λ (g : Grid). IsSegmentation g settings.low settings.threshold cutting labels basins merges levels) v seg);
  answer_is = ap (λ (n : List ℕ). record { outputs = []; note = n })
      (e ∙ ap (λ (x : Axes). report (voxel_count x) basins (length merges) levels) (a ∙ ap (λ (g : Grid). g.axes) v));
  after = refl;
}

pub tried : (settings : TrialSettings) (answer : Answer) (s m t : DeskState) → FindsTrial settings answer s m → WritesAll answer m t
    → IsTried settings s t
tried settings answer s m t f w =
    let w' = subst (λ (u : DeskState). WritesAll answer u t) f.after w in
    record {
      basins = f.segmentation.start;
      basins_are = f.segmentation.basins_are;
      merges = f.merges;
      greedy = f.segmentation.greedy;
      levels = f.levels;
      levels_are = f.segmentation.levels_are;
      note = subst (λ (a : Answer). WritesAll a s t) f.answer_is w'
          ∙ ap (λ (n : ℕ). appended Note (report (voxel_count settings.axes) n (length f.merges) f.levels) s) f.segmentation.basins_count;
    }
