-- The states of a desk on which files are written one after another, and then a note.
use Rattle.std.proofs.Common.{◌≡◌, ◌≢◌, ℕ, List, [], ◌∷◌, ◌++◌, Option, Some, None, IfSome, Result, Ok, Err, MatchResult, refl, sym, ap, subst, ◌∙◌, inl, inr, append_assoc}
use Rattle.std.specs.Option.{option_map}
use Rattle.agglo_model.specs.Count.{Rose}
use Rattle.seg_io.specs.declared.port.Port.{Port}
use Rattle.seg_io.specs.declared.port.Port.TheVariants.{Labels, Tree, Volume, Note, Trouble}
use Rattle.seg_io.specs.Desk.{DeskState, Opened, IsListed, CanOpen, appended, with_faults, OpensOutput, FailsAfterWriting}
use Rattle.agglo_program.specs.Writing.{Output, WritesFile, CutsFile, WritesFiles, FailsInFile, FailsInFiles, WriteFilesEnds}

-- ---- ports that are opened

-- a port that was opened last is listed
pub listed_last : (port : Port) (opened : List Opened) (name : List ℕ) → IsListed port (opened ++ record { port = port; name = name } ∷ [])
listed_last port [] name = inl refl
listed_last port (o ∷ others) name = inr (listed_last port others name)

-- a port that is listed with one more was listed before, or is that one
listed_before : (port other : Port) (name : List ℕ) (opened : List Opened) → other ≢ port
    → IsListed port (opened ++ record { port = other; name = name } ∷ []) → IsListed port opened
listed_before port other name [] differ (inl same) = absurd (differ same)
listed_before port other name [] differ (inr none) = absurd none
listed_before port other name (o ∷ others) differ (inl same) = inl same
listed_before port other name (o ∷ others) differ (inr later) = inr (listed_before port other name others differ later)

labels_no_tree : Labels ≢ Tree
labels_no_tree e = cc e

pub labels_are_open : (name : List ℕ) (s t : DeskState) → OpensOutput Labels name s t → IsListed Labels t.opened
labels_are_open name s t o = subst (IsListed Labels) (sym (ap (λ (z : DeskState). z.opened) o.after)) (listed_last Labels s.opened name)

pub tree_is_open : (name : List ℕ) (s t : DeskState) → OpensOutput Tree name s t → IsListed Tree t.opened
tree_is_open name s t o = subst (IsListed Tree) (sym (ap (λ (z : DeskState). z.opened) o.after)) (listed_last Tree s.opened name)

pub volume_is_open : (name : List ℕ) (s t : DeskState) → OpensOutput Volume name s t → IsListed Volume t.opened
volume_is_open name s t o = subst (IsListed Volume) (sym (ap (λ (z : DeskState). z.opened) o.after)) (listed_last Volume s.opened name)

-- a file on a port
abbrev on_labels : List ℕ → List ℕ → Output
on_labels name bytes = record { port = Labels; name = name; bytes = bytes }

abbrev on_tree : List ℕ → List ℕ → Output
on_tree name bytes = record { port = Tree; name = name; bytes = bytes }

pub opened_by_labels : (name bytes : List ℕ) (s t : DeskState) → WritesFile (on_labels name bytes) s t
    → t.opened ≡ s.opened ++ record { port = Labels; name = name } ∷ []
opened_by_labels name bytes s t w = ap (λ (z : DeskState). z.opened) w.wrote ∙ ap (λ (z : DeskState). z.opened) w.opened.after

pub opened_by_tree : (name bytes : List ℕ) (s t : DeskState) → WritesFile (on_tree name bytes) s t
    → t.opened ≡ s.opened ++ record { port = Tree; name = name } ∷ []
opened_by_tree name bytes s t w = ap (λ (z : DeskState). z.opened) w.wrote ∙ ap (λ (z : DeskState). z.opened) w.opened.after

-- the port Tree can be opened still when the label file was written
pub tree_can_open : (name bytes : List ℕ) (s t : DeskState) → CanOpen Tree s → WritesFile (on_labels name bytes) s t → CanOpen Tree t
tree_can_open name bytes s t can w listed = can (listed_before Tree Labels name s.opened labels_no_tree
    (subst (IsListed Tree) (opened_by_labels name bytes s t w) listed))

-- ---- what stays

-- the port is a file
unfoldable pub IsFilePort : Port → Type 0
IsFilePort Labels = Unit {0}
IsFilePort Tree = Unit {0}
IsFilePort Volume = Unit {0}
IsFilePort Note = ⊥
IsFilePort Trouble = ⊥

unfoldable pub AreFiles : List Output → Type 0
AreFiles [] = Unit {0}
AreFiles (output ∷ others) = IsFilePort output.port × AreFiles others

-- writing files and the note leaves the input, the count of its faults, and the port Trouble as they are
pub record Keeps (s t : DeskState) : Type 0 where
  pub input_faults : t.input_faults ≡ s.input_faults
  pub misses : t.misses ≡ s.misses
  pub input : t.input ≡ s.input
  pub trouble : t.trouble ≡ s.trouble

pub keeps_twice : (s t u : DeskState) → Keeps s t → Keeps t u → Keeps s u
keeps_twice s t u k l = record {
  input_faults = l.input_faults ∙ k.input_faults;
  misses = l.misses ∙ k.misses;
  input = l.input ∙ k.input;
  trouble = l.trouble ∙ k.trouble;
}

-- states that are one
same_keeps : (s t u : DeskState) → t ≡ u → Keeps s u → Keeps s t
same_keeps s t u e k = subst (Keeps s) (sym e) k

opening_keeps : (port : Port) (name : List ℕ) (s t : DeskState) → IsFilePort port → OpensOutput port name s t → Keeps s t
unfolding IsFilePort
opening_keeps Labels name s t file o = same_keeps s t _ o.after (record { input_faults = refl; misses = refl; input = refl; trouble = refl })
opening_keeps Tree name s t file o = same_keeps s t _ o.after (record { input_faults = refl; misses = refl; input = refl; trouble = refl })
opening_keeps Volume name s t file o = same_keeps s t _ o.after (record { input_faults = refl; misses = refl; input = refl; trouble = refl })
opening_keeps Note name s t file o = absurd file
opening_keeps Trouble name s t file o = absurd file

appending_keeps : (port : Port) (bytes : List ℕ) (s : DeskState) → IsFilePort port → Keeps s (appended port bytes s)
unfolding IsFilePort
appending_keeps Labels bytes s file = record { input_faults = refl; misses = refl; input = refl; trouble = refl }
appending_keeps Tree bytes s file = record { input_faults = refl; misses = refl; input = refl; trouble = refl }
appending_keeps Volume bytes s file = record { input_faults = refl; misses = refl; input = refl; trouble = refl }
appending_keeps Note bytes s file = absurd file
appending_keeps Trouble bytes s file = absurd file

failing_keeps : (port : Port) (n : ℕ) (s : DeskState) → IsFilePort port → Keeps s (with_faults port n s)
unfolding IsFilePort
failing_keeps Labels n s file = record { input_faults = refl; misses = refl; input = refl; trouble = refl }
failing_keeps Tree n s file = record { input_faults = refl; misses = refl; input = refl; trouble = refl }
failing_keeps Volume n s file = record { input_faults = refl; misses = refl; input = refl; trouble = refl }
failing_keeps Note n s file = absurd file
failing_keeps Trouble n s file = absurd file

note_keeps : (bytes : List ℕ) (s : DeskState) → Keeps s (appended Note bytes s)
note_keeps bytes s = record { input_faults = refl; misses = refl; input = refl; trouble = refl }

file_keeps : (output : Output) (s t : DeskState) → IsFilePort output.port → WritesFile output s t → Keeps s t
file_keeps output s t file w = keeps_twice s w.begun t (opening_keeps output.port output.name s w.begun file w.opened)
    (same_keeps w.begun t _ w.wrote (appending_keeps output.port output.bytes w.begun file))

pub files_keep : (outputs : List Output) (note : List ℕ) (s t : DeskState) → AreFiles outputs → WritesFiles outputs note s t → Keeps s t
unfolding AreFiles
files_keep [] note s t files e = same_keeps s t _ e (note_keeps note s)
files_keep (output ∷ others) note s t files (mid, wrote, later) =
    keeps_twice s mid t (file_keeps output s mid files.0 wrote) (files_keep others note mid t files.1 later)

cut_keeps : (output : Output) (s t : DeskState) → IsFilePort output.port → CutsFile output s t → Keeps s t
cut_keeps output s t file c = keeps_twice s c.begun t (opening_keeps output.port output.name s c.begun file c.opened)
    (same_keeps c.begun t _ c.cut.after (keeps_twice c.begun (appended output.port _ c.begun) _
    (appending_keeps output.port _ c.begun file) (failing_keeps output.port _ _ file)))

cut_note_keeps : (note : List ℕ) (s t : DeskState) → FailsAfterWriting Note note s t → Keeps s t
cut_note_keeps note s t f = same_keeps s t _ f.after (record { input_faults = refl; misses = refl; input = refl; trouble = refl })

failed_file_keeps : (output : Output) (s t : DeskState) → IsFilePort output.port → FailsInFile output s t → Keeps s t
failed_file_keeps output s t file (inl f) = same_keeps s t _ f.after (record { input_faults = refl; misses = refl; input = refl; trouble = refl })
failed_file_keeps output s t file (inr c) = cut_keeps output s t file c

pub failing_files_keep : (outputs : List Output) (note : List ℕ) (s t : DeskState) → AreFiles outputs → FailsInFiles outputs note s t → Keeps s t
unfolding AreFiles
failing_files_keep [] note s t files f = cut_note_keeps note s t f
failing_files_keep (output ∷ others) note s t files (inl f) = failed_file_keeps output s t files.0 f
failing_files_keep (output ∷ others) note s t files (inr (mid, wrote, later)) =
    keeps_twice s mid t (file_keeps output s mid files.0 wrote) (failing_files_keep others note mid t files.1 later)

-- ---- the count of faults

opening_faults : (port : Port) (name : List ℕ) (s t : DeskState) → OpensOutput port name s t → t.output_faults ≡ s.output_faults
opening_faults Labels name s t o = ap (λ (z : DeskState). z.output_faults) o.after
opening_faults Tree name s t o = ap (λ (z : DeskState). z.output_faults) o.after
opening_faults Volume name s t o = ap (λ (z : DeskState). z.output_faults) o.after
opening_faults Note name s t o = ap (λ (z : DeskState). z.output_faults) o.after
opening_faults Trouble name s t o = ap (λ (z : DeskState). z.output_faults) o.after

appending_faults : (port : Port) (bytes : List ℕ) (s : DeskState) → (appended port bytes s).output_faults ≡ s.output_faults
appending_faults Labels bytes s = refl
appending_faults Tree bytes s = refl
appending_faults Volume bytes s = refl
appending_faults Note bytes s = refl
appending_faults Trouble bytes s = refl

file_faults : (output : Output) (s t : DeskState) → WritesFile output s t → t.output_faults ≡ s.output_faults
file_faults output s t w = ap (λ (z : DeskState). z.output_faults) w.wrote ∙ appending_faults output.port output.bytes w.begun
    ∙ opening_faults output.port output.name s w.begun w.opened

cut_fault : (port : Port) (bytes : List ℕ) (s t : DeskState) → IsFilePort port → FailsAfterWriting port bytes s t
    → Rose s.output_faults t.output_faults
unfolding IsFilePort
cut_fault Labels bytes s t file f = f.fault
cut_fault Tree bytes s t file f = f.fault
cut_fault Volume bytes s t file f = f.fault
cut_fault Note bytes s t file f = absurd file
cut_fault Trouble bytes s t file f = absurd file

failed_file_fault : (output : Output) (s t : DeskState) → IsFilePort output.port → FailsInFile output s t → Rose s.output_faults t.output_faults
failed_file_fault output s t file (inl f) = f.fault
failed_file_fault output s t file (inr c) =
    subst (λ (n : ℕ). Rose n t.output_faults) (opening_faults output.port output.name s c.begun c.opened)
    (cut_fault output.port output.bytes c.begun t file c.cut)

pub stopped_fault : (outputs : List Output) (note : List ℕ) (s t : DeskState) → AreFiles outputs → FailsInFiles outputs note s t
    → Rose s.output_faults t.output_faults
unfolding AreFiles
stopped_fault [] note s t files f = f.fault
stopped_fault (output ∷ others) note s t files (inl f) = failed_file_fault output s t files.0 f
stopped_fault (output ∷ others) note s t files (inr (mid, wrote, later)) =
    subst (λ (n : ℕ). Rose n t.output_faults) (file_faults output s mid wrote) (stopped_fault others note mid t files.1 later)

-- ---- what the two files of a segmentation hold

-- bytes written where there were none
only_these : (before : Option (List ℕ)) (bytes : List ℕ) → IfSome before (λ b. b ≡ [])
    → IfSome (option_map (λ (w : List ℕ). w ++ bytes) before) (λ written. written ≡ bytes)
only_these None bytes h = tt
only_these (Some b) bytes h = ap (λ (w : List ℕ). w ++ bytes) h

pub record HoldsTwo (labels_name tree_name labels tree : List ℕ) (s t : DeskState) : Type 0 where
  pub labels_are : IfSome t.labels (λ bytes. bytes ≡ labels)
  pub tree_is : IfSome t.tree (λ bytes. bytes ≡ tree)
  pub opened : t.opened ≡ s.opened ++ record { port = Labels; name = labels_name } ∷ record { port = Tree; name = tree_name } ∷ []

labels_hold : (name bytes : List ℕ) (s t : DeskState) → WritesFile (on_labels name bytes) s t → IfSome t.labels (λ b. b ≡ bytes)
labels_hold name bytes s t w = subst (λ (o : Option (List ℕ)). IfSome o (λ b. b ≡ bytes)) (sym (ap (λ (z : DeskState). z.labels) w.wrote))
    (only_these w.begun.labels bytes w.opened.empty)

tree_holds : (name bytes : List ℕ) (s t : DeskState) → WritesFile (on_tree name bytes) s t → IfSome t.tree (λ b. b ≡ bytes)
tree_holds name bytes s t w = subst (λ (o : Option (List ℕ)). IfSome o (λ b. b ≡ bytes)) (sym (ap (λ (z : DeskState). z.tree) w.wrote))
    (only_these w.begun.tree bytes w.opened.empty)

labels_stay : (name bytes : List ℕ) (s t : DeskState) → WritesFile (on_tree name bytes) s t → t.labels ≡ s.labels
labels_stay name bytes s t w = ap (λ (z : DeskState). z.labels) w.wrote ∙ ap (λ (z : DeskState). z.labels) w.opened.after

pub holds_two : (labels_name tree_name labels tree note : List ℕ) (s t : DeskState)
    → WritesFiles (on_labels labels_name labels ∷ on_tree tree_name tree ∷ []) note s t
    → HoldsTwo labels_name tree_name labels tree s t
holds_two labels_name tree_name labels tree note s t (m, first, (n, second, e)) = record {
  labels_are = subst (λ (o : Option (List ℕ)). IfSome o (λ b. b ≡ labels))
      (sym (ap (λ (z : DeskState). z.labels) e ∙ labels_stay tree_name tree m n second)) (labels_hold labels_name labels s m first);
  tree_is = subst (λ (o : Option (List ℕ)). IfSome o (λ b. b ≡ tree)) (sym (ap (λ (z : DeskState). z.tree) e))
      (tree_holds tree_name tree m n second);
  opened = ap (λ (z : DeskState). z.opened) e ∙ opened_by_tree tree_name tree m n second
      ∙ ap (λ (o : List Opened). o ++ record { port = Tree; name = tree_name } ∷ []) (opened_by_labels labels_name labels s m first)
      ∙ append_assoc s.opened (record { port = Labels; name = labels_name } ∷ []) (record { port = Tree; name = tree_name } ∷ []);
}

-- ---- what a generated volume leaves

abbrev on_volume : List ℕ → List ℕ → Output
on_volume name bytes = record { port = Volume; name = name; bytes = bytes }

pub record HoldsVolume (name bytes note : List ℕ) (s t : DeskState) : Type 0 where
  pub volume_is : IfSome t.volume (λ written. written ≡ bytes)
  pub note_is : t.note ≡ option_map (λ written. written ++ note) s.note
  pub opened : t.opened ≡ s.opened ++ record { port = Volume; name = name } ∷ []

pub holds_volume : (name bytes note : List ℕ) (s t : DeskState) → WritesFiles (on_volume name bytes ∷ []) note s t
    → HoldsVolume name bytes note s t
holds_volume name bytes note s t (m, w, e) = record {
  volume_is = subst (λ (o : Option (List ℕ)). IfSome o (λ b. b ≡ bytes))
      (sym (ap (λ (z : DeskState). z.volume) e ∙ ap (λ (z : DeskState). z.volume) w.wrote))
      (only_these w.begun.volume bytes w.opened.empty);
  note_is = ap (λ (z : DeskState). z.note) e ∙ ap (option_map (λ (written : List ℕ). written ++ note))
      (ap (λ (z : DeskState). z.note) w.wrote ∙ ap (λ (z : DeskState). z.note) w.opened.after);
  opened = ap (λ (z : DeskState). z.opened) e ∙ ap (λ (z : DeskState). z.opened) w.wrote ∙ ap (λ (z : DeskState). z.opened) w.opened.after;
}

-- ---- the note after two files

pub two_files_outcome : {X E : Type 0} (result : Result X E) (first second : Output) (note note' : List ℕ) (s m n u : DeskState)
    → note' ≡ note → WritesFile first s m → WritesFile second m n
    → MatchResult result (λ _. u ≡ appended Note note' n) (λ _. FailsAfterWriting Note note' n u)
    → WriteFilesEnds (first ∷ second ∷ []) note result s u
two_files_outcome (Ok x) first second note note' s m n u same w v e = (m, w, (n, v, e ∙ ap (λ b. appended Note b n) same))
two_files_outcome (Err x) first second note note' s m n u same w v f =
    inr (m, w, inr (n, v, subst (λ b. FailsAfterWriting Note b n u) same f))
