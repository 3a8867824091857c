-- The states of a desk whose input is read as a merge tree.
use Rattle.std.proofs.Common.{◌≡◌, List, ℕ, Option, Some, None, IfSome, refl, ap}
use Rattle.std.specs.Option.{option_map}
use Rattle.agglo_model.specs.TreeFile.{MergeTree, TreeFlaw, tree_flaw}
use Rattle.seg_io.specs.Desk.{DeskState, OpensInput}
use Rattle.seg_io.proofs.Bytes.{same_bytes}
use Rattle.merge_tree.specs.declared.tree_fault.TreeFault.{TreeFault}
use Rattle.merge_tree.specs.declared.tree_fault.TreeFault.TheVariants.{ShortHeader, Magic, Dims, Denominator, Count, Truncated, Trailing, Names, Contact, Order, Below, Read, Memory}
use Rattle.merge_tree.specs.TreeFault.{fault_of}
use Rattle.merge_tree.specs.TreeReading.{read_count, ReadsTree, FindsBadTree, FailsToReadTree}
use Rattle.refusals.specs.declared.refusal.Refusal.TheVariants.{Tree}
use Rattle.refusals.specs.Refusal.{tree_refusal}
use Rattle.agglo_program.specs.Answers.{IsTreeFile}
use Rattle.agglo_program.specs.Flaws.{tree_flaw_refusal, show_refusal, show_judged, RefusesInput}
use Rattle.agglo_program.specs.Reading.{ReadsFile}
use Rattle.agglo_program.proofs.ReadFile.{if_some, if_both, any_bytes, opens_file, judges_file, reads_file, fails_to_read}

pub reads_tree : (name : List ℕ) (tree : MergeTree) (s t u : DeskState) → OpensInput name s t → ReadsTree tree t u
    → ReadsFile name (IsTreeFile tree) s u
reads_tree name tree s t u o r = reads_file name (IsTreeFile tree) s t u o
    (if_both t.input _ _ (IsTreeFile tree) (λ bytes sound says. record { sound = sound; says = says }) r.sound r.says) r.after

told_flaw : (flaw : Option TreeFlaw) (fault : TreeFault) → option_map fault_of flaw ≡ Some fault → tree_flaw_refusal flaw ≡ Some (Tree fault)
told_flaw None fault e = cc e
told_flaw (Some flaw) fault e = ap (option_map Tree) e

read_is : (o : Option (List ℕ)) → IfSome o (λ bytes. read_count o ≡ show_judged bytes)
read_is None = tt
read_is (Some bytes) = refl

bad_tree : (name : List ℕ) (fault : TreeFault) (s t u : DeskState) → OpensInput name s t → FindsBadTree fault t u
    → RefusesInput show_refusal show_judged name (Tree fault) s u
bad_tree name fault s t u o f = (
  same_bytes (λ bytes. told_flaw (tree_flaw bytes) fault) f.possible,
  judges_file name _ show_judged (read_count t.input) s t u o
      (if_some t.input _ _ (λ bytes e. told_flaw (tree_flaw bytes) fault e) f.flaw) (read_is t.input) f.after,
)

pub no_tree : (name : List ℕ) (fault : TreeFault) (s t u : DeskState) → OpensInput name s t → FailsToReadTree fault t u
    → RefusesInput show_refusal show_judged name (tree_refusal fault) s u
no_tree name Read s t u o f = fails_to_read show_judged name s t u o f
no_tree name Memory s t u o f = opens_file name _ s t u _ o (any_bytes t.input) f.after
no_tree name (ShortHeader got) s t u o f = bad_tree name _ s t u o f
no_tree name Magic s t u o f = bad_tree name _ s t u o f
no_tree name (Dims fault) s t u o f = bad_tree name _ s t u o f
no_tree name Denominator s t u o f = bad_tree name _ s t u o f
no_tree name (Count merges) s t u o f = bad_tree name _ s t u o f
no_tree name (Truncated got) s t u o f = bad_tree name _ s t u o f
no_tree name Trailing s t u o f = bad_tree name _ s t u o f
no_tree name (Names i) s t u o f = bad_tree name _ s t u o f
no_tree name (Contact i) s t u o f = bad_tree name _ s t u o f
no_tree name (Order i) s t u o f = bad_tree name _ s t u o f
no_tree name (Below i) s t u o f = bad_tree name _ s t u o f
