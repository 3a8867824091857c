-- What the calls that read a tree file take off a desk's input, and what they answer. A desk may tell its
-- input or not; what is said of the bytes is said where it does.
use Rattle.std.specs.Prelude.{◌≡◌, ℕ, ◌+◌, ◌*◌, ◌<◌, ◌≤◌, List, ◌++◌, length, take, min, All, Option, Some, None, IfSome}
use Rattle.std.specs.Option.{option_map}
use Rattle.agglo_model.specs.TreeFile.{MergeTree, TreeFlaw, header, header_flaw, header_merges, record_length, tree_flaw, tree_in}
use Rattle.agglo_model.specs.VolumeFile.{header_length}
use Rattle.seg_io.specs.Bytes.{SomeBytes}
use Rattle.seg_io.specs.Desk.{DeskState, taken, emptied, TakesSome, FailsAfterReading}
use Rattle.merge_tree.specs.declared.tree_fault.TreeFault.{TreeFault}
use Rattle.merge_tree.specs.declared.tree_fault.TreeFault.TheVariants.{Read, Memory}
use Rattle.merge_tree.specs.declared.tree_fault.InputFault.{InputFault}
use Rattle.merge_tree.specs.declared.tree_fault.InputFault.TheVariants.{Read as InputRead, Memory as InputMemory}
use Rattle.merge_tree.specs.TreeFault.{fault_of}

-- The input left was a whole tree file, of this tree. Nothing is left of it.
pub record ReadsTree (tree : MergeTree) (old new : DeskState) : Type 0 where
  pub sound : IfSome old.input (λ bytes. tree_flaw bytes ≡ None)
  pub says : IfSome old.input (λ bytes. tree ≡ tree_in bytes)
  pub after : new ≡ emptied old

-- the fault tells of this flaw
abbrev pub Tells : TreeFault → Option TreeFlaw → Type 0
Tells fault flaw = option_map fault_of flaw ≡ Some fault

-- how many bytes are read before the records are judged: the header, and where it is sound as many as the records
-- that it claims have, and one more
abbrev pub body_count : Option TreeFlaw → ℕ → ℕ
body_count None merges = record_length * merges + 1
body_count (Some flaw) merges = 0

-- how much is read of a file with a flaw
abbrev pub judged_length : List ℕ → ℕ
judged_length bytes = header_length + body_count (header_flaw (header bytes)) (header_merges (header bytes))

abbrev pub read_count : Option (List ℕ) → ℕ
read_count None = 0
read_count (Some bytes) = judged_length bytes

-- The input left has a flaw that this fault tells of, and that some file has. So many bytes were taken off, as far as
-- they are there.
pub record FindsBadTree (fault : TreeFault) (old new : DeskState) : Type 0 where
  pub possible : SomeBytes (λ bytes. Tells fault (tree_flaw bytes))
  pub flaw : IfSome old.input (λ bytes. Tells fault (tree_flaw bytes))
  pub after : new ≡ taken (read_count old.input) old

-- no tree was read
abbrev pub FailsToReadTree : TreeFault → DeskState → DeskState → Type 0
FailsToReadTree Read old new = FailsAfterReading judged_length old new
FailsToReadTree Memory old new = TakesSome old new
FailsToReadTree fault old new = FindsBadTree fault old new

-- The first bytes of the input, as many as there are up to a limit, were read, and taken off. Each is below 256.
pub record ReadsUpTo (most : ℕ) (bytes : List ℕ) (old new : DeskState) : Type 0 where
  pub says : IfSome old.input (λ input. bytes ≡ take most input)
  pub fit : All (λ byte. byte < 256) bytes
  pub after : new ≡ taken most old

-- up to a limit, bytes could not be read
abbrev pub FailsToRead : ℕ → InputFault → DeskState → DeskState → Type 0
FailsToRead most InputRead old new = FailsAfterReading (λ _. most) old new
FailsToRead most InputMemory old new = TakesSome old new

-- The first `got` bytes of the input were appended and taken off: `count` of them, or fewer only where the
-- input came to its end.
pub record AppendsPiece (got count : ℕ) (before after : List ℕ) (old new : DeskState) : Type 0 where
  pub room : got ≤ count
  pub counted : length after ≡ length before + got
  pub front : IfSome old.input (λ input. after ≡ before ++ take got input)
  pub all : IfSome old.input (λ input. got ≡ min count (length input))
  pub fit : All (λ byte. byte < 256) before → All (λ byte. byte < 256) after
  pub moved : new ≡ taken got old
