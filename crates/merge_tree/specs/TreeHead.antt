-- What is read of a header.
use Rattle.std.specs.Prelude.{◌≡◌, ℕ, List, length, None, IfSome}
use Rattle.agglo_model.specs.VolumeFile.{header_length, header_axes}
use Rattle.agglo_model.specs.TreeFile.{header, header_flaw, header_threshold, header_merges}
use Rattle.seg_io.specs.Bytes.{SomeBytes}
use Rattle.seg_io.specs.Desk.{DeskState, taken, FailsAfterReading}
use Rattle.merge_tree.specs.declared.tree_fault.TreeFault.{TreeFault}
use Rattle.merge_tree.specs.declared.tree_fault.TreeFault.TheVariants.{Read}
use Rattle.merge_tree.specs.declared.tree_records.Head.{Head}
use Rattle.merge_tree.specs.TreeReading.{Tells}

-- the header says this
pub record SaysHead (head : Head) (bytes : List ℕ) : Type 0 where
  pub axes : head.dims ≡ header_axes bytes
  pub threshold : head.threshold ≡ header_threshold bytes
  pub merges : head.merges ≡ header_merges bytes

-- the bytes are a sound header that says this
pub record IsHeader (head : Head) (bytes : List ℕ) : Type 0 where
  pub long : length bytes ≡ header_length
  pub sound : header_flaw bytes ≡ None
  pub says : SaysHead head bytes

-- The input left begins with a sound header that says this, which there is. It was taken off.
pub record ReadsHead (head : Head) (old new : DeskState) : Type 0 where
  pub header_is : SomeBytes (IsHeader head)
  pub sound : IfSome old.input (λ bytes. header_flaw (header bytes) ≡ None)
  pub says : IfSome old.input (λ bytes. SaysHead head (header bytes))
  pub after : new ≡ taken header_length old

-- The first 32 bytes, or as many as there are, have the flaw that this fault tells of, and were taken off. It is a
-- flaw that some header has.
pub record FindsBadHead (fault : TreeFault) (old new : DeskState) : Type 0 where
  pub possible : SomeBytes (λ bytes. Tells fault (header_flaw (header bytes)))
  pub flaw : IfSome old.input (λ bytes. Tells fault (header_flaw (header bytes)))
  pub after : new ≡ taken header_length old

-- no header was read
abbrev pub FailsToReadHead : TreeFault → DeskState → DeskState → Type 0
FailsToReadHead Read old new = FailsAfterReading (λ _. header_length) old new
FailsToReadHead fault old new = FindsBadHead fault old new
