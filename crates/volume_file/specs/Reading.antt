-- What the calls that read a volume take off a desk's input, and what they answer. A desk may tell its
-- input or not; what is said of the bytes is said where it does.
use Rattle.std.specs.Prelude.{◌≡◌, ℕ, ◌+◌, List, length, Option, Some, None, IfSome, is_some, if◌then◌else◌}
use Rattle.std.specs.Option.{option_map}
use Rattle.agglo_model.specs.Axes.{Axes, edge_count}
use Rattle.agglo_model.specs.Grid.{Grid}
use Rattle.agglo_model.specs.VolumeFile.{VolumeFlaw, header_length, header_axes, header_flaw, body_flaw, volume_flaw, volume_in}
use Rattle.seg_io.specs.Bytes.{SomeBytes}
use Rattle.seg_io.specs.Desk.{DeskState, taken, emptied, TakesSome, FailsAfterReading}
use Rattle.volume_file.specs.declared.fault.VolumeFault.{VolumeFault}
use Rattle.volume_file.specs.declared.fault.VolumeFault.TheVariants.{Truncated, Trailing, Read, Memory}
use Rattle.volume_file.specs.Fault.{fault_of}

-- the bytes are a sound header for these axes
pub record IsHeader (axes : Axes) (bytes : List ℕ) : Type 0 where
  pub long : length bytes ≡ header_length
  pub sound : header_flaw bytes ≡ None
  pub says : axes ≡ header_axes bytes

-- the fault tells of this flaw
abbrev pub Tells : VolumeFault → Option VolumeFlaw → Type 0
Tells fault flaw = option_map fault_of flaw ≡ Some fault

-- The input left begins with a sound header for these axes, which there is. It was taken off.
pub record ReadsHead (axes : Axes) (old new : DeskState) : Type 0 where
  pub header : SomeBytes (IsHeader axes)
  pub sound : IfSome old.input (λ bytes. header_flaw bytes ≡ None)
  pub says : IfSome old.input (λ bytes. axes ≡ header_axes bytes)
  pub after : new ≡ taken header_length old

-- The first 32 bytes, or as many as there are, have the flaw that this fault tells of, and were taken off. It is a
-- flaw that some header has.
pub record FindsBadHead (fault : VolumeFault) (old new : DeskState) : Type 0 where
  pub possible : SomeBytes (λ bytes. Tells fault (header_flaw bytes))
  pub flaw : IfSome old.input (λ bytes. Tells fault (header_flaw bytes))
  pub after : new ≡ taken header_length old

-- no header was read
abbrev pub FailsToReadHead : VolumeFault → DeskState → DeskState → Type 0
FailsToReadHead (Truncated got) old new = ⊥
FailsToReadHead Trailing old new = ⊥
FailsToReadHead Read old new = FailsAfterReading (λ _. header_length) old new
FailsToReadHead Memory old new = ⊥
FailsToReadHead fault old new = FindsBadHead fault old new

-- The input left was the body of this volume, whose axes are those given. Nothing is left of it.
pub record ReadsBody (axes : Axes) (volume : Grid) (old new : DeskState) : Type 0 where
  pub axes_are : volume.axes ≡ axes
  pub sound : IfSome old.input (λ bytes. body_flaw axes bytes ≡ None)
  pub says : IfSome old.input (λ bytes. volume.bytes ≡ bytes)
  pub after : new ≡ emptied old

-- The input left is too short or too long for a body for these axes. The body, or what there is of it,
-- was taken off, and one byte more where there is one. It is a flaw that some body has.
pub record FindsBadBody (axes : Axes) (fault : VolumeFault) (old new : DeskState) : Type 0 where
  pub possible : SomeBytes (λ bytes. Tells fault (body_flaw axes bytes))
  pub flaw : IfSome old.input (λ bytes. Tells fault (body_flaw axes bytes))
  pub after : new ≡ taken (edge_count axes + 1) old

-- no body was read
abbrev pub FailsToReadBody : Axes → VolumeFault → DeskState → DeskState → Type 0
FailsToReadBody axes (Truncated got) old new = FindsBadBody axes (Truncated got) old new
FailsToReadBody axes Trailing old new = FindsBadBody axes Trailing old new
FailsToReadBody axes Read old new = FailsAfterReading (λ _. edge_count axes + 1) old new
FailsToReadBody axes Memory old new = TakesSome old new
FailsToReadBody axes fault old new = ⊥

-- The input left was a whole volume file, of this volume. Nothing is left of it.
pub record ReadsVolume (volume : Grid) (old new : DeskState) : Type 0 where
  pub sound : IfSome old.input (λ bytes. volume_flaw bytes ≡ None)
  pub says : IfSome old.input (λ bytes. volume ≡ volume_in bytes)
  pub after : new ≡ emptied old

-- how much is read of a file with a flaw: the header, if the flaw is there, or the body and one byte more
abbrev pub judged_length : List ℕ → ℕ
judged_length bytes = if is_some (header_flaw bytes) then header_length else (header_length + (edge_count (header_axes bytes) + 1))

-- The input left has a flaw that this fault tells of, and that some file has. What was read of it was taken off.
pub record FindsBadVolume (fault : VolumeFault) (old new : DeskState) : Type 0 where
  pub possible : SomeBytes (λ bytes. Tells fault (volume_flaw bytes))
  pub flaw : IfSome old.input (λ bytes. Tells fault (volume_flaw bytes))
  pub count : ℕ
  pub judged : IfSome old.input (λ bytes. count ≡ judged_length bytes)
  pub after : new ≡ taken count old

-- no volume was read
abbrev pub FailsToReadVolume : VolumeFault → DeskState → DeskState → Type 0
FailsToReadVolume Read old new = FailsAfterReading judged_length old new
FailsToReadVolume Memory old new = TakesSome old new
FailsToReadVolume fault old new = FindsBadVolume fault old new
