-- The bytes of a volume file, version 1, and what is wrong with other bytes.
use Rattle.std.specs.Prelude.{ℕ, ◌+◌, ◌*◌, ◌==◌, nat_lt, nat_eq, if◌then◌else◌, List, ◌++◌, length, take, drop, replicate, slice_index, sum, Option, Some, None, codes}
use Rattle.std.specs.List.{starts_with}
use Rattle.agglo_model.specs.Axes.{Axes, AxesFlaw, axes_flaw, edge_count}
use Rattle.agglo_model.specs.Grid.{Grid}
use Rattle.agglo_model.specs.LabelFile.{axes_bytes, u32_bytes}

-- the text that a volume file begins with
abbrev pub volume_magic : List ℕ
volume_magic = codes "AFFVOL01"

-- a header has 32 bytes
abbrev pub header_length : ℕ
header_length = 32

-- the number in the four bytes from offset k, the lowest byte first
abbrev pub u32_at : ℕ → List ℕ → ℕ
u32_at k bytes = slice_index bytes k + 256 * slice_index bytes (k + 1)
    + 65536 * slice_index bytes (k + 2) + 16777216 * slice_index bytes (k + 3)

-- the axes stand at offsets 8, 12 and 16
abbrev pub axes_at : ℕ → List ℕ → Axes
axes_at k bytes = record { nx = u32_at k bytes; ny = u32_at (k + 4) bytes; nz = u32_at (k + 8) bytes }

abbrev pub header_axes : List ℕ → Axes
header_axes bytes = axes_at 8 bytes

-- the number of channels stands at offset 20, and eight bytes of zero after it
abbrev pub channels : List ℕ → ℕ
channels bytes = u32_at 20 bytes

abbrev pub reserved : List ℕ → List ℕ
reserved bytes = take 8 (drop 24 bytes)

-- what follows the header
abbrev pub body : List ℕ → List ℕ
body bytes = drop header_length bytes

-- what is wrong with a list of bytes as a volume file
pub data VolumeFlaw : Type 0 where
  ShortHeader : (got : ℕ) → VolumeFlaw
  Magic : VolumeFlaw
  Channels : (count : ℕ) → VolumeFlaw
  Reserved : VolumeFlaw
  BadAxes : AxesFlaw → VolumeFlaw
  Truncated : (got : ℕ) → VolumeFlaw
  Trailing : VolumeFlaw

abbrev pub of_axes : Option AxesFlaw → Option VolumeFlaw
of_axes None = None
of_axes (Some flaw) = Some (BadAxes flaw)

-- the first that holds of the header
unfoldable pub header_flaw : List ℕ → Option VolumeFlaw
header_flaw bytes =
    if nat_lt (length bytes) header_length then Some (ShortHeader (length bytes))
    else (if starts_with nat_eq bytes volume_magic then
    (if channels bytes == 3 then
    (if sum (reserved bytes) == 0 then of_axes (axes_flaw (header_axes bytes))
    else Some Reserved)
    else Some (Channels (channels bytes)))
    else Some Magic)

-- the first that holds of a body for these axes: it has one byte for each edge number
unfoldable pub body_flaw : Axes → List ℕ → Option VolumeFlaw
body_flaw axes bytes =
    if nat_lt (length bytes) (edge_count axes) then Some (Truncated (length bytes))
    else (if nat_lt (edge_count axes) (length bytes) then Some Trailing
    else None)

-- the one that is judged first, or else the other
abbrev pub first_of_two : Option VolumeFlaw → Option VolumeFlaw → Option VolumeFlaw
first_of_two None later = later
first_of_two (Some flaw) later = Some flaw

-- the first that holds of the whole list; none where the list is a whole volume
abbrev pub volume_flaw : List ℕ → Option VolumeFlaw
volume_flaw bytes = first_of_two (header_flaw bytes) (body_flaw (header_axes bytes) (body bytes))

-- the volume that a list of bytes without a flaw holds
abbrev pub volume_in : List ℕ → Grid
volume_in bytes = record { axes = header_axes bytes; bytes = body bytes }

-- the file of a volume: the text, the axes, three channels, eight bytes of zero, then one byte for each edge
-- number
abbrev pub volume_header : Axes → List ℕ
volume_header axes = volume_magic ++ axes_bytes axes ++ u32_bytes 3 ++ replicate 8 0

abbrev pub volume_bytes : Grid → List ℕ
volume_bytes volume = volume_header volume.axes ++ volume.bytes
