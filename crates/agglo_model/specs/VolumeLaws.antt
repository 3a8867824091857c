-- Volume files, both ways.
use Rattle.std.specs.Prelude.{◌≡◌, ℕ, ◌<◌, List, All, None}
use Rattle.agglo_model.specs.Grid.{Grid, IsWhole}
use Rattle.agglo_model.specs.VolumeFile.{volume_bytes, volume_flaw, volume_in}

-- the file of a whole volume has no flaw, and holds the volume
abbrev pub VolumesReadBack : Type 0
VolumesReadBack = (volume : Grid) → IsWhole volume
    → (volume_flaw (volume_bytes volume) ≡ None) × (volume_in (volume_bytes volume) ≡ volume)

-- bytes without a flaw hold a whole volume, and are its file
abbrev pub SoundFilesHoldVolumes : Type 0
SoundFilesHoldVolumes = (bytes : List ℕ) → All (λ byte. byte < 256) bytes → volume_flaw bytes ≡ None
    → IsWhole (volume_in bytes) × (volume_bytes (volume_in bytes) ≡ bytes)
