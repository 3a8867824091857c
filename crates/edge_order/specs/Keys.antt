-- The edges of one voxel as numbers: the greater number is that of the edge that comes before.
use Rattle.std.specs.Prelude.{ℕ, ◌+◌, ◌*◌, ◌/◌, ◌%◌, ◌<◌, ◌==◌, nat_lt, max, List, length, slice_index, Bool, if◌then◌else◌}
use Rattle.agglo_model.specs.Axes.{voxel_at}
use Rattle.agglo_model.specs.Grid.{Grid}
use Rattle.edge_order.specs.Steps.{IsBestStep}
use Rattle.edge_order.specs.declared.step.Step.{Step}
use Rattle.edge_order.specs.declared.step.Step.TheVariants.{Stay, BackX, BackY, BackZ, OnX, OnY, OnZ}

-- of two edges of one voxel the one with the smaller number has the greater rank
abbrev pub rank : Step → ℕ
rank Stay = 0
rank BackX = 7
rank BackY = 6
rank BackZ = 5
rank OnX = 4
rank OnY = 3
rank OnZ = 2

-- the edge of this byte at this step
abbrev pub key : ℕ → Step → ℕ
key byte step = 8 * byte + rank step

-- the greatest key so far, and the next, where there is an edge
abbrev pub raised : ℕ → Bool → ℕ → ℕ
raised best exists next = if exists then max best next else best

abbrev pub step_of_rank : ℕ → Step
step_of_rank r = if r == 7 then BackX else (if r == 6 then BackY else (if r == 5 then BackZ
    else (if r == 4 then OnX else (if r == 3 then OnY else (if r == 2 then OnZ else Stay)))))

-- the step of the edge of this key, where its byte is at least low
abbrev pub step_of_key : ℕ → ℕ → Step
step_of_key low best = if nat_lt (best / 8) low then Stay else step_of_rank (best % 8)

-- each entry is the greatest key at its voxel, in the row of voxels from the place x, y, z on
abbrev pub AreRowKeys : Grid → ℕ → ℕ → ℕ → List ℕ → Type 0
AreRowKeys g x y z keys = (low i : ℕ) → i < length keys
    → IsBestStep g low (voxel_at g.axes (x + i) y z) (step_of_key low (slice_index keys i))
