-- The six steps from a voxel, and the step along its best edge.
use Rattle.std.specs.Prelude.{◌≡◌, ℕ, ◌+◌, ◌*◌, ◌<◌, nat_lt, Bool, true, List, length, slice_index_or, Option, Some, None, MatchOption}
use Rattle.agglo_model.specs.Axes.{Axes, coordinate}
use Rattle.agglo_model.specs.Boxes.{box_voxel}
use Rattle.agglo_model.specs.Grid.{Grid}
use Rattle.agglo_model.specs.EdgeOrder.{IsBest, HasNoBest}
use Rattle.edge_order.specs.declared.step.Step.{Step}
use Rattle.edge_order.specs.declared.step.Step.TheVariants.{Stay, BackX, BackY, BackZ, OnX, OnY, OnZ}

-- the number of the edge that a step takes from voxel v
abbrev pub edge_at : Axes → ℕ → Step → Option ℕ
edge_at a v Stay = None
edge_at a v BackX = Some (3 * v)
edge_at a v BackY = Some (3 * v + 1)
edge_at a v BackZ = Some (3 * v + 2)
edge_at a v OnX = Some (3 * (v + 1))
edge_at a v OnY = Some (3 * (v + a.nx) + 1)
edge_at a v OnZ = Some (3 * (v + a.nx * a.ny) + 2)

-- the step takes the best edge of v, or stays where v has none
abbrev pub IsBestStep : Grid → ℕ → ℕ → Step → Type 0
IsBestStep g low v step = MatchOption (edge_at g.axes v step) (HasNoBest g low v) (λ e. IsBest g low v e)

-- the step that takes the same edge from its far end
abbrev pub reversed : Step → Step
reversed Stay = Stay
reversed BackX = OnX
reversed BackY = OnY
reversed BackZ = OnZ
reversed OnX = BackX
reversed OnY = BackY
reversed OnZ = BackZ

-- w is where the step leads from v: the far end of its edge, or v itself where it stays
abbrev pub LeadsTo : Axes → ℕ → Step → ℕ → Type 0
LeadsTo a v Stay w = w ≡ v
LeadsTo a v BackX w = w + 1 ≡ v
LeadsTo a v BackY w = w + a.nx ≡ v
LeadsTo a v BackZ w = w + a.nx * a.ny ≡ v
LeadsTo a v OnX w = w ≡ v + 1
LeadsTo a v OnY w = w ≡ v + a.nx
LeadsTo a v OnZ w = w ≡ v + a.nx * a.ny

-- the step leads from the place x, y, z to another place of the grid, or stays
abbrev pub steps_within : Axes → ℕ → ℕ → ℕ → Step → Bool
steps_within a x y z Stay = true
steps_within a x y z BackX = nat_lt 0 x
steps_within a x y z BackY = nat_lt 0 y
steps_within a x y z BackZ = nat_lt 0 z
steps_within a x y z OnX = nat_lt (x + 1) a.nx
steps_within a x y z OnY = nat_lt (y + 1) a.ny
steps_within a x y z OnZ = nat_lt (z + 1) a.nz

-- the step leads from voxel v to another voxel of the grid, or stays
abbrev pub leads_within : Axes → ℕ → Step → Bool
leads_within a v step = steps_within a (coordinate a v 0) (coordinate a v 1) (coordinate a v 2) step

-- each entry is the best step of its voxel
abbrev pub AreBestSteps : Grid → ℕ → List Step → Type 0
AreBestSteps g low steps = (v : ℕ) → v < length steps → IsBestStep g low v (slice_index_or steps v Stay)

-- each entry is the best step of its voxel, where these are the voxels of a box
abbrev pub AreBoxSteps : Grid → ℕ → List ℕ → List ℕ → List Step → Type 0
AreBoxSteps g low lo hi steps =
    (i : ℕ) → i < length steps → IsBestStep g low (box_voxel g.axes lo hi i) (slice_index_or steps i Stay)
