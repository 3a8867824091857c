-- The axes of a volume, its voxels, and the edges of its grid.
use Rattle.std.specs.Prelude.{◌≡◌, ◌⊎◌, ℕ, ◌+◌, ◌*◌, ◌-◌, ◌/◌, ◌%◌, ◌^◌, ◌<◌, ◌≤◌, ◌==◌, nat_lt, Bool, true, ◌&&◌, if◌then◌else◌, List, [], ◌∷◌, Option, Some, None}

-- the lengths of a volume's three axes, in voxels
pub record Axes : Type 0 where
  pub nx : ℕ
  pub ny : ℕ
  pub nz : ℕ

-- how many voxels there are; their numbers are those below it
abbrev pub voxel_count : Axes → ℕ
voxel_count a = a.nx * a.ny * a.nz

-- the number of the voxel at the place x, y, z: x runs fastest, then y, then z
abbrev pub voxel_at : Axes → ℕ → ℕ → ℕ → ℕ
voxel_at a x y z = x + a.nx * (y + a.ny * z)

-- the coordinate of voxel v on axis c: 0 is x, 1 is y, 2 is z
abbrev pub coordinate : Axes → ℕ → ℕ → ℕ
coordinate a v c =
    if c == 0 then v % a.nx else (if c == 1 then v / a.nx % a.ny else v / (a.nx * a.ny))

-- how far the numbers of two neighbours on axis c lie apart
abbrev pub stride : Axes → ℕ → ℕ
stride a c = if c == 0 then 1 else (if c == 1 then a.nx else a.nx * a.ny)

-- how many edge numbers there are, with those that no edge has: three for each voxel
abbrev pub edge_count : Axes → ℕ
edge_count a = 3 * voxel_count a

-- whether edge number 3 * v + c belongs to an edge: v has a predecessor on axis c
abbrev pub is_edge : Axes → ℕ → Bool
is_edge a e = nat_lt e (edge_count a) && nat_lt 0 (coordinate a (e / 3) (e % 3))

-- the ends of an edge: voxel v, and its predecessor on axis c
abbrev pub higher_end : ℕ → ℕ
higher_end e = e / 3

abbrev pub lower_end : Axes → ℕ → ℕ
lower_end a e = e / 3 - stride a (e % 3)

-- v and w are the two ends of an edge, in either order
abbrev pub AreEnds : Axes → ℕ → ℕ → ℕ → Type 0
AreEnds a e v w = ((lower_end a e ≡ v) × (higher_end e ≡ w)) ⊎ ((lower_end a e ≡ w) × (higher_end e ≡ v))

-- a place of the grid
pub record IsPlace (a : Axes) (x y z : ℕ) : Type 0 where
  pub in_x : x < a.nx
  pub in_y : y < a.ny
  pub in_z : z < a.nz

-- the place of voxel v, as the list of its three coordinates
abbrev pub place_of : Axes → ℕ → List ℕ
place_of a v = coordinate a v 0 ∷ coordinate a v 1 ∷ coordinate a v 2 ∷ []

-- an edge of the grid with the voxels that it joins
pub record IsEdgeBetween (a : Axes) (e lower higher : ℕ) : Type 0 where
  pub edge : is_edge a e ≡ true
  pub lower_is : lower ≡ lower_end a e
  pub higher_is : higher ≡ higher_end e
  pub ascending : lower < higher
  pub voxel : higher < voxel_count a

-- what is wrong with three numbers as the axes of a volume
pub data AxesFlaw : Type 0 where
  AxisZero : ℕ → AxesFlaw
  AxisLarge : ℕ → AxesFlaw
  TooMany : AxesFlaw

-- the first that holds of: axis c is 0; axis c is above 65,535; there are more than 2^28 voxels
unfoldable pub axes_flaw : Axes → Option AxesFlaw
axes_flaw a =
    if a.nx == 0 then Some (AxisZero 0)
    else (if a.ny == 0 then Some (AxisZero 1)
    else (if a.nz == 0 then Some (AxisZero 2)
    else (if nat_lt 65535 a.nx then Some (AxisLarge 0)
    else (if nat_lt 65535 a.ny then Some (AxisLarge 1)
    else (if nat_lt 65535 a.nz then Some (AxisLarge 2)
    else (if nat_lt (2 ^ 28) (voxel_count a) then Some TooMany
    else None))))))

-- the axes of a volume: each from 1 to 65,535 long, and at most 2^28 voxels
pub record IsWithinLimits (a : Axes) : Type 0 where
  pub some_x : 0 < a.nx
  pub some_y : 0 < a.ny
  pub some_z : 0 < a.nz
  pub most_x : a.nx ≤ 65535
  pub most_y : a.ny ≤ 65535
  pub most_z : a.nz ≤ 65535
  pub most_voxels : voxel_count a ≤ 2 ^ 28
