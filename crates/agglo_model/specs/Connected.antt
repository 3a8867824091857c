-- Regions whose voxels hang together.
use Rattle.std.specs.Prelude.{◌≡◌, ◌≢◌, ℕ, zero, suc, IsTrue, List}
use Rattle.agglo_model.specs.Axes.{Axes, is_edge, AreEnds}
use Rattle.agglo_model.specs.Basins.{label_of}

-- an edge of the grid joins the voxels v and w
abbrev pub AreNeighbours : Axes → ℕ → ℕ → Type 0
AreNeighbours a v w = (e : ℕ) × IsTrue (is_edge a e) × AreEnds a e v w

-- a path of so many edges from v to w, whose voxels all have the name x
abbrev pub IsPath : Axes → List ℕ → ℕ → ℕ → ℕ → ℕ → Type 0
IsPath a labels x zero v w = (label_of labels v ≡ x) × (v ≡ w)
IsPath a labels x (suc k) v w =
    (label_of labels v ≡ x) × ((u : ℕ) × AreNeighbours a v u × IsPath a labels x k u w)

-- any two voxels of one name are joined by a path inside that name
abbrev pub AreConnected : Axes → List ℕ → Type 0
AreConnected a labels = (v w : ℕ) → label_of labels v ≢ 0 → label_of labels w ≡ label_of labels v
    → (k : ℕ) × IsPath a labels (label_of labels v) k v w
