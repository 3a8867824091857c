-- The graphs of the children of a node, what is known of each, and the faces that are kept.
use Rattle.std.specs.Prelude.{ℕ, ◌<◌, ◌≤◌, ◌==◌, List, length, map, bit_and, slice_index}
use Rattle.agglo_model.specs.Grid.{Grid}
use Rattle.agglo_model.specs.PairOrder.{Threshold}
use Rattle.agglo_model.specs.Cutting.{Chunking, child, face_bits}
use Rattle.agglo_model.specs.RegionGraph.{Region, RegionGraph, IsResidue, grid_edges, residue_of}
use Rattle.agglo_model.specs.Joining.{edges_inside}
use Rattle.region_graph.specs.declared.graph.Residue.{Residue}

abbrev pub graphs_of : List Residue → List RegionGraph
graphs_of kids = map (λ kid. kid.graph) kids

-- the contacts have at most as many edges of the grid as lie inside the cell of node m
pub record FitsInto (g : Grid) (c : Chunking) (m : ℕ) (graph : RegionGraph) : Type 0 where
  pub few : grid_edges graph ≤ edges_inside g c m

-- so it is of the graph of each child of node m
abbrev pub KidsFit : Grid → Chunking → ℕ → List RegionGraph → Type 0
KidsFit g c m graphs = (i : ℕ) → i < length graphs → FitsInto g c (child c m i) (residue_of graphs i)

-- the residue of a node fits into its cell
abbrev pub ResiduesFit : Type 0
ResiduesFit = (g : Grid) (t : Threshold) (c : Chunking) (m : ℕ) (labels : List ℕ) (graph : RegionGraph)
    → IsResidue g t c m labels graph → FitsInto g c m graph

-- a region with those of its faces that are in this set
abbrev pub with_faces_in : ℕ → Region → Region
with_faces_in faces r = record r { faces = bit_and r.faces faces }

-- the faces of one box that lie in the plane of the same face of another
abbrev pub shared_faces : List ℕ → List ℕ → List ℕ → List ℕ → ℕ
shared_faces lo hi outer_lo outer_hi = face_bits
    (λ axis. slice_index lo axis == slice_index outer_lo axis)
    (λ axis. slice_index hi axis == slice_index outer_hi axis)
