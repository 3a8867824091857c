-- The nodes take their turns: what settling the graph of a node adds to the works before it.
use Rattle.std.specs.Prelude.{◌≡◌, ℕ, ◌<◌, Bool, IsTrue, List, [], ◌∷◌, ◌++◌, length}
use Rattle.agglo_model.specs.Grid.{Grid}
use Rattle.agglo_model.specs.PairOrder.{Threshold}
use Rattle.agglo_model.specs.Greedy.{Merge}
use Rattle.agglo_model.specs.Cutting.{Chunking, node_count, cells_at, artificial_faces, child_count}
use Rattle.agglo_model.specs.Work.{labels_before, labels_after}
use Rattle.agglo_model.specs.NodeLaws.{AreWorksOn}
use Rattle.agglo_model.specs.RegionGraph.{RegionGraph, IsCellGraph, IsResidue}
use Rattle.agglo_model.specs.Settling.{Settles}
use Rattle.agglo_model.specs.Joining.{IsJoined}
use Rattle.agglo_model.specs.JoiningLaws.{StartsNode, AreKids}

-- with these merges the works go on by one node, whose residue this is
pub record IsTurn (g : Grid) (t : Threshold) (c : Chunking) (labels : List ℕ) (works : List (List Merge)) (m : ℕ) (merges : List Merge) (left : RegionGraph) : Type 0 where
  pub works_on : AreWorksOn g t c labels (works ++ merges ∷ [])
  pub residue : IsResidue g t c m (labels_after labels (works ++ merges ∷ []) m) left

-- a node whose graph is one that it starts from
abbrev pub NodesTakeTurns : Type 0
NodesTakeTurns = (keeps : ℕ → Bool) (g : Grid) (t : Threshold) (c : Chunking) (labels : List ℕ) (works : List (List Merge))
    → AreWorksOn g t c labels works → (m : ℕ) → length works ≡ m → m < node_count c
    → (graph : RegionGraph) → StartsNode (λ x. IsTrue (keeps x)) g t c m (labels_before labels works m) graph
    → (merges : List Merge) (left : RegionGraph) → Settles t (artificial_faces c m) graph merges left
    → IsTurn g t c labels works m merges left

-- a leaf, from the graph of its cell under the labels from the start
abbrev pub LeavesTakeTurns : Type 0
LeavesTakeTurns = (g : Grid) (t : Threshold) (c : Chunking) (labels : List ℕ) (works : List (List Merge))
    → AreWorksOn g t c labels works → (m : ℕ) → length works ≡ m → m < cells_at c 0
    → (graph : RegionGraph) → IsCellGraph g c m labels graph
    → (merges : List Merge) (left : RegionGraph) → Settles t (artificial_faces c m) graph merges left
    → IsTurn g t c labels works m merges left

-- a node that is no leaf, from the graph joined from the residues of its children
abbrev pub ParentsTakeTurns : Type 0
ParentsTakeTurns = (g : Grid) (t : Threshold) (c : Chunking) (labels : List ℕ) (works : List (List Merge))
    → AreWorksOn g t c labels works → (m : ℕ) → length works ≡ m → m < node_count c → 0 < child_count c m
    → (kids : List RegionGraph) → AreKids g t c labels works m kids
    → (graph : RegionGraph) → IsJoined g c m labels kids graph
    → (merges : List Merge) (left : RegionGraph) → Settles t (artificial_faces c m) graph merges left
    → IsTurn g t c labels works m merges left

-- a residue stays that of its node when the works go on
abbrev pub ResiduesStay : Type 0
ResiduesStay = (g : Grid) (t : Threshold) (c : Chunking) (labels : List ℕ) (works more : List (List Merge)) (m : ℕ)
    (graph : RegionGraph) → m < length works → IsResidue g t c m (labels_after labels works m) graph
    → IsResidue g t c m (labels_after labels (works ++ more) m) graph
