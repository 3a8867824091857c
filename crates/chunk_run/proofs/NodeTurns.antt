-- A node that settles the graph it starts from takes its turn.
use Rattle.std.proofs.Common.{inl, inr, ℕ, ◌<◌, List}
use Rattle.agglo_model.specs.Greedy.{Merge}
use Rattle.agglo_model.specs.Cutting.{node_count, artificial_faces}
use Rattle.agglo_model.specs.RegionGraph.{RegionGraph}
use Rattle.agglo_model.specs.Settling.{Settles}
use Rattle.region_graph.specs.SiteView.{SiteView}
use Rattle.work_laws.specs.Turns.{LeavesTakeTurns, ParentsTakeTurns}
use Rattle.chunk_run.specs.Turns.{IsStartOf, TakesTurn}

pub turn_from_start : LeavesTakeTurns → ParentsTakeTurns → (s : SiteView) (m : ℕ) (kids : List RegionGraph) (graph : RegionGraph)
    (merges : List Merge) (left : RegionGraph) → m < node_count s.cutting → IsStartOf s m kids graph
    → Settles s.threshold (artificial_faces s.cutting m) graph merges left → TakesTurn s m kids merges left
turn_from_start leaves parents s m kids graph merges left node (inl (leaf, is)) settles works on worked are_kids =
    leaves s.grid s.threshold s.cutting s.labels works on m worked leaf graph is merges left settles
turn_from_start leaves parents s m kids graph merges left node (inr (some, is)) settles works on worked are_kids =
    parents s.grid s.threshold s.cutting s.labels works on m worked node some kids are_kids graph is merges left settles
