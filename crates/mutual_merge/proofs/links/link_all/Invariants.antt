use Rattle.std.proofs.Common.{◌≡◌, length, take, All}
use Rattle.mutual_merge.specs.Linked.{edges_by, name_at}
use Rattle.mutual_merge.proofs.LinkedEdges.{IsInside}
use Rattle.mutual_merge.proofs.links.link_all.Given as goal

abbrev pub invariant-loop-edge : goal.invariant-loop-edge
invariant-loop-edge l = record {
  inside : All (IsInside (length l.regions)) l.links.items;
  same_edges : edges_by (name_at l.regions) l.links.items ≡ take l.edge-index l.edges;
}
