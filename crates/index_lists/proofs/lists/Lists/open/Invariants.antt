use Rattle.std.proofs.Common.{◌≡◌, ℕ, ◌<◌, length}
use Rattle.index_lists.specs.Links.{node_at}
use Rattle.index_lists.proofs.lists.Lists.open.Given as goal

abbrev pub invariant-loop-item : goal.invariant-loop-item
invariant-loop-item l = record {
  as_many : length l.nodes.items ≡ l.item;
  loose : (x : ℕ) → x < l.item → (node_at l.nodes.items x).next ≡ x;
}
