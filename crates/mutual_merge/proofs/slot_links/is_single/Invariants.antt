use Rattle.std.proofs.Common.{◌≡◌, ℕ, ◌/◌, take}
use Rattle.std.specs.Prelude.{Contains}
use Rattle.mutual_merge.specs.Slots.{Joins, nth_link}
use Rattle.mutual_merge.proofs.slot_links.is_single.Given as goal

abbrev pub invariant-loop-item : goal.invariant-loop-item
invariant-loop-item l = (j : ℕ) → Contains (take l.item-index l.items) j
    → Joins (nth_link l.links l.index).a (nth_link l.links l.index).b (nth_link l.links (j / 2)) → j / 2 ≡ l.index
