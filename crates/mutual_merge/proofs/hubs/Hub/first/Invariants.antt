use Rattle.std.proofs.Common.{◌≡◌}
use Rattle.std.specs.BinaryHeap.{IsHeap, heap_items, heap_len}
use Rattle.mutual_merge.specs.HubEntries.{entry_cmp}
use Rattle.mutual_merge.specs.Hubs.{TellAll}
use Rattle.mutual_merge.proofs.hubs.Hub.first.Given as goal

abbrev pub invariant-loop-top : goal.invariant-loop-top
invariant-loop-top l = record {
  ordered : IsHeap entry_cmp (heap_items l.self-inside.heap);
  slot_is : l.self-inside.slot ≡ l.fn.self.slot;
  tells : TellAll (heap_items l.self-inside.heap) l.links l.fn.self.slot;
}

abbrev pub decreases-loop-top : goal.decreases-loop-top
decreases-loop-top l = heap_len l.self-inside.heap
