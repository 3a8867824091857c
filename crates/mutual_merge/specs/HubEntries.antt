-- What a contract sees of a hub's heap.
use Rattle.std.specs.Prelude.{ℕ, List}
use Rattle.std.specs.declared.cmp.Ordering.{Ordering}
use Rattle.std.specs.Ordering.{nat_cmp, ordering_then}
use Rattle.mutual_merge.specs.declared.hubs.Entry.{Entry}

-- the slot of a hub, and the entries that its heap has, in no particular order
pub record HubEntries : Type 0 where
  pub slot : ℕ
  pub entries : List Entry

-- entries by their numbers, and those of one number by their links
abbrev pub entry_cmp : Entry → Entry → Ordering
entry_cmp x y = ordering_then (nat_cmp x.number y.number) (nat_cmp x.link y.link)
