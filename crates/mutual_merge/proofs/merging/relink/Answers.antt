use Rattle.std.proofs.Common.{ℕ, ◌<◌, ◌≤◌, List, get_or, rules, sym, subst, arith}
use Rattle.std.specs.Prelude.{AllPairs}
use Rattle.std.proofs.lemmas.List.Sorted.{IsNonDecreasingBy-from_sort_by_key}
use Rattle.std.proofs.lemmas.Result.{IfOk-weaker}
use Rattle.agglo_model.specs.PairOrder.{most_edges}
use Rattle.mutual_merge.specs.declared.links.Link.{Link}
use Rattle.mutual_merge.specs.Linked.{link_edges}
use Rattle.mutual_merge.specs.Merged.{AreJoined, NoLater, key_of}
use Rattle.mutual_merge.specs.Moved.{AreMoved, AreRelinked}
use Rattle.mutual_merge.proofs.Relinked.{NoLater-from_keys, AreMoved-sorted, AreRelinked-from}
use Rattle.mutual_merge.proofs.merging.relink.Goals as goal
use Rattle.mutual_merge.proofs.merging.relink.Goals.{After-deref}

sorted_are : (c : After-deref) → AreMoved c.args.links.now c.args.places.now c.sort_unstable_by_key.new.self.items
sorted_are c =
    AreMoved-sorted c.args.links.now c.args.places.now c.in_ok-moved.moved.items c.sort_unstable_by_key.new.self.items
    c.in_ok-moved.ensures c.sort_unstable_by_key.ensures.permutation

-- places are numbers of 32 bits
below_all : (c : After-deref) (k : ℕ) → get_or c.args.places.now k 0 < 4294967296
below_all c k = let fits = (c.type_inv.places k).fits in omega arith

pub join_links-requires-clause-sorted : goal.join_links-requires-clause-sorted
join_links-requires-clause-sorted c =
    let sorted : List Link = c.sort_unstable_by_key.new.self.items in
    subst (AllPairs NoLater) (sym c.deref.ensures.value)
    (NoLater-from_keys 4294967296 sorted (omega arith) ((sorted_are c).each 4294967296 (λ l inside live. (below_all c l.a, below_all c l.b)))
    (IsNonDecreasingBy-from_sort_by_key key_of sorted c.sort_unstable_by_key.ensures.sorted (λ a r q k. search rules)))

pub join_links-requires-clause-within : goal.join_links-requires-clause-within
join_links-requires-clause-within c =
    let few = (sorted_are c).within in
    let most = c.requires.within in
    subst (λ ls. link_edges ls ≤ most_edges) (sym c.deref.ensures.value) (omega arith)

pub returns : goal.returns
returns c =
    let links : List Link = c.args.links.now in
    let places : List ℕ = c.args.places.now in
    let sorted : List Link = c.sort_unstable_by_key.new.self.items in
    IfOk-weaker c.join_links.result (λ joined. AreJoined c.deref.result.now joined.items) (λ joined. AreRelinked links places joined.items)
    (λ joined are. AreRelinked-from links places sorted joined.items (sorted_are (goal.at.returns c).After-deref)
    (subst (λ ls. AreJoined ls joined.items) c.deref.ensures.value are)) c.join_links.ensures
