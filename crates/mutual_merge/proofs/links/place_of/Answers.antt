use Rattle.std.proofs.Common.{◌≡◌, ℕ, ◌<◌, List, length, ltb, rules, arith}
use Rattle.std.proofs.lemmas.List.Sorted.{IsPartitionedBy-ltb, IsPartitionPoint-from_clause}
use Rattle.agglo_model.specs.RegionGraph.{Region}
use Rattle.mutual_merge.specs.Linked.{name_at}
use Rattle.mutual_merge.proofs.RegionPlaces.{IsNonDecreasingBy-names, found_place, place_below_name}
use Rattle.mutual_merge.proofs.links.place_of.Goals as goal

found : (c : goal.After-partition_point)
    → (c.partition_point.result < length c.args.regions.now) × (name_at c.args.regions.now c.partition_point.result ≡ c.args.name)
found c =
    let rs : List Region = c.args.regions.now in
    let name : ℕ = c.args.name in
    found_place rs c.partition_point.result name c.requires.there.0 c.requires.ascend c.requires.there.1
    (IsPartitionPoint-from_clause (λ r. ltb r.name name) rs c.partition_point.result c.partition_point.ensures.partitioned
    (IsPartitionedBy-ltb (λ r. r.name) rs name (IsNonDecreasingBy-names rs c.requires.ascend)) (λ a r q k. search rules))

pub overflow_cast-result : goal.overflow_cast-result
overflow_cast-result c =
    let here = found c in
    let low = place_below_name c.args.regions.now c.partition_point.result c.requires.ascend here.0 in
    let fits = c.ranges.name.fits in
    record { fits = omega arith }

pub returns-clause-within : goal.returns-clause-within
returns-clause-within c = (found c).0

pub returns-clause-named : goal.returns-clause-named
returns-clause-named c = (found c).1
