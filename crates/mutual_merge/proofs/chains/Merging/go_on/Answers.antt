use Rattle.std.proofs.Common.{Bool, List, ap, subst}
use Rattle.agglo_model.specs.Greedy.{Merge}
use Rattle.agglo_model.specs.RegionGraph.{Region}
use Rattle.mutual_merge.specs.declared.links.Link.{Link}
use Rattle.mutual_merge.specs.Chains.{IsEnd}
use Rattle.mutual_merge.specs.Slots.{HasNotedPair, IsFirstPairAt}
use Rattle.mutual_merge.proofs.MergedInto.{merged_into}
use Rattle.mutual_merge.proofs.chains.Merging.go_on.Goals as goal

pub returns-in_ok-merge-in-Pair-clause-merged : goal.returns-in_ok-merge-in-Pair-clause-merged
returns-in_ok-merge-in-Pair-clause-merged c graph into =
    let regions : List Region = c.args.slots.now.regions.items in
    let closed : List Bool = c.args.slots.now.closed.items in
    let links : List Link = c.args.slots.now.links.items in
    let merges : List Merge = c.args.self.now.merges.items in
    let new = c.merge.new.slots in
    let made : List Merge = c.merge.new.self.merges.items in
    let pair : IsFirstPairAt c.args.threshold.now c.args.frozen regions links c.in-Pair.index =
    subst (IsEnd c.args.threshold.now c.args.frozen regions links) c.in-Pair.is c.in_ok-index.ensures.end in
    let noted : HasNotedPair c.in-Pair.index regions closed links new.regions.items new.closed.items new.links.items merges made =
    subst (λ (rs : List Region). HasNotedPair c.in-Pair.index rs closed links new.regions.items new.closed.items new.links.items merges made) (ap (λ v. v.items) c.in_ok-index.ensures.regions)
    (subst (λ (bs : List Bool). HasNotedPair c.in-Pair.index c.climb.new.slots.regions.items bs links new.regions.items new.closed.items new.links.items merges made) (ap (λ v. v.items) c.in_ok-index.ensures.closed)
    (subst (λ (ls : List Link). HasNotedPair c.in-Pair.index c.climb.new.slots.regions.items c.climb.new.slots.closed.items ls new.regions.items new.closed.items new.links.items merges made) (ap (λ v. v.items) c.in_ok-index.ensures.links)
    (subst (λ (ms : List Merge). HasNotedPair c.in-Pair.index c.climb.new.slots.regions.items c.climb.new.slots.closed.items c.climb.new.slots.links.items new.regions.items new.closed.items new.links.items ms made) (ap (λ v. v.items) c.in_ok-index.ensures.merges)
    c.in_ok-merge-in-Pair.ensures.merged))) in
    merged_into c.args.threshold.now c.args.frozen c.in-Pair.index graph regions new.regions.items closed new.closed.items links new.links.items merges made pair noted into
