-- Merges of pairs of slots, one after another.
use Rattle.std.proofs.Common.{inl, inr, ℕ, Bool, List, [], ◌∷◌, ◌++◌, append_assoc, sym, ap, ◌∙◌, ◌≤◌, ◌^◌, length, length-set, subst, arith}
use Rattle.agglo_model.specs.PairOrder.{Threshold}
use Rattle.agglo_model.specs.Greedy.{Merge}
use Rattle.agglo_model.specs.RegionGraph.{Region, RegionGraph}
use Rattle.agglo_model.specs.Settling.{IsGraphAfter, IsReciprocalEdge, Settles, edge_of}
use Rattle.mutual_merge.specs.declared.links.Link.{Link}
use Rattle.mutual_merge.specs.Linked.{region_at}
use Rattle.mutual_merge.specs.Rounds.{Carries}
use Rattle.mutual_merge.specs.Slots.{HasMergedPair, HasNotedPair, HaveMergedInto, IsFirstPairAt, IsReciprocalAt, both_regions}
use Rattle.mutual_merge.proofs.GatheredSlots.{gathered}
use Rattle.mutual_merge.proofs.TakenSlots.{moved-fewer, taken_over}

-- merges that are carried, after others
pub carries_on : (t : Threshold) (faces : ℕ) (start mid last : RegionGraph) (merges others : List Merge)
    → Carries t faces start merges mid → Carries t faces mid others last → Carries t faces start (merges ++ others) last
carries_on t faces start mid last merges others one other more left settles =
    subst (λ ms. Settles t faces start ms left) (sym (append_assoc merges others more)) (one (others ++ more) left (other more left settles))

-- one more merge is carried
carries_more : (t : Threshold) (faces : ℕ) (start graph next : RegionGraph) (merges : List Merge) (merge : Merge)
    → Carries t faces start merges graph → IsReciprocalEdge t faces graph (edge_of merge) → IsGraphAfter graph merge next
    → Carries t faces start (merges ++ merge ∷ []) next
carries_more t faces start graph next merges merge carries pair after more left settles =
    subst (λ ms. Settles t faces start ms left) (sym (append_assoc merges (merge ∷ []) more))
    (carries (merge ∷ more) left (record {
      last = settles.last;
      settled = (pair, (next, after, settles.settled));
      left_is = settles.left_is;
    }))

reciprocal_of : (t : Threshold) (faces index : ℕ) (regions new_regions : List Region) (closed new_closed : List Bool) (links new_links : List Link) (merge : Merge)
    → IsFirstPairAt t faces regions links index → HasMergedPair index regions closed links new_regions new_closed new_links merge
    → IsReciprocalAt t faces regions links index
reciprocal_of t faces index regions new_regions closed new_closed links new_links merge pair merged = record {
  there = pair.there;
  live = pair.live;
  a_free = pair.a_free;
  b_free = pair.b_free;
  reaches = pair.reaches;
  first = pair.first;
  single = merged.single;
}

merged_more : (t : Threshold) (faces index : ℕ) (start : RegionGraph) (regions new_regions : List Region) (closed new_closed : List Bool) (links new_links : List Link)
    (merges : List Merge) (merge : Merge) → IsFirstPairAt t faces regions links index
    → HasMergedPair index regions closed links new_regions new_closed new_links merge → HaveMergedInto t faces start merges regions closed links
    → HaveMergedInto t faces start (merges ++ merge ∷ []) new_regions new_closed new_links
merged_more t faces index start regions new_regions closed new_closed links new_links merges merge pair merged into =
    let graph = into.graph in
    let moved : List Link = merged.taken.moved in
    let step = taken_over t faces graph regions closed links index merged.from merged.to new_regions new_closed moved into.stands
    (reciprocal_of t faces index regions new_regions closed new_closed links new_links merge pair merged) merged.joins merged.taken.taken in
    let next = step.1.0 in
    record {
      graph = next;
      carries = carries_more t faces start graph next merges merge into.carries
          (subst (λ m. IsReciprocalEdge t faces graph (edge_of m)) (sym merged.merge_is) step.0)
          (subst (λ m. IsGraphAfter graph m next) (sym merged.merge_is) step.1.1);
      stands = gathered next new_regions new_closed moved new_links step.1.2 merged.taken.gathered;
      few = subst (λ n. n ≤ 2 ^ 32)
          (sym (ap length merged.taken.taken.regions_are
          ∙ length-set regions merged.to (both_regions (region_at regions merged.to) (region_at regions merged.from)))) into.few;
      fewer = let gathering = merged.taken.gathered.fewer in
          let moving = moved-fewer merged.from merged.to links moved merged.taken.taken.links_are in
          let before = into.fewer in
          omega (arith, gathering, moving, before);
    }

pub merged_into : (t : Threshold) (faces index : ℕ) (start : RegionGraph) (regions new_regions : List Region) (closed new_closed : List Bool) (links new_links : List Link)
    (merges new_merges : List Merge) → IsFirstPairAt t faces regions links index
    → HasNotedPair index regions closed links new_regions new_closed new_links merges new_merges → HaveMergedInto t faces start merges regions closed links
    → HaveMergedInto t faces start new_merges new_regions new_closed new_links
merged_into t faces index start regions new_regions closed new_closed links new_links merges new_merges pair (inl noted) into =
    subst (λ ms. HaveMergedInto t faces start ms new_regions new_closed new_links) (sym noted.noted)
    (merged_more t faces index start regions new_regions closed new_closed links new_links merges noted.merge pair noted.merged into)
merged_into t faces index start regions new_regions closed new_closed links new_links merges new_merges pair (inr stay) into =
    subst (λ ms. HaveMergedInto t faces start ms new_regions new_closed new_links) (sym stay.merges_stay)
    (subst (λ (rs : List Region). HaveMergedInto t faces start merges rs new_closed new_links) (sym stay.regions_stay)
    (subst (λ (bs : List Bool). HaveMergedInto t faces start merges regions bs new_links) (sym stay.closed_stay)
    (subst (λ (ls : List Link). HaveMergedInto t faces start merges regions closed ls) (sym stay.links_stay) into)))
