-- What levels count stays below 2^32.
use Rattle.std.proofs.Common.{◌≡◌, inl, inr, ℕ, ◌-◌, ◌^◌, ◌<◌, ◌≤◌, min, List, [], length, set, sum_by, Option, sym, subst, arith}
use Rattle.std.specs.List.{range_with_len}
use Rattle.std.proofs.lemmas.Bool.{cases_lt}
use Rattle.std.proofs.lemmas.List.{get_or_past, get_or-set_same}
use Rattle.std.proofs.lemmas.List.Concat.{length-flat_map}
use Rattle.agglo_model.specs.Greedy.{Merge}
use Rattle.agglo_model.specs.LabelMap.{AreLabels}
use Rattle.agglo_model.specs.Cutting.{cells_at, first_node, last_level}
use Rattle.agglo_model.specs.Work.{work_of, labels_after}
use Rattle.agglo_model.specs.RegionGraph.{RegionGraph}
use Rattle.agglo_model.specs.Report.{Level}
use Rattle.agglo_model.proofs.Levels.{node_count-lt}
use Rattle.region_graph.specs.SiteView.{SiteView, IsSite}
use Rattle.chunk_run.specs.Turns.{HasRoom, HasWorked, level_at, no_node, with_node, nodes_among}
use Rattle.chunk_run.proofs.FewerNames.{AreUpTo, few_merges}
use Rattle.chunk_run.proofs.PassedNames.{passed-le}
use Rattle.work_laws.proofs.RangeSums.{sum_places-le}

-- all numbers fit 32 bits
pub record AreSmall (level : Level) : Type 0 where
  pub nodes : level.nodes < 2 ^ 32
  pub merges : level.merges < 2 ^ 32
  pub passed : level.passed < 2 ^ 32

small_labels : (labels : List ℕ) → AreLabels labels → AreUpTo (2 ^ 28) labels
small_labels labels fit x (v, is) = elim (cases_lt v (length labels)) [
  | inl inside ↦ subst (λ y. y ≤ 2 ^ 28) is (fit v inside)
  | inr past ↦ omega (arith, is, get_or_past labels v 0 past)
]

-- a part of a list
part_of : (works : List (List Merge)) (a m z : ℕ) → length works ≡ m
    → sum_by (λ n. length (work_of works n)) (range_with_len a (min (m - a) z)) ≤ sum_by (λ work. length work) works
part_of works a m z worked = elim (cases_lt a m) [
  | inl inside ↦ sum_places-le (λ work. length work) works [] a (min (m - a) z) (omega arith)
  | inr past ↦ (
      let none : min (m - a) z ≡ 0 = omega arith in
      subst (λ n. sum_by (λ k. length (work_of works k)) (range_with_len a n) ≤ sum_by (λ work. length work) works) (sym none)
      (omega arith))
]

module _ (s : SiteView) (site : IsSite s) (m p : ℕ) (waiting : List (Option RegionGraph)) (merges : List Merge) (levels : List Level)
    (so_far : HasWorked s m p waiting merges levels) where
  merges_fit : (k : ℕ) → sum_by (λ n. length (work_of so_far.works n)) (nodes_among s.cutting m k) ≤ 2 ^ 28
  merges_fit k =
      let few = few_merges s.grid s.threshold s.cutting (2 ^ 28) s.labels so_far.works so_far.works_on.works_are.worked
      (small_labels s.labels site.labelled.labels_fit) in
      let all = length-flat_map (λ (work : List Merge). work) so_far.works in
      let part = part_of so_far.works (first_node s.cutting k) m (cells_at s.cutting k) so_far.worked in
      omega arith

  pub are_small : (k : ℕ) → k ≤ last_level s.cutting → AreSmall (level_at levels k)
  are_small k reached =
      let most = node_count-lt s.cutting site.chunking in
      let merges = merges_fit k in
      let passed = passed-le s.grid s.threshold s.cutting m k (labels_after s.labels so_far.works) so_far.residues reached so_far.residues_are in
      subst AreSmall (sym (so_far.counted k no_node reached)) (record {
        nodes = omega (arith, so_far.worked, so_far.works_on.works_are.few);
        merges = omega arith;
        passed = omega (arith, site.chunking.limits.most_voxels);
      })

-- so a level had room for what it counts now
pub had_room : (levels : List Level) (k made gone_on : ℕ) → k < length levels
    → AreSmall (level_at (set levels k (with_node (level_at levels k) made gone_on)) k) → HasRoom levels k made gone_on
had_room levels k made gone_on inside small =
    let same = get_or-set_same levels k (with_node (level_at levels k) made gone_on) no_node inside in
    let now = subst AreSmall same small in
    record { level = inside; nodes = now.nodes; merges = now.merges; passed = now.passed }
