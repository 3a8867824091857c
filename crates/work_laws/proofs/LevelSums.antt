-- The merges of the nodes of levels, and of the levels together.
use Rattle.std.proofs.Common.{◌≡◌, ℕ, zero, suc, ◌+◌, ◌≤◌, List, [], length, take, get_or, sum_by, refl, ap, add-one, arith}
use Rattle.std.proofs.lemmas.List.{take_all}
use Rattle.std.proofs.lemmas.List.Concat.{length-flat_map}
use Rattle.std.proofs.lemmas.List.Sums.{sum_by_more}
use Rattle.agglo_model.specs.Grid.{Grid}
use Rattle.agglo_model.specs.PairOrder.{Threshold}
use Rattle.agglo_model.specs.Greedy.{Merge}
use Rattle.agglo_model.specs.Cutting.{Chunking, cells_at, last_level, first_node, node_count}
use Rattle.agglo_model.specs.Report.{Level}
use Rattle.agglo_model.specs.Segmentation.{AreLevels, nodes_of}
use Rattle.agglo_model.specs.Work.{all_merges, work_of}
use Rattle.agglo_model.proofs.Levels.{first_node_le}
use Rattle.work_laws.proofs.RangeSums.{sum_between}

abbrev pub merges_of : Level → ℕ
merges_of level = level.merges

-- the merges of the nodes before a level, and those of the level
pub by_level : (c : Chunking) (works : List (List Merge)) (j : ℕ) → first_node c (suc j) ≤ length works
    → length (all_merges (take (first_node c j) works)) + sum_by (λ m. length (work_of works m)) (nodes_of c j)
    ≡ length (all_merges (take (first_node c (suc j)) works))
by_level c works j worked = omega (
  arith,
  length-flat_map (λ (work : List Merge). work) (take (first_node c j) works),
  length-flat_map (λ (work : List Merge). work) (take (first_node c (suc j)) works),
  sum_between (λ (work : List Merge). length work) works [] (first_node c j) (cells_at c j) worked,
)

module _ (g : Grid) (t : Threshold) (c : Chunking) (labels : List ℕ) (levels : List Level) (is : AreLevels g t c labels levels) where
  -- the merges of the first levels
  pub merges_up_to : (i : ℕ) → i ≤ suc (last_level c) → sum_by merges_of (take i levels)
      ≡ length (all_merges (take (first_node c i) is.works))
  merges_up_to zero le = refl
  merges_up_to (suc i) le =
      let d : Level = record { nodes = 0; merges = 0; passed = 0 } in
      let more = sum_by_more merges_of levels i d (omega (arith, is.one_each)) in
      let next : sum_by merges_of (take (i + 1) levels) ≡ sum_by merges_of (take (suc i) levels) =
      ap (λ n. sum_by merges_of (take n levels)) (add-one i) in
      let here : (get_or levels i d).merges ≡ sum_by (λ m. length (work_of is.works m)) (nodes_of c i) =
      ap (λ (l : Level). l.merges) (is.counted i d (omega arith)) in
      let worked : first_node c (suc i) ≤ length is.works =
      omega (arith, is.works_are.one_each, first_node_le c (suc i) (suc (last_level c)) (omega arith)) in
      omega (arith, more, next, here, merges_up_to i (omega arith), by_level c is.works i worked)

  -- those of all levels
  pub all_merges_counted : sum_by merges_of levels ≡ length (all_merges is.works)
  all_merges_counted =
      let counted = merges_up_to (suc (last_level c)) (omega arith) in
      let rows : sum_by merges_of (take (suc (last_level c)) levels) ≡ sum_by merges_of levels =
      ap (sum_by merges_of) (take_all (suc (last_level c)) levels (omega (arith, is.one_each))) in
      let works : length (all_merges (take (node_count c) is.works)) ≡ length (all_merges is.works) =
      ap (λ w. length (all_merges w)) (take_all (node_count c) is.works (omega (arith, is.works_are.one_each))) in
      omega (arith, counted, rows, works)
