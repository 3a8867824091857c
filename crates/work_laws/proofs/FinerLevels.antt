-- What a cutting counts by levels follows from what a finer one counts: up to a level of the one, and up to the level
-- of the other that has the same cells, all nodes together make a run of merges of the same pairs, so both make the
-- same merges and leave the same labels.
use Rattle.std.proofs.Common.{◌≡◌, ℕ, zero, suc, ◌+◌, ◌<◌, ◌≤◌, List, [], ◌∷◌, length, take, drop, get_or, sum_by, refl, sym, ap, ap₂, ◌∙◌, subst, zero-add, arith}
use Rattle.std.specs.List.{range_with_len}
use Rattle.std.proofs.lemmas.List.{get_or-drop, length-drop}
use Rattle.std.proofs.lemmas.List.Sorted.{length_permutation}
use Rattle.std.proofs.lemmas.List.Sums.{sum_by-cons}
use Rattle.agglo_model.specs.Axes.{Axes}
use Rattle.agglo_model.specs.Grid.{Grid}
use Rattle.agglo_model.specs.PairOrder.{Threshold}
use Rattle.agglo_model.specs.Greedy.{Merge, after_merge}
use Rattle.agglo_model.specs.MergeLaws.{SameOutcome}
use Rattle.agglo_model.specs.Connected.{AreConnected}
use Rattle.agglo_model.specs.Cutting.{Chunking, IsChunking, cells_at, last_level, first_node, node_count, level_of}
use Rattle.agglo_model.specs.Finer.{IsFiner, coarsened, joined_levels}
use Rattle.agglo_model.specs.NodeLaws.{AreWorksOn}
use Rattle.agglo_model.specs.RegionGraph.{RegionGraph, IsResidue, residue_of}
use Rattle.agglo_model.specs.Report.{Level}
use Rattle.agglo_model.specs.Segmentation.{AreLevels, level_count, nodes_of}
use Rattle.agglo_model.specs.Work.{AreWorks, IsReciprocal, all_merges, work_of, labels_after}
use Rattle.agglo_model.proofs.Levels.{on_level, first_node_le}
use Rattle.agglo_model.proofs.NodeCells.{on_level-lt}
use Rattle.agglo_model.proofs.OrderedWorks.{works_exist}
use Rattle.agglo_model.proofs.PairRuns.{IsRunOf, one_outcome}
use Rattle.work_laws.specs.FinerLaws.{FinerLevelsCoarsen}
use Rattle.work_laws.proofs.AlikeCells.{residue_alike}
use Rattle.work_laws.proofs.FinerCells.{within, same_count, same_first, same_nodes, on_finer, from_finer, same_reciprocal, same_residue}
use Rattle.work_laws.proofs.LevelRuns.{IsLevelPair, level_pairs_kept, level_end, end_connected, end_agrees, after_connected, level_run}
use Rattle.work_laws.proofs.LevelSums.{merges_of, by_level, merges_up_to}
use Rattle.work_laws.proofs.RangeSums.{sum_end}

-- ---- the levels where the first are one

coarsened_length : (k : ℕ) (levels : List Level) → k < length levels → length (coarsened k levels) + k ≡ length levels
coarsened_length zero levels below = omega arith
coarsened_length (suc k) [] below = absurd (omega (arith, below))
coarsened_length (suc k) (level ∷ []) below = absurd (omega (arith, below))
coarsened_length (suc k) (low ∷ high ∷ levels) below =
    omega (arith, coarsened_length k (joined_levels low high ∷ levels) (omega (arith, below)))

coarsened_later : (k j : ℕ) (levels : List Level) (d : Level) → k < length levels
    → get_or (coarsened k levels) (suc j) d ≡ get_or levels (suc j + k) d
coarsened_later zero j levels d below =
    let same : suc j ≡ suc j + 0 = omega arith in
    ap (λ i. get_or levels i d) same
coarsened_later (suc k) j [] d below = absurd (omega (arith, below))
coarsened_later (suc k) j (level ∷ []) d below = absurd (omega (arith, below))
coarsened_later (suc k) j (low ∷ high ∷ levels) d below =
    let joined = joined_levels low high ∷ levels in
    let here : suc j + k ≡ suc (j + k) = omega arith in
    let there : suc (suc (j + k)) ≡ suc j + suc k = omega arith in
    coarsened_later k j joined d (omega (arith, below))
    ∙ ap (λ i. get_or joined i d) here
    ∙ ap (λ i. get_or (low ∷ high ∷ levels) i d) there

-- the joined level has the nodes of the higher one, and passes what that passes
joined_is : (k : ℕ) (low high : Level) (levels : List Level) (d : Level)
    → ((get_or (joined_levels low high ∷ levels) k d).nodes ≡ (get_or (high ∷ levels) k d).nodes)
    × ((get_or (joined_levels low high ∷ levels) k d).passed ≡ (get_or (high ∷ levels) k d).passed)
joined_is zero low high levels d = (refl, refl)
joined_is (suc k) low high levels d = (refl, refl)

-- the first of them: the nodes of the last that went into it, with the merges of all
abbrev first_levels : ℕ → List Level → Level → Level
first_levels k levels d = record {
  nodes = (get_or levels k d).nodes;
  merges = sum_by merges_of (take (suc k) levels);
  passed = (get_or levels k d).passed;
}

coarsened_first : (k : ℕ) (levels : List Level) (d : Level) → k < length levels
    → get_or (coarsened k levels) 0 d ≡ first_levels k levels d
coarsened_first zero [] d below = absurd (omega (arith, below))
coarsened_first zero (level ∷ levels) d below =
    let one : level.merges ≡ sum_by merges_of (level ∷ []) = omega (arith, sum_by-cons merges_of level []) in
    λ i. record { nodes = level.nodes; merges = one i; passed = level.passed }
coarsened_first (suc k) [] d below = absurd (omega (arith, below))
coarsened_first (suc k) (level ∷ []) d below = absurd (omega (arith, below))
coarsened_first (suc k) (low ∷ high ∷ levels) d below =
    let joined = joined_levels low high in
    let same = joined_is k low high levels d in
    let all : sum_by merges_of (joined ∷ take k levels) ≡ sum_by merges_of (low ∷ high ∷ take k levels) = omega (
      arith,
      sum_by-cons merges_of joined (take k levels),
      sum_by-cons merges_of low (high ∷ take k levels),
      sum_by-cons merges_of high (take k levels),
    ) in
    coarsened_first k (joined ∷ levels) d (omega (arith, below))
    ∙ (λ i. record { nodes = same.0 i; merges = all i; passed = same.1 i })

-- ---- sums

shifted_sum : (f : ℕ → ℕ) (s a n : ℕ) → sum_by (λ m. f (s + m)) (range_with_len a n) ≡ sum_by f (range_with_len (s + a) n)
shifted_sum f s a zero = refl
shifted_sum f s a (suc n) =
    let last : s + (a + n) ≡ s + a + n = omega arith in
    sum_end (λ m. f (s + m)) a n ∙ ap₂ (λ x y. x + y) (shifted_sum f s a n) (ap f last) ∙ sym (sum_end f (s + a) n)

-- ---- the works of both cuttings

module _ (g : Grid) (t : Threshold) (c : Chunking) (leaf : Axes) (k : ℕ) (labels : List ℕ) (levels : List Level)
    (h : IsChunking c) (axes : c.axes ≡ g.axes) (finer : IsFiner c (record { axes = c.axes; leaf = leaf }) k)
    (connected : AreConnected g.axes labels) (is : AreLevels g t (record { axes = c.axes; leaf = leaf }) labels levels) where
  abbrev inner : Chunking
  inner = record { axes = c.axes; leaf = leaf }

  inner_on : AreWorksOn g t inner labels is.works
  inner_on = record {
    cutting = finer.cutting;
    axes = axes;
    connected = connected;
    works_are = record { few = omega (arith, is.works_are.one_each); worked = is.works_are.worked };
  }

  own : (works : List (List Merge)) × AreWorks g t c labels works
  own = works_exist g t c labels

  own_on : AreWorksOn g t c labels own.0
  own_on = record {
    cutting = h;
    axes = axes;
    connected = connected;
    works_are = record { few = omega (arith, own.1.one_each); worked = own.1.worked };
  }

  own_worked : (j : ℕ) → j ≤ last_level c → first_node c (suc j) ≤ length own.0
  own_worked j reached = omega (arith, own.1.one_each, first_node_le c (suc j) (suc (last_level c)) (omega arith))

  inner_worked : (i : ℕ) → i ≤ last_level inner → first_node inner (suc i) ≤ length is.works
  inner_worked i reached = omega (arith, is.works_are.one_each, first_node_le inner (suc i) (suc (last_level inner)) (omega arith))

  inner_reached : (j : ℕ) → j ≤ last_level c → j + k ≤ last_level inner
  inner_reached j reached = omega (arith, finer.levels)

  -- the same pairs are reciprocal in nodes of both levels
  pair_from : (j : ℕ) → j ≤ last_level c → (ls : List ℕ) (a b : ℕ) → IsLevelPair g t inner (j + k) ls a b → IsLevelPair g t c j ls a b
  pair_from j reached ls a b pair =
      let found = from_finer c leaf k h finer j pair.node reached pair.on in
      record {
        node = found.0;
        on = found.2;
        pair = (same_reciprocal c leaf k h finer found.0 (on_level-lt c j found.0 found.2) g t ls a b).0
            (subst (λ n. IsReciprocal g t inner n ls a b) (sym found.1) pair.pair);
      }

  pair_to : (j : ℕ) (ls : List ℕ) (a b : ℕ) → IsLevelPair g t c j ls a b → IsLevelPair g t inner (j + k) ls a b
  pair_to j ls a b pair = record {
    node = within c leaf k h finer pair.node;
    on = on_finer c leaf k h finer j pair.node pair.on;
    pair = (same_reciprocal c leaf k h finer pair.node (on_level-lt c j pair.node pair.on) g t ls a b).1 pair.pair;
  }

  run_alike : (j : ℕ) → j ≤ last_level c → (ls : List ℕ) (merges : List Merge)
      → IsRunOf (IsLevelPair g t inner (j + k)) g ls merges → IsRunOf (IsLevelPair g t c j) g ls merges
  run_alike j reached ls [] run = λ a b pair. run a b (pair_to j ls a b pair)
  run_alike j reached ls (merge ∷ merges) run = (
    record { pair = pair_from j reached ls merge.survivor merge.absorbed run.0.pair; contact_is = run.0.contact_is },
    run_alike j reached (after_merge ls merge) merges run.1,
  )

  -- up to a level both make the same merges, and leave the same labels
  same_outcome : (j : ℕ) → j ≤ last_level c → SameOutcome labels
      (all_merges (take (first_node c (suc j)) own.0)) (all_merges (take (first_node inner (suc (j + k))) is.works))
  same_outcome j reached =
      let mine = all_merges (take (first_node c (suc j)) own.0) in
      let theirs = all_merges (take (first_node inner (suc (j + k))) is.works) in
      one_outcome (IsLevelPair g t c j) g (level_pairs_kept g t c j) labels mine theirs
      (level_run g t c labels own.0 own_on j reached (own_worked j reached))
      (run_alike j reached labels theirs
      (level_run g t inner labels is.works inner_on (j + k) (inner_reached j reached) (inner_worked (j + k) (inner_reached j reached))))

  same_total : (j : ℕ) → j ≤ last_level c → length (all_merges (take (first_node c (suc j)) own.0))
      ≡ length (all_merges (take (first_node inner (suc (j + k))) is.works))
  same_total j reached = sym (length_permutation (all_merges (take (first_node c (suc j)) own.0))
      (all_merges (take (first_node inner (suc (j + k))) is.works)) (same_outcome j reached).same_merges)

  -- ---- residues

  residues : List RegionGraph
  residues = drop (first_node inner k) is.residues

  residue_is : (m : ℕ) → residue_of residues m ≡ residue_of is.residues (within c leaf k h finer m)
  unfolding residues
  residue_is m = get_or-drop (first_node inner k) is.residues m (record { regions = []; edges = [] })

  one_residue_each : length residues ≡ node_count c
  unfolding residues
  one_residue_each =
      omega (arith, length-drop (first_node inner k) is.residues, is.residues_are.one_each, same_nodes c leaf k h finer)

  own_residue : (m : ℕ) → m < node_count c → IsResidue g t c m (labels_after labels own.0 m) (residue_of residues m)
  own_residue m node =
      let j = level_of c m in
      let on = on_level c m node in
      let at = within c leaf k h finer m in
      let there = on_finer c leaf k h finer j m on in
      let below : at < node_count inner = on_level-lt inner (j + k) at there in
      let reached = inner_reached j on.reached in
      let worked = inner_worked (j + k) reached in
      let graph = residue_of is.residues at in
      let last = level_end g t inner labels is.works inner_on (j + k) reached worked in
      let end = level_end g t c labels own.0 own_on j on.reached (own_worked j on.reached) in
      let one = residue_alike g t inner finer.cutting axes at below (labels_after labels is.works at) last
      (after_connected g t inner labels is.works inner_on (j + k) reached worked at there)
      (end_connected g t inner labels is.works inner_on (j + k) reached worked)
      (λ v held. sym (end_agrees g t inner labels is.works inner_on (j + k) reached worked at there v held))
      graph (is.residues_are.residues_are at below) in
      let other = same_residue c leaf k h finer m node g t last graph one in
      let same : end ≡ last = (same_outcome j on.reached).same_labels in
      subst (IsResidue g t c m (labels_after labels own.0 m)) (sym (residue_is m))
      (residue_alike g t c h axes m node end (labels_after labels own.0 m)
      (end_connected g t c labels own.0 own_on j on.reached (own_worked j on.reached))
      (after_connected g t c labels own.0 own_on j on.reached (own_worked j on.reached) m on)
      (end_agrees g t c labels own.0 own_on j on.reached (own_worked j on.reached) m on)
      graph (subst (λ l. IsResidue g t c m l graph) (sym same) other))

  -- ---- counts

  same_passed : (j : ℕ) → sum_by (λ m. length (residue_of is.residues m).regions) (nodes_of inner (j + k))
      ≡ sum_by (λ m. length (residue_of residues m).regions) (nodes_of c j)
  same_passed j =
      let count = λ (m : ℕ). length (residue_of is.residues m).regions in
      (λ i. sum_by count (range_with_len (same_first c leaf k h finer j i) (sym (same_count c leaf k h finer j) i)))
      ∙ sym (shifted_sum count (first_node inner k) (first_node c j) (cells_at c j))
      ∙ (λ i. sum_by (λ m. length (sym (residue_is m) i).regions) (nodes_of c j))

  first_merges : sum_by merges_of (take (suc k) levels) ≡ sum_by (λ m. length (work_of own.0 m)) (nodes_of c 0)
  first_merges =
      let same : length (all_merges (take (first_node inner (suc (0 + k))) is.works))
      ≡ length (all_merges (take (first_node inner (suc k)) is.works)) =
      ap (λ i. length (all_merges (take (first_node inner (suc i)) is.works))) (zero-add k) in
      omega (
        arith,
        merges_up_to g t inner labels levels is (suc k) (omega (arith, finer.levels)),
        same,
        same_total 0 (omega arith),
        by_level c own.0 0 (own_worked 0 (omega arith)),
      )

  later_merges : (j : ℕ) → suc j ≤ last_level c → sum_by (λ m. length (work_of is.works m)) (nodes_of inner (suc j + k))
      ≡ sum_by (λ m. length (work_of own.0 m)) (nodes_of c (suc j))
  later_merges j reached =
      let one : suc (j + k) ≡ suc j + k = omega arith in
      let before : length (all_merges (take (first_node inner (suc (j + k))) is.works))
      ≡ length (all_merges (take (first_node inner (suc j + k)) is.works)) =
      ap (λ i. length (all_merges (take (first_node inner i) is.works))) one in
      omega (
        arith,
        before,
        same_total j (omega arith),
        same_total (suc j) reached,
        by_level c own.0 (suc j) (own_worked (suc j) reached),
        by_level inner is.works (suc j + k) (inner_worked (suc j + k) (inner_reached (suc j) reached)),
      )

  some_levels : k < length levels
  some_levels = omega (arith, is.one_each, finer.levels)

  counted : (j : ℕ) (d : Level) → j ≤ last_level c → get_or (coarsened k levels) j d ≡ level_count c own.0 residues j
  counted zero d reached =
      let here : get_or levels k d ≡ level_count inner is.works is.residues k = is.counted k d (omega (arith, finer.levels)) in
      let nodes : cells_at inner k ≡ cells_at c 0 =
      ap (cells_at inner) (sym (zero-add k)) ∙ sym (same_count c leaf k h finer 0) in
      let passed : sum_by (λ m. length (residue_of is.residues m).regions) (nodes_of inner k)
      ≡ sum_by (λ m. length (residue_of residues m).regions) (nodes_of c 0) =
      ap (λ i. sum_by (λ m. length (residue_of is.residues m).regions) (nodes_of inner i)) (sym (zero-add k)) ∙ same_passed 0 in
      coarsened_first k levels d some_levels
      ∙ (λ i. record {
        nodes = (ap (λ (l : Level). l.nodes) here ∙ nodes) i;
        merges = first_merges i;
        passed = (ap (λ (l : Level). l.passed) here ∙ passed) i;
      })
  counted (suc j) d reached =
      coarsened_later k j levels d some_levels
      ∙ is.counted (suc j + k) d (inner_reached (suc j) reached)
      ∙ (λ i. record {
        nodes = sym (same_count c leaf k h finer (suc j)) i;
        merges = later_merges j reached i;
        passed = same_passed (suc j) i;
      })

  levels_are : AreLevels g t c labels (coarsened k levels)
  levels_are = record {
    works = own.0;
    works_are = own.1;
    residues = residues;
    residues_are = record { one_each = one_residue_each; residues_are = own_residue };
    one_each = omega (arith, coarsened_length k levels some_levels, is.one_each, finer.levels);
    counted = counted;
  }

-- the axes of both are the same
pub finer_levels_coarsen : FinerLevelsCoarsen
finer_levels_coarsen g t c f k labels levels h axes finer connected is =
    subst (λ a. IsFiner c (record { axes = a; leaf = f.leaf }) k → AreLevels g t (record { axes = a; leaf = f.leaf }) labels levels
    → AreLevels g t c labels (coarsened k levels)) (sym finer.axes)
    (λ of_c levels_of. levels_are g t c f.leaf k labels levels h axes of_c connected levels_of) finer is
