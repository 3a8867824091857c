-- The names that the nodes of a level pass on are no more than voxels.
use Rattle.std.proofs.Common.{◌≡◌, ℕ, zero, suc, ◌+◌, ◌<◌, ◌≤◌, ◌==◌, nat_lt, Bool, true, cond, eqb, List, [], ◌∷◌, map, filter, length, get_or, count_by, sum_by, sym, ap, ◌∙◌, eqb-true, eq-eqb, arith}
use Rattle.std.specs.Prelude.{Contains, AllPairs}
use Rattle.std.specs.List.{range_with_len, list_any, IsDistinct}
use Rattle.std.proofs.lemmas.Bool.Decides.{nat_tests}
use Rattle.std.proofs.lemmas.List.{get_or-map, length-map}
use Rattle.std.proofs.lemmas.List.Elements.{Contains-get_or}
use Rattle.std.proofs.lemmas.List.Folds.{Any-from_list_any, list_any_at}
use Rattle.std.proofs.lemmas.List.FromFn.{length-range_with_len, get_or-range_with_len}
use Rattle.std.proofs.lemmas.List.Sums.{sum_by-cons, count_by-le-length, length-filter}
use Rattle.std.proofs.lemmas.Map.Keys.{IsDistinct-from_apart}
use Rattle.std.proofs.lemmas.Map.Made.{length-le_from_is_member}
use Rattle.std.proofs.lemmas.Cmp.{nat_eq_equiv}
use Rattle.agglo_model.specs.Axes.{voxel_count}
use Rattle.agglo_model.specs.Basins.{label_of}
use Rattle.agglo_model.specs.Grid.{Grid}
use Rattle.agglo_model.specs.PairOrder.{Threshold}
use Rattle.agglo_model.specs.Cutting.{Chunking, first_node, last_level, level_of, node_at}
use Rattle.agglo_model.specs.Freezing.{is_held}
use Rattle.agglo_model.specs.RegionGraph.{Region, RegionGraph, IsResidue, residue_of}
use Rattle.agglo_model.proofs.Freezing.{held_voxel, held_node, occurs_at, part_held, part_name}
use Rattle.agglo_model.proofs.Levels.{level_of-is}
use Rattle.agglo_model.proofs.Members.{Contains-map, Contains-filter}
use Rattle.agglo_model.proofs.Tests.{count_le}
use Rattle.chunk_run.specs.Turns.{nodes_among}
use Rattle.chunk_run.proofs.LevelCounts.{size_among}
use Rattle.work_laws.proofs.RangeSums.{sum_end, lesser_sum}
use Rattle.chunk_run.proofs.Numbers.{numbers_differ}

-- ---- distinct names that voxels have

-- names that ascend, each of them the label of a voxel that passes a test, are no more than such voxels
names-le : (held : ℕ → Bool) (n : ℕ) (labels : List ℕ) (regions : List Region) → AllPairs (λ r s. r.name < s.name) regions
    → ((r : Region) → Contains regions r → (v : ℕ) × (v < n) × (held v ≡ true) × (label_of labels v ≡ r.name))
    → length regions ≤ count_by held (range_with_len 0 n)
names-le held n labels regions ascend there =
    let xs = map (λ (r : Region). r.name) regions in
    let vs = filter held (range_with_len 0 n) in
    let ys = map (label_of labels) vs in
    let none : Region = record { name = 0; faces = 0 } in
    let long : length xs ≡ length regions = length-map regions (λ (r : Region). r.name) in
    let distinct : IsDistinct eqb xs = IsDistinct-from_apart eqb xs (λ i j d before below.
    let in_j : j < length regions = omega arith in
    let name_i = get_or-map (λ (r : Region). r.name) regions i none d (omega arith) in
    let name_j = get_or-map (λ (r : Region). r.name) regions j none d in_j in
    numbers_differ (get_or xs i d) (get_or xs j d) (omega (arith, name_i, name_j, ascend i j none before in_j))) in
    let members : (q : ℕ) → list_any (eqb q) xs ≡ true → list_any (eqb q) ys ≡ true = λ q pass.
    let found = Any-from_list_any (eqb q) xs pass in
    let inside : found.0 < length regions = omega (arith, found.2) in
    let r = get_or regions found.0 none in
    let voxel = there r (Contains-get_or regions found.0 none inside) in
    let len = length-range_with_len 0 n in
    let at : Contains (range_with_len 0 n) voxel.0 =
    (voxel.0, omega arith, get_or-range_with_len 0 n voxel.0 voxel.0 voxel.1 ∙ omega arith) in
    let own : Contains ys (label_of labels voxel.0) =
    Contains-map (label_of labels) vs voxel.0 (Contains-filter held (range_with_len 0 n) voxel.0 at voxel.2) in
    let name : q ≡ label_of labels voxel.0 =
    eqb-true q found.1 found.4 ∙ sym found.3 ∙ get_or-map (λ (r : Region). r.name) regions found.0 none found.1 inside
    ∙ sym voxel.3 in
    list_any_at (eqb q) ys own.0 (label_of labels voxel.0) own.1
    (eq-eqb q (get_or ys own.0 (label_of labels voxel.0)) (name ∙ sym own.2)) in
    let few = length-le_from_is_member nat_eq_equiv xs ys distinct members in
    let voxels : length ys ≡ count_by held (range_with_len 0 n) = length-map vs (label_of labels) ∙ length-filter held (range_with_len 0 n) in
    omega arith

-- a residue has no more names than its cell has voxels
residue-le : (g : Grid) (t : Threshold) (c : Chunking) (m : ℕ) (labels : List ℕ) (graph : RegionGraph)
    → IsResidue g t c m labels graph
    → length graph.regions ≤ count_by (is_held c m) (range_with_len 0 (voxel_count c.axes))
residue-le g t c m labels graph is =
    names-le (is_held c m) (voxel_count c.axes) labels graph.regions is.graph_is.regions_ascend (λ r inside.
    let own = (is.regions r).0 inside in
    let voxel = (occurs_at c m labels r.name).0 own.1 in
    let held = part_held c m labels r.name voxel.0 voxel.1 in
    (voxel.0, held_voxel c m voxel.0 held, held, part_name c m labels r.name voxel.0 voxel.1))

-- ---- voxels by the nodes of a level that hold them

one_or_less : (x n : ℕ) → cond (nat_lt x n) 1 0 + cond (x == n) 1 0 ≤ cond (nat_lt x (suc n)) 1 0
one_or_less x n = grind (arith, nat_tests)

next_value : (f : ℕ → ℕ) (n : ℕ) (vs : List ℕ)
    → count_by (λ v. nat_lt (f v) n) vs + count_by (λ v. f v == n) vs ≤ count_by (λ v. nat_lt (f v) (suc n)) vs
next_value f n [] = omega arith
next_value f n (v ∷ vs) =
    let rest = next_value f n vs in
    let now = one_or_less (f v) n in
    let below = sum_by-cons (λ v. cond (nat_lt (f v) n) 1 0) v vs in
    let at = sum_by-cons (λ v. cond (f v == n) 1 0) v vs in
    let next = sum_by-cons (λ v. cond (nat_lt (f v) (suc n)) 1 0) v vs in
    omega arith

-- each voxel has one value, so those with the values of a range are no more than all
values-le : (f : ℕ → ℕ) (vs : List ℕ) (a n : ℕ)
    → sum_by (λ k. count_by (λ v. f v == k) vs) (range_with_len a n) ≤ count_by (λ v. nat_lt (f v) (a + n)) vs
values-le f vs a zero = omega arith
values-le f vs a (suc n) =
    let rest = values-le f vs a n in
    let end = sum_end (λ k. count_by (λ v. f v == k) vs) a n in
    let more = next_value f (a + n) vs in
    let next : suc (a + n) ≡ a + suc n = omega arith in
    let same = ap (λ k. count_by (λ v. nat_lt (f v) k) vs) next in
    omega arith

-- the names that the nodes of level k among the first m pass on
pub passed-le : (g : Grid) (t : Threshold) (c : Chunking) (m k : ℕ) (labels : ℕ → List ℕ) (residues : List RegionGraph)
    → k ≤ last_level c → ((n : ℕ) → n < m → IsResidue g t c n (labels n) (residue_of residues n))
    → sum_by (λ n. length (residue_of residues n).regions) (nodes_among c m k) ≤ voxel_count c.axes
passed-le g t c m k labels residues reached are =
    let vs = range_with_len 0 (voxel_count c.axes) in
    let a = first_node c k in
    let size = size_among c m k in
    let each = lesser_sum (λ n. length (residue_of residues n).regions) (λ n. count_by (λ v. node_at c k v == n) vs) a size
    (λ n from to.
    let level : level_of c n ≡ k = level_of-is c k n (record { reached = reached; from = from; to = omega arith }) in
    let own = residue-le g t c n (labels n) (residue_of residues n) (are n (omega arith)) in
    let here = count_le (λ v. node_at c k v == n) (is_held c n) (λ v held.
    eq-eqb (node_at c k v) n (ap (λ j. node_at c j v) (sym level) ∙ held_node c n v held)) vs in
    omega arith) in
    let all = values-le (node_at c k) vs a size in
    let most = count_by-le-length (λ v. nat_lt (node_at c k v) (a + size)) vs in
    omega (arith, each, all, most, length-range_with_len 0 (voxel_count c.axes))
