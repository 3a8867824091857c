-- The contacts of graph edges have no more edges of the grid than there are to be counted.
use Rattle.std.proofs.Common.{◌≡◌, inl, inr, ℕ, suc, ◌+◌, ◌<◌, ◌≤◌, Bool, true, false, ◌&&◌, ◌||◌, List, [], ◌∷◌, ◌++◌, length, get_or, count_by, refl, ap, ◌∙◌, subst, arith}
use Rattle.std.specs.Prelude.{AllPairs, Contains}
use Rattle.std.proofs.lemmas.Bool.{and_parts}
use Rattle.std.proofs.lemmas.Bool.Decides.{nat_tests}
use Rattle.std.proofs.lemmas.List.Elements.{Contains-get_or}
use Rattle.std.proofs.lemmas.List.FromFn.{length-range_with_len}
use Rattle.std.proofs.lemmas.List.Sums.{sum_by-append, count_by-le-length}
use Rattle.std.proofs.Math.Bool.{and-or_distrib_left}
use mathlib.Core.Path.{fun_ext}
use Rattle.agglo_model.specs.Axes.{IsWithinLimits, edge_count, is_edge}
use Rattle.agglo_model.specs.Grid.{Grid}
use Rattle.agglo_model.specs.PairOrder.{most_edges}
use Rattle.agglo_model.specs.Contacts.{are, edge_numbers, joins, lower_label, higher_label, is_contact_edge, total}
use Rattle.agglo_model.specs.Cutting.{Chunking, IsChunking, node_count, level_of, child_count, child}
use Rattle.agglo_model.specs.Freezing.{is_inside}
use Rattle.agglo_model.specs.Work.{IsPassed}
use Rattle.agglo_model.specs.RegionGraph.{GraphEdge, RegionGraph, IsGraphOfNames, StandsBefore, grid_edges, residue_of}
use Rattle.agglo_model.specs.Joining.{edges_inside, is_crossing, kept_edges}
use Rattle.agglo_model.proofs.Tests.{both_apart}
use Rattle.region_graph.specs.Lists.{count_of}
use Rattle.work_laws.proofs.ChildEdges.{inside_from, children_apart, crossing_apart}
use Rattle.parent_join.specs.Kids.{FitsInto, ResiduesFit}
use Rattle.parent_join.proofs.EdgeCounts.{count-both, apart_counts}

-- ---- edges between different names

total-count : (g : Grid) (test : ℕ → Bool) → (total g test).count ≡ count_by test (edge_numbers g)
unfolding total
total-count g test = refl

-- the ends of one edge of the grid are two names, in one order
one_pair : (p q a b d f : ℕ) → a < b → d < f → are p q a b ≡ true → are p q d f ≡ true → (a ≡ d) × (b ≡ f)
one_pair p q a b d f ab df one other = grind (arith, nat_tests)

joins-apart : (g : Grid) (labels : List ℕ) (e f : GraphEdge) → e.a < e.b → f.a < f.b → StandsBefore e f → (k : ℕ)
    → joins g labels e.a e.b k ≡ true → joins g labels f.a f.b k ≡ true → ⊥
joins-apart g labels e f order_e order_f before k one other =
    let p = lower_label g labels k in
    let q = higher_label g labels k in
    let here = and_parts (is_contact_edge g labels k) (are p q e.a e.b) one in
    let there = and_parts (is_contact_edge g labels k) (are p q f.a f.b) other in
    differs before (one_pair p q e.a e.b f.a f.b order_e order_f here.1 there.1)
  where
    differs : StandsBefore e f → (e.a ≡ f.a) × (e.b ≡ f.b) → ⊥
    differs (inl less) (same_a, same_b) = omega arith
    differs (inr (same, less)) (same_a, same_b) = omega arith

joins-edge : (i d a t : Bool) → ((i && d) && a && t) ≡ ((i && d) && a && (i && t))
joins-edge true d a t = refl
joins-edge false d a t = refl

-- distinct pairs of names have distinct edges of the grid
pub pairs_count : (g : Grid) (labels : List ℕ) (test : ℕ → Bool) (es : List GraphEdge) → AllPairs StandsBefore es
    → ((e : GraphEdge) → Contains es e → e.a < e.b)
    → ((e : GraphEdge) → Contains es e → e.contact.count ≤ (total g (λ k. joins g labels e.a e.b k && test k)).count)
    → count_of es ≤ count_by (λ k. is_edge g.axes k && test k) (edge_numbers g)
pairs_count g labels test es ascend ordered each =
    apart_counts (λ (e : GraphEdge). joins g labels e.a e.b) (λ (e : GraphEdge). e.contact.count) (edge_numbers g) es
    (λ k. is_edge g.axes k && test k)
    (λ i j d before below.
    joins-apart g labels (get_or es i d) (get_or es j d) (ordered (get_or es i d) (Contains-get_or es i d (omega arith)))
    (ordered (get_or es j d) (Contains-get_or es j d below)) (ascend i j d before below))
    (λ e inside. subst (λ n. e.contact.count ≤ n)
    (total-count g (λ k. joins g labels e.a e.b k && test k)
    ∙ ap (λ p. count_by p (edge_numbers g)) (fun_ext (λ k. joins-edge (is_edge g.axes k) _ _ (test k)))) (each e inside))

-- ---- graphs of names

pub names_fit : (Keeps : ℕ → Type 0) (g : Grid) (c : Chunking) (m : ℕ) (labels : List ℕ) (graph : RegionGraph)
    → IsGraphOfNames Keeps g c m labels graph → FitsInto g c m graph
names_fit Keeps g c m labels graph is = record {
  few = pairs_count g labels (is_inside c m) graph.edges is.graph_is.edges_ascend is.graph_is.ordered (λ e inside.
      let contact = (is.edges e).0 inside in
      let same = ap (λ d. d.count) contact.4 in omega arith);
}

pub residues_fit : ResiduesFit
residues_fit g t c m labels graph is = names_fit (IsPassed g t c m labels) g c m labels graph is

-- ---- all children, and the edges between them

split_count : (g : Grid) (p q : ℕ → Bool) → ((k : ℕ) → (p k && q k) ≡ false)
    → count_by (λ k. is_edge g.axes k && (p k || q k)) (edge_numbers g)
    ≡ count_by (λ k. is_edge g.axes k && p k) (edge_numbers g) + count_by (λ k. is_edge g.axes k && q k) (edge_numbers g)
split_count g p q apart =
    ap (λ t. count_by t (edge_numbers g)) (fun_ext (λ k. and-or_distrib_left (is_edge g.axes k) (p k) (q k)))
    ∙ count-both (λ k. is_edge g.axes k && p k) (λ k. is_edge g.axes k && q k)
    (λ k. both_apart (is_edge g.axes k) (p k) (q k) (apart k)) (edge_numbers g)

module _ (c : Chunking) (h : IsChunking c) (m : ℕ) (node : m < node_count c) (inner : 0 < level_of c m) (g : Grid) where
  kids_count : (i : ℕ) (kids : List RegionGraph) → i + length kids ≤ child_count c m
      → ((k : ℕ) → k < length kids → grid_edges (residue_of kids k) ≤ edges_inside g c (child c m (i + k)))
      → count_of (kept_edges kids) ≤ count_by (λ e. is_edge g.axes e && inside_from c m i (length kids) e) (edge_numbers g)
  kids_count i [] few each = omega arith
  kids_count i (kid ∷ kids) few each =
      let here : i + 0 ≡ i = omega arith in
      let first : grid_edges kid ≤ edges_inside g c (child c m i) =
      subst (λ n. grid_edges kid ≤ edges_inside g c (child c m n)) here (each 0 (omega arith)) in
      let rest = kids_count (i + 1) kids (omega arith) (λ k below.
      let next : i + suc k ≡ i + 1 + k = omega arith in
      subst (λ n. grid_edges (residue_of kids k) ≤ edges_inside g c (child c m n)) next (each (suc k) (omega arith))) in
      let sum = sum_by-append (λ (e : GraphEdge). e.contact.count) kid.edges (kept_edges kids) in
      let split = split_count g (is_inside c (child c m i)) (inside_from c m (i + 1) (length kids))
      (λ e. children_apart c h m node inner i (length kids) e (omega arith)) in
      omega (arith, first, rest, sum, split)

  -- the edges of all kids and those that cross from child to child are no more than the largest volume has
  pub all_count : (kids : List RegionGraph) (across : List GraphEdge) → IsWithinLimits g.axes → length kids ≡ child_count c m
      → ((k : ℕ) → k < length kids → grid_edges (residue_of kids k) ≤ edges_inside g c (child c m k))
      → count_of across ≤ count_by (λ e. is_edge g.axes e && is_crossing c m e) (edge_numbers g)
      → count_of (kept_edges kids ++ across) ≤ most_edges
  all_count kids across limits one_each few crossing =
      let inside = kids_count 0 kids (omega arith) (λ k below.
      let same : k ≡ 0 + k = omega arith in
      subst (λ n. grid_edges (residue_of kids k) ≤ edges_inside g c (child c m n)) same (few k below)) in
      let inside_all : count_of (kept_edges kids) ≤ count_by (λ e. is_edge g.axes e && inside_from c m 0 (child_count c m) e) (edge_numbers g) =
      subst (λ n. count_of (kept_edges kids) ≤ count_by (λ e. is_edge g.axes e && inside_from c m 0 n e) (edge_numbers g)) one_each inside in
      let sum = sum_by-append (λ (e : GraphEdge). e.contact.count) (kept_edges kids) across in
      let split = split_count g (inside_from c m 0 (child_count c m)) (is_crossing c m) (crossing_apart c h m node inner) in
      let most = count_by-le-length (λ k. is_edge g.axes k && (inside_from c m 0 (child_count c m) k || is_crossing c m k)) (edge_numbers g) in
      let len = length-range_with_len 0 (edge_count g.axes) in
      let voxels = limits.most_voxels in
      omega (arith, inside_all, crossing, sum, split, most, len, voxels)
