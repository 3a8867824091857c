-- The nodes of a cutting among those of a finer one: they have the same cells, and so the same names, faces and pairs.
use Rattle.std.proofs.Common.{◌≡◌, ◌⊎◌, ◌↔◌, inl, inr, ℕ, zero, suc, ◌+◌, ◌*◌, ◌-◌, ◌/◌, ◌^◌, ◌<◌, ◌≤◌, ◌==◌, min, nat_lt, Bool, ◌&&◌, List, refl, sym, ap, ◌∙◌, subst, zero-add, arith}
use Rattle.std.specs.Int.{div_ceil}
use Rattle.std.specs.List.{list_any, range_with_len}
use Rattle.std.specs.Cmp.{both_ways}
use Rattle.std.proofs.lemmas.Bool.{ltb-true, eqb-true, eq-eqb}
use Rattle.std.proofs.lemmas.Nat.{pow-add, pow_pos}
use Rattle.std.proofs.Math.Nat.{le-mul_of_pos_right}
use mathlib.Core.Path.{fun_ext}
use Rattle.agglo_model.specs.Axes.{Axes, voxel_count, voxel_at, coordinate, lower_end, higher_end}
use Rattle.agglo_model.specs.Basins.{label_of}
use Rattle.agglo_model.specs.Grid.{Grid}
use Rattle.agglo_model.specs.PairOrder.{Threshold}
use Rattle.agglo_model.specs.Contacts.{joins, total}
use Rattle.agglo_model.specs.Cutting.{Chunking, IsChunking, length_on, cell_length, cells_on, level_grid, cells_at, last_level, first_node, node_count, level_of, cell_place, cell_low, cell_high, node_at}
use Rattle.agglo_model.specs.Finer.{AreCellsOn, IsFiner}
use Rattle.agglo_model.specs.Freezing.{is_held, occurs_in, touches_low, touches_high, touched_faces, IsFrozen}
use Rattle.agglo_model.specs.RegionGraph.{RegionGraph, IsGraphOfNames, IsResidue, between_inside}
use Rattle.agglo_model.specs.Work.{IsFree, IsReciprocal, IsPassed}
use Rattle.agglo_model.proofs.CellBoxes.{quotient_from_range}
use Rattle.agglo_model.proofs.Freezing.{frozen_touches}
use Rattle.agglo_model.proofs.Levels.{IsOnLevel, on_level, level_of-is, cell_length_pos, axis_pos}
use Rattle.agglo_model.proofs.NodeCells.{node_place}
use Rattle.agglo_model.proofs.Places.{place-voxel}
use Rattle.agglo_model.proofs.Rounding.{div_ceil_one}
use Rattle.agglo_model.proofs.Tests.{same_where}
use Rattle.work_laws.proofs.AlikeCells.{same_names}
use Rattle.work_laws.proofs.FaceBits.{same_on_axes}

-- ---- two lengths of cells on an axis of n voxels, which are the same, or both span it

abbrev CutAlike : ℕ → ℕ → ℕ → Type 0
CutAlike n l r = (l ≡ r) ⊎ ((n ≤ l) × (n ≤ r))

alike_quotients : (n l r x : ℕ) → 0 < l → 0 < r → x < n → CutAlike n l r → x / l ≡ x / r
alike_quotients n l r x some_l some_r below (inl same) = ap (λ k. x / k) same
alike_quotients n l r x some_l some_r below (inr spans) =
    quotient_from_range x n l 0 some_l (omega arith) (omega arith)
    ∙ sym (quotient_from_range x n r 0 some_r (omega arith) (omega arith))

alike_counts : (n l r : ℕ) → 0 < n → CutAlike n l r → div_ceil n l ≡ div_ceil n r
alike_counts n l r some (inl same) = ap (div_ceil n) same
alike_counts n l r some (inr spans) = div_ceil_one n l some spans.0 ∙ sym (div_ceil_one n r some spans.1)

-- a cell at the same place begins and ends alike
alike_ends : (n l r place : ℕ) → 0 < n → place < div_ceil n l → CutAlike n l r
    → (place * l ≡ place * r) × (min ((place + 1) * l) n ≡ min ((place + 1) * r) n)
alike_ends n l r place some below (inl same) =
    (ap (λ k. place * k) same, ap (λ k. min ((place + 1) * k) n) same)
alike_ends n l r place some below (inr spans) =
    let first : place ≡ 0 = omega (arith, below, div_ceil_one n l some spans.0) in
    let low : (p : ℕ) → p ≡ 0 → p * l ≡ p * r = λ p is. ap (λ q. q * l) is ∙ omega arith ∙ ap (λ q. q * r) (sym is) in
    let high : (p : ℕ) → p ≡ 0 → min ((p + 1) * l) n ≡ min ((p + 1) * r) n =
    λ p is. ap (λ q. min ((q + 1) * l) n) is ∙ omega arith ∙ ap (λ q. min ((q + 1) * r) n) (sym is) in
    (low place first, high place first)

-- the cells of higher levels are alike too
longer_alike : (n c f j k : ℕ) → (c ≡ f * 2 ^ k) ⊎ ((n ≤ c) × (n ≤ f * 2 ^ k)) → CutAlike n (c * 2 ^ j) (f * 2 ^ (j + k))
longer_alike n c f j k on = longer on
  where
    raised : f * 2 ^ k * 2 ^ j ≡ f * 2 ^ (j + k)
    raised = let times : f * 2 ^ k * 2 ^ j ≡ f * (2 ^ j * 2 ^ k) = omega arith in
        times ∙ ap (λ p. f * p) (sym (pow-add 2 j k))

    longer : (c ≡ f * 2 ^ k) ⊎ ((n ≤ c) × (n ≤ f * 2 ^ k)) → CutAlike n (c * 2 ^ j) (f * 2 ^ (j + k))
    longer (inl same) = inl (ap (λ l. l * 2 ^ j) same ∙ raised)
    longer (inr spans) = inr (
      omega (arith, spans.0, le-mul_of_pos_right c (pow_pos j)),
      omega (arith, spans.1, le-mul_of_pos_right (f * 2 ^ k) (pow_pos j), raised),
    )

shifted_test : (s a b : ℕ) → (s + a == s + b) ≡ (a == b)
shifted_test s a b = both_ways (s + a == s + b) (a == b)
    (λ same. let is = eqb-true (s + a) (s + b) same in eq-eqb a b (omega arith))
    (λ same. ap (λ x. s + a == s + x) (sym (eqb-true a b same)) ∙ eq-eqb (s + a) (s + a) refl)

-- ---- names, faces and contacts by the voxels of a cell

abbrev low_face : Axes → List ℕ → ℕ → ℕ → (ℕ → Bool) → ℕ → Bool
low_face a labels x axis held low = nat_lt 0 low
    && list_any (λ v. (held v && label_of labels v == x) && coordinate a v axis == low) (range_with_len 0 (voxel_count a))

abbrev high_face : Axes → List ℕ → ℕ → ℕ → (ℕ → Bool) → ℕ → Bool
high_face a labels x axis held high = nat_lt high (length_on a axis)
    && list_any (λ v. (held v && label_of labels v == x) && coordinate a v axis + 1 == high) (range_with_len 0 (voxel_count a))

module _ (c : Chunking) (leaf : Axes) (k : ℕ) (h : IsChunking c) (finer : IsFiner c (record { axes = c.axes; leaf = leaf }) k) where
  abbrev pub fine : Chunking
  fine = record { axes = c.axes; leaf = leaf }

  -- the number of node m among the nodes of the finer cutting
  abbrev pub within : ℕ → ℕ
  within m = first_node fine k + m

  -- ---- levels

  level_alike : (j axis : ℕ) → AreCellsOn c fine k axis
      → CutAlike (length_on c.axes axis) (cell_length c j axis) (cell_length fine (j + k) axis)
  level_alike j axis on = longer_alike (length_on c.axes axis) (length_on c.leaf axis) (length_on leaf axis) j k on

  same_cells : (j axis : ℕ) → AreCellsOn c fine k axis → cells_on c j axis ≡ cells_on fine (j + k) axis
  unfolding cells_on
  same_cells j axis on =
      alike_counts (length_on c.axes axis) (cell_length c j axis) (cell_length fine (j + k) axis) (axis_pos c h axis)
      (level_alike j axis on)

  same_grid : (j : ℕ) → level_grid c j ≡ level_grid fine (j + k)
  same_grid j = λ i. record {
    nx = same_cells j 0 finer.on_x i;
    ny = same_cells j 1 finer.on_y i;
    nz = same_cells j 2 finer.on_z i;
  }

  pub same_count : (j : ℕ) → cells_at c j ≡ cells_at fine (j + k)
  same_count j = ap voxel_count (same_grid j)

  pub same_first : (j : ℕ) → first_node fine (j + k) ≡ within (first_node c j)
  same_first zero =
      let here : first_node fine (0 + k) ≡ first_node fine k = ap (first_node fine) (zero-add k) in
      omega (arith, here)
  same_first (suc j) =
      let next : suc j + k ≡ suc (j + k) = omega arith in
      let here : first_node fine (suc j + k) ≡ first_node fine (suc (j + k)) = ap (first_node fine) next in
      omega (arith, here, same_first j, same_count j)

  pub first_next : (j : ℕ) → first_node fine (suc (j + k)) ≡ within (first_node c (suc j))
  first_next j =
      let next : suc j + k ≡ suc (j + k) = omega arith in
      ap (first_node fine) (sym next) ∙ same_first (suc j)

  pub same_nodes : node_count fine ≡ within (node_count c)
  same_nodes = ap (λ j. first_node fine (suc j)) finer.levels ∙ first_next (last_level c)

  pub on_finer : (j m : ℕ) → IsOnLevel c j m → IsOnLevel fine (j + k) (within m)
  on_finer j m on = record {
    reached = omega (arith, on.reached, finer.levels);
    from = omega (arith, on.from, same_first j);
    to = omega (arith, on.to, first_next j);
  }

  pub from_finer : (j n : ℕ) → j ≤ last_level c → IsOnLevel fine (j + k) n → (m : ℕ) × (within m ≡ n) × IsOnLevel c j m
  from_finer j n reached on =
      let first = same_first j in
      let next = first_next j in
      let from = on.from in
      let to = on.to in
      let there : within (n - first_node fine k) ≡ n = omega arith in
      (n - first_node fine k, there, record { reached = reached; from = omega arith; to = omega arith })

  -- ---- cells

  module _ (m : ℕ) (node : m < node_count c) where
    same_level : level_of fine (within m) ≡ level_of c m + k
    same_level = level_of-is fine (level_of c m + k) (within m) (on_finer (level_of c m) m (on_level c m node))

    same_place : (axis : ℕ) → cell_place fine (within m) axis ≡ cell_place c m axis
    same_place axis =
        let grid : level_grid fine (level_of fine (within m)) ≡ level_grid c (level_of c m) =
        ap (level_grid fine) same_level ∙ sym (same_grid (level_of c m)) in
        let first : first_node fine (level_of fine (within m)) ≡ within (first_node c (level_of c m)) =
        ap (first_node fine) same_level ∙ same_first (level_of c m) in
        let index : within m - first_node fine (level_of fine (within m)) ≡ m - first_node c (level_of c m) =
        ap (λ f. within m - f) first ∙ omega arith in
        λ i. coordinate (grid i) (index i) axis

    same_quotient : (axis x : ℕ) → x < length_on c.axes axis → AreCellsOn c fine k axis
        → x / cell_length fine (level_of c m + k) axis ≡ x / cell_length c (level_of c m) axis
    same_quotient axis x below on = sym (alike_quotients (length_on c.axes axis) (cell_length c (level_of c m) axis)
        (cell_length fine (level_of c m + k) axis) x (cell_length_pos c h (level_of c m) axis)
        (cell_length_pos fine finer.cutting (level_of c m + k) axis) below (level_alike (level_of c m) axis on))

    same_node : (v : ℕ) → v < voxel_count c.axes → node_at fine (level_of fine (within m)) v ≡ within (node_at c (level_of c m) v)
    same_node v below =
        let j = level_of c m in
        let place = place-voxel c.axes v h.limits below in
        let x = same_quotient 0 (coordinate c.axes v 0) place.in_x finer.on_x in
        let y = same_quotient 1 (coordinate c.axes v 1) place.in_y finer.on_y in
        let z = same_quotient 2 (coordinate c.axes v 2) place.in_z finer.on_z in
        let index : voxel_at (level_grid fine (j + k)) (coordinate c.axes v 0 / cell_length fine (j + k) 0)
        (coordinate c.axes v 1 / cell_length fine (j + k) 1) (coordinate c.axes v 2 / cell_length fine (j + k) 2)
        ≡ voxel_at (level_grid c j) (coordinate c.axes v 0 / cell_length c j 0)
        (coordinate c.axes v 1 / cell_length c j 1) (coordinate c.axes v 2 / cell_length c j 2) =
        λ i. voxel_at (sym (same_grid j) i) (x i) (y i) (z i) in
        ap (λ l. node_at fine l v) same_level ∙ omega (arith, index, same_first j)

    same_held : (v : ℕ) → is_held fine (within m) v ≡ is_held c m v
    same_held v = same_where (nat_lt v (voxel_count c.axes)) (node_at fine (level_of fine (within m)) v == within m)
        (node_at c (level_of c m) v == m)
        (λ inside. ap (λ n. n == within m) (same_node v (ltb-true v (voxel_count c.axes) inside))
        ∙ shifted_test (first_node fine k) (node_at c (level_of c m) v) m)

    held : is_held fine (within m) ≡ is_held c m
    held = fun_ext same_held

    -- ---- faces

    same_ends : (axis : ℕ) → cell_place c m axis < cells_on c (level_of c m) axis → AreCellsOn c fine k axis
        → (cell_low fine (within m) axis ≡ cell_low c m axis) × (cell_high fine (within m) axis ≡ cell_high c m axis)
    unfolding cells_on
    same_ends axis below on =
        let ends = alike_ends (length_on c.axes axis) (cell_length c (level_of c m) axis)
        (cell_length fine (level_of c m + k) axis) (cell_place c m axis) (axis_pos c h axis) below
        (level_alike (level_of c m) axis on) in (
          (λ i. same_place axis i * cell_length fine (same_level i) axis) ∙ sym ends.0,
          (λ i. min ((same_place axis i + 1) * cell_length fine (same_level i) axis) (length_on c.axes axis)) ∙ sym ends.1,
        )

    pub same_touched : (labels : List ℕ) (x : ℕ) → touched_faces fine (within m) labels x ≡ touched_faces c m labels x
    same_touched labels x =
        let place = node_place c h m node in
        let ends_x = same_ends 0 place.in_x finer.on_x in
        let ends_y = same_ends 1 place.in_y finer.on_y in
        let ends_z = same_ends 2 place.in_z finer.on_z in
        same_on_axes (touches_low fine (within m) labels x) (touches_high fine (within m) labels x)
        (touches_low c m labels x) (touches_high c m labels x)
        (λ i. low_face c.axes labels x 0 (held i) (ends_x.0 i))
        (λ i. high_face c.axes labels x 0 (held i) (ends_x.1 i))
        (λ i. low_face c.axes labels x 1 (held i) (ends_y.0 i))
        (λ i. high_face c.axes labels x 1 (held i) (ends_y.1 i))
        (λ i. low_face c.axes labels x 2 (held i) (ends_z.0 i))
        (λ i. high_face c.axes labels x 2 (held i) (ends_z.1 i))

    -- ---- names

    same_occurs : (labels : List ℕ) (x : ℕ) → occurs_in fine (within m) labels x ≡ occurs_in c m labels x
    same_occurs labels x = λ i. list_any (λ v. held i v && label_of labels v == x) (range_with_len 0 (voxel_count c.axes))

    same_frozen : (labels : List ℕ) (x : ℕ) → IsFrozen fine (within m) labels x ↔ IsFrozen c m labels x
    same_frozen labels x =
        let faces = same_touched labels x in (
          (λ frozen. (frozen_touches c m labels x).1 (λ none.
              (frozen_touches fine (within m) labels x).0 frozen (faces ∙ none))),
          (λ frozen. (frozen_touches fine (within m) labels x).1 (λ none.
              (frozen_touches c m labels x).0 frozen (sym faces ∙ none))),
        )

    same_free : (labels : List ℕ) (x : ℕ) → IsFree fine (within m) labels x ↔ IsFree c m labels x
    same_free labels x = (
      (λ free. record {
        occurs = sym (same_occurs labels x) ∙ free.occurs;
        unfrozen = λ frozen. free.unfrozen ((same_frozen labels x).1 frozen);
      }),
      (λ free. record {
        occurs = same_occurs labels x ∙ free.occurs;
        unfrozen = λ frozen. free.unfrozen ((same_frozen labels x).0 frozen);
      }),
    )

    pub same_reciprocal : (g : Grid) (t : Threshold) (labels : List ℕ) (a b : ℕ)
        → IsReciprocal g t fine (within m) labels a b ↔ IsReciprocal g t c m labels a b
    same_reciprocal g t labels a b = (
      (λ pair. record {
        pair = pair.pair;
        a_free = (same_free labels a).0 pair.a_free;
        b_free = (same_free labels b).0 pair.b_free;
      }),
      (λ pair. record {
        pair = pair.pair;
        a_free = (same_free labels a).1 pair.a_free;
        b_free = (same_free labels b).1 pair.b_free;
      }),
    )

    passed_from : (g : Grid) (t : Threshold) (labels : List ℕ) (x : ℕ) → IsPassed g t fine (within m) labels x
        → IsPassed g t c m labels x
    passed_from g t labels x passed = record {
      name = passed.name;
      occurs = sym (same_occurs labels x) ∙ passed.occurs;
      open_ = elim passed.open_ [
        | inl frozen ↦ inl ((same_frozen labels x).0 frozen)
        | inr first ↦ inr first
      ];
    }

    passed_to : (g : Grid) (t : Threshold) (labels : List ℕ) (x : ℕ) → IsPassed g t c m labels x
        → IsPassed g t fine (within m) labels x
    passed_to g t labels x passed = record {
      name = passed.name;
      occurs = same_occurs labels x ∙ passed.occurs;
      open_ = elim passed.open_ [
        | inl frozen ↦ inl ((same_frozen labels x).1 frozen)
        | inr first ↦ inr first
      ];
    }

    -- ---- graphs

    same_between : (g : Grid) (labels : List ℕ) (x y : ℕ) → between_inside g fine (within m) labels x y ≡ between_inside g c m labels x y
    same_between g labels x y =
        λ i. total g (λ e. joins g labels x y e && (held i (lower_end c.axes e) && held i (higher_end e)))

    same_graph : (Keeps : ℕ → Type 0) (g : Grid) (labels : List ℕ) (graph : RegionGraph)
        → IsGraphOfNames Keeps g fine (within m) labels graph → IsGraphOfNames Keeps g c m labels graph
    same_graph Keeps g labels graph is = record {
      graph_is = is.graph_is;
      regions = λ r. (
        (λ inside.
            let was = (is.regions r).0 inside in
            (was.0, sym (same_occurs labels r.name) ∙ was.1, was.2, was.3 ∙ same_touched labels r.name)),
        (λ now. (is.regions r).1
            (now.0, same_occurs labels r.name ∙ now.1, now.2, now.3 ∙ sym (same_touched labels r.name))),
      );
      edges = λ e. (
        (λ inside.
            let was = (is.edges e).0 inside in
            let same = same_between g labels e.a e.b in
            (was.0, was.1, was.2, subst (λ d. 0 < d.count) same was.3, was.4 ∙ same)),
        (λ now.
            let same = sym (same_between g labels e.a e.b) in
            (is.edges e).1 (now.0, now.1, now.2, subst (λ d. 0 < d.count) same now.3, now.4 ∙ same)),
      );
    }

    -- the residue of a node of the finer cutting is that of the node with the same cell
    pub same_residue : (g : Grid) (t : Threshold) (labels : List ℕ) (graph : RegionGraph)
        → IsResidue g t fine (within m) labels graph → IsResidue g t c m labels graph
    same_residue g t labels graph is =
        same_names (IsPassed g t fine (within m) labels) (IsPassed g t c m labels)
        (passed_from g t labels) (passed_to g t labels) g c m labels graph
        (same_graph (IsPassed g t fine (within m) labels) g labels graph is)
