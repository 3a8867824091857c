-- The edges inside a node's cell: those inside the cell of one child, and those across a face between two.
use Rattle.std.proofs.Common.{◌≡◌, ◌⊎◌, inl, inr, ℕ, zero, suc, ◌+◌, ◌-◌, ◌<◌, ◌≤◌, ◌==◌, Bool, true, false, not, ◌&&◌, ◌||◌, sym, ◌∙◌, subst, arith}
use Rattle.std.proofs.lemmas.Bool.{cases_Bool, cases_lt, and_parts, and_from, eqb-true, eq-eqb, false≢true, or_cases, or_left, or_right, not-true, not_from_false}
use Rattle.std.specs.Cmp.{both_ways}
use Rattle.agglo_model.specs.Axes.{lower_end, higher_end}
use Rattle.agglo_model.specs.Cutting.{Chunking, IsChunking, node_count, level_of, node_at, child_count, child}
use Rattle.agglo_model.specs.Freezing.{is_held, is_inside}
use Rattle.agglo_model.specs.Joining.{is_crossing}
use Rattle.agglo_model.proofs.Tests.{not_both}
use Rattle.work_laws.proofs.Children.{child_of, child_holds, child_node, child_within, one_child}

-- the edge lies inside the cell of one of n children, from number i on
abbrev pub inside_from : Chunking → ℕ → ℕ → ℕ → ℕ → Bool
inside_from c m i zero e = false
inside_from c m i (suc n) e = is_inside c (child c m i) e || inside_from c m (i + 1) n e

one_inside : (c : Chunking) (m e i n : ℕ) → inside_from c m i n e ≡ true
    → (j : ℕ) × (i ≤ j) × (j < i + n) × (is_inside c (child c m j) e ≡ true)
one_inside c m e i zero pass = absurd (false≢true pass)
one_inside c m e i (suc n) pass = elim (or_cases (is_inside c (child c m i) e) (inside_from c m (i + 1) n e) pass) [
  | inl here ↦ (i, omega arith, omega arith, here)
  | inr later ↦ (let found = one_inside c m e (i + 1) n later in
      (found.0, omega (arith, found.1), omega (arith, found.2), found.3))
]

here_or_later : (k l : ℕ) → k ≤ l → (l ≡ k) ⊎ (k + 1 ≤ l)
here_or_later k l at_most = elim (cases_lt k l) [
  | inl less ↦ inr (omega arith)
  | inr most ↦ inl (omega arith)
]

inside_one : (c : Chunking) (m e j i n : ℕ) → i ≤ j → j < i + n → is_inside c (child c m j) e ≡ true
    → inside_from c m i n e ≡ true
inside_one c m e j i zero low high inside = absurd (omega arith)
inside_one c m e j i (suc n) low high inside = elim (here_or_later i j low) [
  | inl same ↦ or_left (is_inside c (child c m i) e) (inside_from c m (i + 1) n e)
      (subst (λ k. is_inside c (child c m k) e ≡ true) same inside)
  | inr later ↦ or_right (is_inside c (child c m i) e) (inside_from c m (i + 1) n e)
      (inside_one c m e j (i + 1) n later (omega arith) inside)
]

module _ (c : Chunking) (h : IsChunking c) (m : ℕ) (node : m < node_count c) (inner : 0 < level_of c m) where
  ends_of : (k e : ℕ) → is_inside c k e ≡ true
      → (is_held c k (lower_end c.axes e) ≡ true) × (is_held c k (higher_end e) ≡ true)
  ends_of k e inside = and_parts (is_held c k (lower_end c.axes e)) (is_held c k (higher_end e)) inside

  -- an edge lies inside one child's cell only
  pub children_apart : (i n e : ℕ) → i + suc n ≤ child_count c m
      → (is_inside c (child c m i) e && inside_from c m (i + 1) n e) ≡ false
  children_apart i n e few = not_both (is_inside c (child c m i) e) (inside_from c m (i + 1) n e) (λ here later.
      let found = one_inside c m e (i + 1) n later in
      let j = found.0 in
      let low = found.1 in
      let high = found.2 in
      let at_i = child_node c h m node inner (lower_end c.axes e) i (omega arith) (ends_of (child c m i) e here).0 in
      let at_j = child_node c h m node inner (lower_end c.axes e) j (omega arith) (ends_of (child c m j) e found.3).0 in
      let same = one_child c h m node inner i j (omega arith) (omega arith) (sym at_i ∙ at_j) in
      omega arith)

  -- and then it crosses no face between children
  pub crossing_apart : (e : ℕ) → (inside_from c m 0 (child_count c m) e && is_crossing c m e) ≡ false
  crossing_apart e = not_both (inside_from c m 0 (child_count c m) e) (is_crossing c m e) (λ inside crossing.
      let found = one_inside c m e 0 (child_count c m) inside in
      let j = found.0 in
      let below : j < child_count c m = omega (arith, found.2) in
      let ends = ends_of (child c m j) e found.3 in
      let low = child_node c h m node inner (lower_end c.axes e) j below ends.0 in
      let high = child_node c h m node inner (higher_end e) j below ends.1 in
      let differ = not-true (node_at c (level_of c m - 1) (lower_end c.axes e) == node_at c (level_of c m - 1) (higher_end e))
      (and_parts (is_inside c m e) _ crossing).1 in
      false≢true (sym differ ∙ eq-eqb (node_at c (level_of c m - 1) (lower_end c.axes e)) (node_at c (level_of c m - 1) (higher_end e)) (low ∙ sym high)))

  within_node : (e : ℕ) → (inside_from c m 0 (child_count c m) e || is_crossing c m e) ≡ true → is_inside c m e ≡ true
  within_node e pass = elim (or_cases (inside_from c m 0 (child_count c m) e) (is_crossing c m e) pass) [
    | inr crossing ↦ (and_parts (is_inside c m e) _ crossing).0
    | inl inside ↦ (let found = one_inside c m e 0 (child_count c m) inside in
        let below : found.0 < child_count c m = omega (arith, found.2) in
        let ends = ends_of (child c m found.0) e found.3 in
        and_from (is_held c m (lower_end c.axes e)) (is_held c m (higher_end e))
        (child_within c h m node inner (lower_end c.axes e) found.0 below ends.0)
        (child_within c h m node inner (higher_end e) found.0 below ends.1))
  ]

  from_node : (e : ℕ) → is_inside c m e ≡ true → (inside_from c m 0 (child_count c m) e || is_crossing c m e) ≡ true
  from_node e inside =
      let v = lower_end c.axes e in
      let w = higher_end e in
      let k = level_of c m - 1 in
      elim (cases_Bool (node_at c (level_of c m - 1) (lower_end c.axes e) == node_at c (level_of c m - 1) (higher_end e))) [
        | inr differ ↦ or_right (inside_from c m 0 (child_count c m) e) (is_crossing c m e)
            (and_from (is_inside c m e) (not (node_at c (level_of c m - 1) (lower_end c.axes e) == node_at c (level_of c m - 1) (higher_end e)))
            inside (not_from_false _ differ))
        | inl alike ↦ (
            let ends = ends_of m e inside in
            let found = child_of c h m node inner v ends.0 in
            let same = eqb-true (node_at c k v) (node_at c k w) alike in
            or_left (inside_from c m 0 (child_count c m) e) (is_crossing c m e)
            (inside_one c m e found.0 0 (child_count c m) (omega arith) (omega (arith, found.1))
            (and_from (is_held c (child c m found.0) v) (is_held c (child c m found.0) w)
            (child_holds c h m node inner v found.0 found.1 ends.0 found.2)
            (child_holds c h m node inner w found.0 found.1 ends.1 (found.2 ∙ same)))))
      ]

  -- the edges inside the node's cell are these two kinds
  pub inside_or_crossing : (e : ℕ) → (inside_from c m 0 (child_count c m) e || is_crossing c m e) ≡ is_inside c m e
  inside_or_crossing e = both_ways (inside_from c m 0 (child_count c m) e || is_crossing c m e) (is_inside c m e)
      (within_node e) (from_node e)
