-- The levels of a volume cut into chunks, and the numbers of their nodes.
use Rattle.std.proofs.Common.{◌≡◌, ◌≢◌, ◌⊎◌, ℕ, zero, suc, ◌+◌, ◌*◌, ◌-◌, ◌^◌, ◌<◌, ◌≤◌, ◌==◌, nat_lt, Bool, true, false, cond, get_or, inl, inr, refl, ap, sym, ◌∙◌, subst, arith}
use Rattle.std.specs.Int.{div_ceil}
use Rattle.std.specs.List.{range_with_len, position_or_len}
use Rattle.std.proofs.lemmas.Bool.{cases_lt, eqb-true, lt-ltb, le-ltb, ltb-true, both_ways, eq-eqb, ltb-false}
use Rattle.std.proofs.lemmas.List.FromFn.{get_or-range_with_len, length-range_with_len}
use Rattle.std.proofs.lemmas.List.Sums.{position_or_len_is, fails_before_first, passes_at_first}
use Rattle.std.proofs.lemmas.Nat.{pow_pos}
use Rattle.std.proofs.Math.Nat.{mul-le-mul, mul-pos, pow-suc}
use Rattle.agglo_model.specs.Axes.{Axes, IsWithinLimits}
use Rattle.agglo_model.specs.Cutting.{Chunking, IsChunking, length_on, cell_length, cells_on, level_grid, cells_at, last_level, first_node, node_count, level_of}
use Rattle.agglo_model.proofs.Rounding.{div_ceil-double, div_ceil_pos, div_ceil_le, div_ceil_one}

-- ---- the first number that passes a test

-- the first number below n that passes a test, or n
abbrev first : (ℕ → Bool) → ℕ → ℕ
first passes n = position_or_len passes (range_with_len 0 n)

in_range : (n j : ℕ) → j < n → get_or (range_with_len 0 n) j 0 ≡ j
in_range n j below = get_or-range_with_len 0 n j 0 below ∙ omega arith

first-is : (passes : ℕ → Bool) (n i : ℕ) → i < n → passes i ≡ true → ((j : ℕ) → j < i → passes j ≡ false)
    → first passes n ≡ i
first-is passes n i below here before =
    let len = length-range_with_len 0 n in
    position_or_len_is passes (range_with_len 0 n) i 0 (omega arith)
    (λ j lt. subst (λ x. passes x ≡ false) (sym (in_range n j (omega arith))) (before j lt))
    (λ lt. subst (λ x. passes x ≡ true) (sym (in_range n i below)) here)

fails_below : (passes : ℕ → Bool) (n j : ℕ) → j < n → j < first passes n → passes j ≡ false
fails_below passes n j below lt =
    subst (λ x. passes x ≡ false) (in_range n j below)
    (fails_before_first passes (range_with_len 0 n) j 0 lt)

first_le : (passes : ℕ → Bool) (n k : ℕ) → k < n → passes k ≡ true → first passes n ≤ k
first_le passes n k below here = elim (cases_lt k (first passes n)) [
  | inl lt ↦ absurd (both_ways (passes k) (fails_below passes n k below lt) here)
  | inr le ↦ le
]

first_passes : (passes : ℕ → Bool) (n k : ℕ) → k < n → passes k ≡ true → passes (first passes n) ≡ true
first_passes passes n k below here =
    let len = length-range_with_len 0 n in
    let le : first passes n ≤ k = first_le passes n k below here in
    subst (λ x. passes x ≡ true) (in_range n (first passes n) (omega arith))
    (passes_at_first passes (range_with_len 0 n) 0 (omega arith))

-- ---- the three axes

-- what holds of the lengths of two volumes on each axis
pub each_axis : (P : ℕ → ℕ → Type 0) (a b : Axes) (c : ℕ) → P a.nx b.nx → P a.ny b.ny → P a.nz b.nz
    → P (length_on a c) (length_on b c)
each_axis P a b c x y z = by_tests (c == 0) (c == 1)
  where
    by_tests : (p q : Bool) → P (cond p a.nx (cond q a.ny a.nz)) (cond p b.nx (cond q b.ny b.nz))
    by_tests true q = x
    by_tests false true = y
    by_tests false false = z

pub axis_pos : (t : Chunking) → IsChunking t → (c : ℕ) → 0 < length_on t.axes c
axis_pos t h c = each_axis (λ x y. 0 < x) t.axes t.axes c h.limits.some_x h.limits.some_y h.limits.some_z

pub axis_le : (t : Chunking) → IsChunking t → (c : ℕ) → length_on t.axes c ≤ 65535
axis_le t h c = each_axis (λ x y. x ≤ 65535) t.axes t.axes c h.limits.most_x h.limits.most_y h.limits.most_z

pub leaf_pos : (t : Chunking) → IsChunking t → (c : ℕ) → 0 < length_on t.leaf c
leaf_pos t h c = each_axis (λ x y. 0 < x) t.leaf t.leaf c h.some_x h.some_y h.some_z

pub leaf_le : (t : Chunking) → IsChunking t → (c : ℕ) → length_on t.leaf c ≤ length_on t.axes c
leaf_le t h c = each_axis (λ x y. x ≤ y) t.leaf t.axes c h.most_x h.most_y h.most_z

axis_sum : (t : Chunking) → IsChunking t → (c : ℕ) → length_on t.axes c + 1 ≤ t.axes.nx + t.axes.ny + t.axes.nz
axis_sum t h c = each_axis (λ x y. x + 1 ≤ t.axes.nx + t.axes.ny + t.axes.nz) t.axes t.axes c
    (omega (arith, h.limits.some_y)) (omega (arith, h.limits.some_x)) (omega (arith, h.limits.some_x))

-- ---- the cells of a level

pub cell_length_pos : (t : Chunking) → IsChunking t → (k c : ℕ) → 0 < cell_length t k c
cell_length_pos t h k c = mul-pos (leaf_pos t h c) (pow_pos k)

-- from level to level each axis has half as many cells, rounded up
pub cells_on-suc : (t : Chunking) → IsChunking t → (k c : ℕ) → cells_on t (suc k) c ≡ div_ceil (cells_on t k c) 2
unfolding cells_on
cells_on-suc t h k c =
    ap (λ l. div_ceil (length_on t.axes c) l) twice
    ∙ div_ceil-double (length_on t.axes c) (cell_length t k c) (axis_pos t h c) (cell_length_pos t h k c)
  where
    twice : length_on t.leaf c * 2 ^ suc k ≡ length_on t.leaf c * 2 ^ k * 2
    twice = ap (λ p. length_on t.leaf c * p) (pow-suc 2 k) ∙ omega arith

pub cells_on_pos : (t : Chunking) → IsChunking t → (k c : ℕ) → 0 < cells_on t k c
unfolding cells_on
cells_on_pos t h k c = div_ceil_pos (length_on t.axes c) (cell_length t k c) (axis_pos t h c) (cell_length_pos t h k c)

pub cells_on_le : (t : Chunking) → IsChunking t → (k c : ℕ) → cells_on t k c ≤ length_on t.axes c
unfolding cells_on
cells_on_le t h k c = div_ceil_le (length_on t.axes c) (cell_length t k c) (axis_pos t h c) (cell_length_pos t h k c)

cells_on_one : (t : Chunking) → IsChunking t → (k c : ℕ) → length_on t.axes c ≤ 2 ^ k → cells_on t k c ≡ 1
unfolding cells_on
cells_on_one t h k c long = div_ceil_one (length_on t.axes c) (cell_length t k c) (axis_pos t h c)
    (let some : 1 ≤ length_on t.leaf c = leaf_pos t h c in
    let at_least : 1 * 2 ^ k ≤ length_on t.leaf c * 2 ^ k = mul-le-mul some (le_self (2 ^ k)) in
    omega arith)
  where
    le_self : (x : ℕ) → x ≤ x
    le_self x = omega arith

cells_at_one : (t : Chunking) (k : ℕ) → ((c : ℕ) → cells_on t k c ≡ 1) → cells_at t k ≡ 1
cells_at_one t k one = rw (one 0, one 1, one 2)

pub cells_at_pos : (t : Chunking) → IsChunking t → (k : ℕ) → 0 < cells_at t k
cells_at_pos t h k = mul-pos (mul-pos (cells_on_pos t h k 0) (cells_on_pos t h k 1)) (cells_on_pos t h k 2)

-- a level's grid is within the limits of a volume's axes
pub level_grid_limits : (t : Chunking) → IsChunking t → (k : ℕ) → IsWithinLimits (level_grid t k)
level_grid_limits t h k = record {
  some_x = cells_on_pos t h k 0;
  some_y = cells_on_pos t h k 1;
  some_z = cells_on_pos t h k 2;
  most_x = omega (arith, cells_on_le t h k 0, h.limits.most_x);
  most_y = omega (arith, cells_on_le t h k 1, h.limits.most_y);
  most_z = omega (arith, cells_on_le t h k 2, h.limits.most_z);
  most_voxels = omega (
    arith,
    h.limits.most_voxels,
    mul-le-mul (mul-le-mul (cells_on_le t h k 0) (cells_on_le t h k 1)) (cells_on_le t h k 2),
  );
}

-- ---- the last level

lt-pow : (n : ℕ) → n < 2 ^ n
lt-pow zero = omega arith
lt-pow (suc n) = omega (arith, lt-pow n)

one_at_end : (t : Chunking) → IsChunking t → cells_at t (t.axes.nx + t.axes.ny + t.axes.nz - 1) ≡ 1
one_at_end t h = cells_at_one t end (λ c. cells_on_one t h end c (omega (arith, axis_sum t h c, lt-pow end)))
  where
    end : ℕ
    end = t.axes.nx + t.axes.ny + t.axes.nz - 1

-- the last level has one cell
pub cells_at-last : (t : Chunking) → IsChunking t → cells_at t (last_level t) ≡ 1
unfolding last_level
cells_at-last t h = eqb-true (cells_at t (last_level t)) 1
    (first_passes (λ k. cells_at t k == 1) (t.axes.nx + t.axes.ny + t.axes.nz) (t.axes.nx + t.axes.ny + t.axes.nz - 1)
    (omega (arith, h.limits.some_x)) (eq-eqb (cells_at t (t.axes.nx + t.axes.ny + t.axes.nz - 1)) 1 (one_at_end t h)))

-- and no level below it has
pub cells_at-below : (t : Chunking) → IsChunking t → (k : ℕ) → k < last_level t → cells_at t k ≢ 1
unfolding last_level
cells_at-below t h k below one = both_ways (cells_at t k == 1)
    (fails_below (λ k. cells_at t k == 1) (t.axes.nx + t.axes.ny + t.axes.nz) k
    (omega (
      arith,
      first_le (λ k. cells_at t k == 1) (t.axes.nx + t.axes.ny + t.axes.nz)
          (t.axes.nx + t.axes.ny + t.axes.nz - 1)
          (omega (arith, h.limits.some_x)) (eq-eqb (cells_at t (t.axes.nx + t.axes.ny + t.axes.nz - 1)) 1 (one_at_end t h)),
    ))
    below)
    (eq-eqb (cells_at t k) 1 one)

-- so a level with one cell, not above the last, is the last
pub is_last_level : (t : Chunking) → IsChunking t → (k : ℕ) → k ≤ last_level t → cells_at t k ≡ 1 → k ≡ last_level t
is_last_level t h k le one = elim (cases_lt k (last_level t)) [
  | inl lt ↦ absurd (cells_at-below t h k lt one)
  | inr ge ↦ omega arith
]

-- there are at most 17 levels
pub last_level_le : (t : Chunking) → IsChunking t → last_level t ≤ 16
last_level_le t h = elim (cases_lt 16 (last_level t)) [
  | inl lt ↦ absurd (cells_at-below t h 16 lt (cells_at_one t 16 (λ c. cells_on_one t h 16 c (omega (arith, axis_le t h c)))))
  | inr ge ↦ ge
]

-- ---- the numbers of nodes

-- a later level has later nodes
pub first_node_le : (t : Chunking) (j k : ℕ) → j ≤ k → first_node t j ≤ first_node t k
first_node_le t j zero le = subst (λ i. first_node t i ≤ 0) (sym (nothing_below j le)) (omega arith)
  where
    nothing_below : (j : ℕ) → j ≤ 0 → j ≡ 0
    nothing_below j le = omega arith
first_node_le t j (suc k) le = by_last (cases_lt k j) (first_node_le t j k)
  where
    by_last : (k < j) ⊎ (j ≤ k) → (j ≤ k → first_node t j ≤ first_node t k) → first_node t j ≤ first_node t (suc k)
    by_last (inl lt) before =
        let same : j ≡ suc k = omega arith in
        subst (λ i. first_node t i ≤ first_node t (suc k)) (sym same) (omega arith)
    by_last (inr at_most) before = omega (arith, before at_most)

-- number m is that of a node of level k
pub record IsOnLevel (t : Chunking) (k m : ℕ) : Type 0 where
  pub reached : k ≤ last_level t
  pub from : first_node t k ≤ m
  pub to : m < first_node t (suc k)

-- the level of a node is the one that it is on
pub level_of-is : (t : Chunking) (k m : ℕ) → IsOnLevel t k m → level_of t m ≡ k
unfolding level_of
level_of-is t k m on = first-is (λ k. nat_lt m (first_node t (suc k))) (suc (last_level t)) k
    (omega (arith, on.reached)) (lt-ltb m (first_node t (suc k)) on.to)
    (λ j lt. le-ltb m (first_node t (suc j)) (omega (arith, on.from, first_node_le t (suc j) k (omega arith))))

-- each node is on a level
pub on_level : (t : Chunking) (m : ℕ) → m < node_count t → IsOnLevel t (level_of t m) m
unfolding level_of
on_level t m below = record {
  reached = first_le passes (suc (last_level t)) (last_level t) (omega arith) at_last;
  from = from_level (level_of t m) refl;
  to = ltb-true m (first_node t (suc (level_of t m))) (first_passes passes (suc (last_level t)) (last_level t) (omega arith) at_last);
}
  where
    passes : ℕ → Bool
    passes = λ k. nat_lt m (first_node t (suc k))

    at_last : nat_lt m (first_node t (suc (last_level t))) ≡ true
    at_last = lt-ltb m (node_count t) below

    from_level : (k : ℕ) → level_of t m ≡ k → first_node t k ≤ m
    from_level zero is = omega arith
    from_level (suc k) is = ltb-false m (first_node t (suc k))
        (fails_below (λ k. nat_lt m (first_node t (suc k))) (suc (last_level t)) k
        (omega (arith, is, first_le (λ k. nat_lt m (first_node t (suc k))) (suc (last_level t)) (last_level t) (omega arith) at_last)) (omega (arith, is)))

-- ---- how many nodes there are

-- half of some cells, rounded up, is no more of them, and at most two thirds of two or more
half_le : (x : ℕ) → 0 < x → div_ceil x 2 ≤ x
half_le x some = omega arith

half_of_more : (x : ℕ) → 2 ≤ x → 3 * div_ceil x 2 ≤ 2 * x
half_of_more x more = omega arith

-- so where one axis has two cells or more, the next level has at most two thirds of the cells
fewer_by_first : (x y z x' y' z' : ℕ) → 3 * x' ≤ 2 * x → y' ≤ y → z' ≤ z → 3 * (x' * y' * z') ≤ 2 * (x * y * z)
fewer_by_first x y z x' y' z' much second third = omega (arith, mul-le-mul (mul-le-mul much second) third)

fewer : (x y z : ℕ) → 0 < x → 0 < y → 0 < z → x * y * z ≢ 1
    → 3 * (div_ceil x 2 * div_ceil y 2 * div_ceil z 2) ≤ 2 * (x * y * z)
fewer x y z some_x some_y some_z more = elim (cases_lt 1 x) [
  | inl lt ↦ fewer_by_first x y z (div_ceil x 2) (div_ceil y 2) (div_ceil z 2)
      (half_of_more x lt) (half_le y some_y) (half_le z some_z)
  | inr one_x ↦ elim (cases_lt 1 y) [
    | inl lt ↦ (let turned = fewer_by_first y x z (div_ceil y 2) (div_ceil x 2) (div_ceil z 2)
        (half_of_more y lt) (half_le x some_x) (half_le z some_z) in omega (arith, turned))
    | inr one_y ↦ elim (cases_lt 1 z) [
      | inl lt ↦ (let turned = fewer_by_first z x y (div_ceil z 2) (div_ceil x 2) (div_ceil y 2)
          (half_of_more z lt) (half_le x some_x) (half_le y some_y) in omega (arith, turned))
      | inr one_z ↦ absurd (more (all_one x y z (omega arith) (omega arith) (omega arith)))
    ]
  ]
]
  where
    all_one : (x y z : ℕ) → x ≡ 1 → y ≡ 1 → z ≡ 1 → x * y * z ≡ 1
    all_one x y z is_x is_y is_z = rw (is_x, is_y, is_z)

next_fewer : (t : Chunking) → IsChunking t → (k : ℕ) → k < last_level t → 3 * cells_at t (suc k) ≤ 2 * cells_at t k
next_fewer t h k below =
    rw (cells_on-suc t h k 0, cells_on-suc t h k 1, cells_on-suc t h k 2)
    (fewer (cells_on t k 0) (cells_on t k 1) (cells_on t k 2)
    (cells_on_pos t h k 0) (cells_on_pos t h k 1) (cells_on_pos t h k 2) (cells_at-below t h k below))

first_node_bound : (t : Chunking) → IsChunking t → (k : ℕ) → k ≤ last_level t
    → first_node t k + 3 * cells_at t k ≤ 3 * cells_at t 0
first_node_bound t h zero le = omega arith
first_node_bound t h (suc k) le =
    omega (arith, first_node_bound t h k (omega arith), next_fewer t h k (omega arith))

-- there are fewer than 2^20 nodes
pub node_count-lt : (t : Chunking) → IsChunking t → node_count t < 2 ^ 20
node_count-lt t h =
    let bound = first_node_bound t h (last_level t) (omega arith) in
    omega (arith, h.most_leaves, cells_at-last t h)
