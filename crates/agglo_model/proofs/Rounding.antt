-- Quotients rounded up: how many cells of one length cover an axis.
use Rattle.std.proofs.Common.{◌≡◌, ℕ, suc, ◌+◌, ◌*◌, ◌-◌, ◌/◌, ◌%◌, ◌<◌, ◌≤◌, inl, inr, ap, sym, ◌∙◌, arith}
use Rattle.std.specs.Int.{div_ceil}
use Rattle.std.proofs.lemmas.Bool.{cases_order}
use Rattle.std.proofs.lemmas.Grind.{div_ceil_times}
use Rattle.std.proofs.lemmas.Nat.{div-add-mod'}
use Rattle.std.proofs.Math.Nat.{mod-lt, mul-le-mul_right, div-div-eq-div-mul, div-lt_iff_lt-mul}

-- two multiples of l that are both the least from n on have the same quotient
same_multiple : (n l x y : ℕ) → n ≤ x * l → x * l < n + l → n ≤ y * l → y * l < n + l → x ≡ y
same_multiple n l x y from_x to_x from_y to_y = elim (cases_order x y) [
  | inl same ↦ same
  | inr (inl less) ↦ (let le : suc x ≤ y = omega arith in absurd (omega (arith, mul-le-mul_right l le)))
  | inr (inr more) ↦ (let le : suc y ≤ x = omega arith in absurd (omega (arith, mul-le-mul_right l le)))
]

-- the cells that cover n voxels are the last voxel's cell and those before it
pub div_ceil-last : (n l : ℕ) → 0 < n → 0 < l → div_ceil n l ≡ (n - 1) / l + 1
div_ceil-last n l some length =
    let all = div_ceil_times n l length in
    let whole : (n - 1) / l * l + (n - 1) % l ≡ n - 1 = div-add-mod' (n - 1) l in
    let rest : (n - 1) % l < l = mod-lt (n - 1) length in
    same_multiple n l (div_ceil n l) ((n - 1) / l + 1) all.0 all.1 (omega arith) (omega arith)

-- a voxel's cell is one of them
pub div-lt-div_ceil : (x n l : ℕ) → x < n → 0 < l → x / l < div_ceil n l
div-lt-div_ceil x n l below length =
    (div-lt_iff_lt-mul length).1 (omega (arith, div_ceil_times n l length))

-- each cell begins before the end
pub div_ceil-begins : (i n l : ℕ) → 0 < l → i < div_ceil n l → i * l < n
div_ceil-begins i n l length below =
    let le : suc i ≤ div_ceil n l = omega arith in
    omega (arith, mul-le-mul_right l le, div_ceil_times n l length)

-- some voxels need some cells
pub div_ceil_pos : (n l : ℕ) → 0 < n → 0 < l → 0 < div_ceil n l
div_ceil_pos n l some length = rw (div_ceil-last n l some length) (omega arith)

-- there are no more cells than voxels
pub div_ceil_le : (n l : ℕ) → 0 < n → 0 < l → div_ceil n l ≤ n
div_ceil_le n l some length =
    let begins = div_ceil-begins (div_ceil n l - 1) n l length (omega (arith, div_ceil_pos n l some length)) in
    let long : (div_ceil n l - 1) * 1 ≤ (div_ceil n l - 1) * l = product_le (div_ceil n l - 1) length in
    omega arith
  where
    product_le : (x : ℕ) → 0 < l → x * 1 ≤ x * l
    product_le x pos = omega (arith, mul-le-mul_right x pos)

-- one cell covers what is no longer than it
pub div_ceil_one : (n l : ℕ) → 0 < n → n ≤ l → div_ceil n l ≡ 1
div_ceil_one n l some long =
    same_multiple n l (div_ceil n l) 1 (all).0 (all).1 (omega arith) (omega arith)
  where
    all : (n ≤ div_ceil n l * l) × (div_ceil n l * l < n + l)
    all = div_ceil_times n l (omega (arith, some, long))

-- cells of twice the length are half as many, rounded up
pub div_ceil-double : (n l : ℕ) → 0 < n → 0 < l → div_ceil n (l * 2) ≡ div_ceil (div_ceil n l) 2
div_ceil-double n l some length =
    div_ceil-last n (l * 2) some (omega arith)
    ∙ ap (λ q. q + 1) (sym (div-div-eq-div-mul (n - 1) l 2))
    ∙ ap (λ q. q / 2 + 1) before
    ∙ sym (div_ceil-last (div_ceil n l) 2 (div_ceil_pos n l some length) (omega arith))
  where
    before : (n - 1) / l ≡ div_ceil n l - 1
    before = rw (div_ceil-last n l some length) (omega arith)
