-- How two or three numbers may stand to one another.
use Rattle.std.proofs.Common.{◌≡◌, ◌≢◌, ℕ, ◌⊎◌, ◌+◌, ◌*◌, inl, ◌<◌, inr, min, arith}
use Rattle.std.specs.Int.{div_ceil}

-- what is below the number after m is below m, or m
pub below_next : (k m : ℕ) → k < m + 1 → (k < m) ⊎ (k ≡ m)
below_next k m below = grind arith

pub apart_cases : (m n : ℕ) → m ≢ n → (m < n) ⊎ (n < m)
apart_cases m n apart = grind arith

pub order_cases : (m n : ℕ) → (m < n) ⊎ (m ≡ n) ⊎ (n < m)
order_cases m n = grind arith

-- a number is the one, the other, or neither
pub name_cases : (k a b : ℕ) → (k ≡ a) ⊎ (k ≡ b) ⊎ ((k ≢ a) × (k ≢ b))
name_cases k a b = grind arith

pub not_pair : (x y z : ℕ) → x ≢ y → z ≢ y → ((x ≡ x) × (z ≡ y)) ⊎ ((x ≡ y) × (z ≡ x)) → ⊥
not_pair x y z xy zy same = grind arith

pub ordered_names : (x y a b : ℕ) → x < y → a < b → ((a ≡ x) × (b ≡ y)) ⊎ ((a ≡ y) × (b ≡ x)) → (a ≡ x) × (b ≡ y)
ordered_names x y a b xy ab (inl names) = names
ordered_names x y a b xy ab (inr (p, q)) = absurd (omega arith)

pub zero_from_not_ne : (n : ℕ) → ((n ≢ 0) → ⊥) → n ≡ 0
zero_from_not_ne n h = grind arith

-- the place of the first of two children is within the level below
pub twice_lt : (x n : ℕ) → x < div_ceil n 2 → 2 * x < n
twice_lt x n below = omega arith

-- what begins within an axis has an end behind its begin
pub begins_before : (i l n : ℕ) → 0 < l → i * l < n → i * l < min ((i + 1) * l) n
begins_before i l n some begins = omega arith
