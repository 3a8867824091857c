-- From a number of the sequence to the one 65536 steps on: the lowest 16 bits stay, and the highest rise by what
-- hangs on the lowest alone.
use Rattle.std.proofs.Common.{◌≡◌, ℕ, zero, suc, ◌+◌, ◌-◌, ◌*◌, ◌/◌, ◌%◌, ◌^◌, ◌<◌, refl, sym, ap, ◌∙◌, subst, arith}
use Rattle.std.proofs.Math.Nat.{mul_assoc, mod-eq_of_lt, mod-lt, mod-add-mod, add-mod-mod}
use Rattle.std.proofs.lemmas.Nat.{mul-mod_first, mul-mod_second}
use Rattle.agglo_model.specs.Generated.{next_number, number_after}

-- n steps after m steps
pub number_later : (x m n : ℕ) → number_after (number_after x m) n ≡ number_after x (m + n)
unfolding number_after
number_later x m zero = ap (number_after x) (omega arith)
number_later x m (suc n) =
    let place : suc (m + n) ≡ m + suc n = omega arith in
    ap next_number (number_later x m n) ∙ ap (number_after x) place

pub next_after : (x n : ℕ) → next_number (number_after x n) ≡ number_after x (n + 1)
unfolding number_after
next_after x n =
    let place : suc n ≡ n + 1 = omega arith in
    ap (number_after x) place

pub after_none : (x : ℕ) → x ≡ number_after x 0
unfolding number_after
after_none x = refl

pub number_fits : (x n : ℕ) → number_after x (n + 1) < 2 ^ 32
number_fits x n = subst (λ y. y < 2 ^ 32) (next_after x n) (mod-lt (1664525 * number_after x n + 1013904223) (omega arith))

-- So many steps multiply by m, and add k.
abbrev LeapsBy : ℕ → ℕ → ℕ → Type 0
LeapsBy n m k = (x : ℕ) → number_after x n % 2 ^ 32 ≡ (m * x + k) % 2 ^ 32

one_step : LeapsBy 1 1664525 1013904223
one_step x =
    let first : number_after x 1 ≡ next_number x = sym (next_after x 0) ∙ ap next_number (sym (after_none x)) in
    ap (λ y. y % 2 ^ 32) first ∙ mod-eq_of_lt (mod-lt (1664525 * x + 1013904223) (omega arith))

-- twice as many
doubled : (n m k : ℕ) → LeapsBy n m k → LeapsBy (n + n) ((m * m) % 2 ^ 32) ((m * k + k) % 2 ^ 32)
doubled n m k leaps x =
    let y = number_after x n in
    let square : m * (m * x) ≡ m * m * x = sym (mul_assoc m m x) in
    let inner : (m * y + k) % 2 ^ 32 ≡ (m * (m * x + k) + k) % 2 ^ 32 =
    sym (mod-add-mod (m * y) (2 ^ 32) k)
    ∙ ap (λ z. (z + k) % 2 ^ 32) (sym (mul-mod_second m y (2 ^ 32)) ∙ ap (λ z. (m * z) % 2 ^ 32) (leaps x) ∙ mul-mod_second m (m * x + k) (2 ^ 32))
    ∙ mod-add-mod (m * (m * x + k)) (2 ^ 32) k in
    let shared : m * (m * x + k) + k ≡ m * m * x + (m * k + k) = omega (arith, square) in
    let outer : ((m * m) % 2 ^ 32 * x + (m * k + k) % 2 ^ 32) % 2 ^ 32 ≡ (m * m * x + (m * k + k)) % 2 ^ 32 =
    sym (mod-add-mod ((m * m) % 2 ^ 32 * x) (2 ^ 32) ((m * k + k) % 2 ^ 32))
    ∙ ap (λ z. (z + (m * k + k) % 2 ^ 32) % 2 ^ 32) (mul-mod_first (m * m) x (2 ^ 32))
    ∙ mod-add-mod (m * m * x) (2 ^ 32) ((m * k + k) % 2 ^ 32)
    ∙ add-mod-mod (m * m * x) (m * k + k) (2 ^ 32) in
    ap (λ z. z % 2 ^ 32) (sym (number_later x n n)) ∙ leaps y ∙ inner ∙ ap (λ z. z % 2 ^ 32) shared ∙ sym outer

steps_2 : LeapsBy 2 389569705 1196435762
steps_2 = doubled 1 1664525 1013904223 one_step

steps_4 : LeapsBy 4 158984081 2868466484
steps_4 = doubled 2 389569705 1196435762 steps_2

steps_8 : LeapsBy 8 3934847009 2748932008
steps_8 = doubled 4 158984081 2868466484 steps_4

steps_16 : LeapsBy 16 2001863745 2210837584
steps_16 = doubled 8 3934847009 2748932008 steps_8

steps_32 : LeapsBy 32 666245249 95141024
steps_32 = doubled 16 2001863745 2210837584 steps_16

steps_64 : LeapsBy 64 667185409 1956956480
steps_64 = doubled 32 666245249 95141024 steps_32

steps_128 : LeapsBy 128 2305417729 2065617536
steps_128 = doubled 64 667185409 1956956480 steps_64

steps_256 : LeapsBy 256 1045939201 43164928
steps_256 = doubled 128 2305417729 2065617536 steps_128

steps_512 : LeapsBy 512 1254066177 1585007104
steps_512 = doubled 256 1045939201 43164928 steps_256

steps_1024 : LeapsBy 1024 3451850753 1648530432
steps_1024 = doubled 512 1254066177 1585007104 steps_512

steps_2048 : LeapsBy 2048 2088640513 1506093056
steps_2048 = doubled 1024 3451850753 1648530432 steps_1024

steps_4096 : LeapsBy 4096 2096906241 143282176
steps_4096 = doubled 2048 2088640513 1506093056 steps_2048

steps_8192 : LeapsBy 8192 167280641 1695850496
steps_8192 = doubled 4096 2096906241 143282176 steps_4096

steps_16384 : LeapsBy 16384 1408303105 438910976
steps_16384 = doubled 8192 167280641 1695850496 steps_8192

steps_32768 : LeapsBy 32768 2816606209 1951563776
steps_32768 = doubled 16384 1408303105 438910976 steps_16384

steps_65536 : LeapsBy 65536 1338245121 3903127552
steps_65536 = doubled 32768 2816606209 1951563776 steps_32768

-- a round later: the lowest bits are the same, and the highest rose
round : (x y : ℕ) → x < 2 ^ 32 → y ≡ (1338245121 * x + 3903127552) % 2 ^ 32
    → (y % 2 ^ 16 ≡ x % 2 ^ 16) × (y / 2 ^ 16 ≡ (x / 2 ^ 16 + (20420 * (x % 2 ^ 16) + 59557)) % 2 ^ 16)
round x y fits is = (omega (arith, fits, is), omega (arith, fits, is))

later_fits : (first n : ℕ) → number_after first (n + 65536) < 2 ^ 32
later_fits first n =
    let place : n + 65535 + 1 ≡ n + 65536 = omega arith in
    subst (λ m. number_after first m < 2 ^ 32) place (number_fits first (n + 65535))

round_later : (first n : ℕ) → number_after first (n + 65536) ≡ (1338245121 * number_after first n + 3903127552) % 2 ^ 32
round_later first n =
    sym (mod-eq_of_lt (later_fits first n)) ∙ ap (λ y. y % 2 ^ 32) (sym (number_later first n 65536)) ∙ steps_65536 (number_after first n)

-- two numbers that lead from one place to the same lead from each to the same
moved_alike : (h y r s : ℕ) → (h + r) % 2 ^ 16 ≡ (h + s) % 2 ^ 16 → (y + r) % 2 ^ 16 ≡ (y + s) % 2 ^ 16
moved_alike h y r s alike = omega (arith, alike)

-- What led from the highest bits of one number to those of the number a round later leads on from there.
pub again : (first n r : ℕ)
    → (number_after first (n + 1) / 2 ^ 16 + r) % 2 ^ 16 ≡ number_after first (n + 1 + 65536) / 2 ^ 16
    → (number_after first (n + 1 + 65536) / 2 ^ 16 + r) % 2 ^ 16 ≡ number_after first (n + 1 + 65536 + 65536) / 2 ^ 16
again first n r led =
    let x = number_after first (n + 1) in
    let y = number_after first (n + 1 + 65536) in
    let z = number_after first (n + 1 + 65536 + 65536) in
    let one = round x y (number_fits first n) (round_later first (n + 1)) in
    let two = round y z (later_fits first (n + 1)) (round_later first (n + 1 + 65536)) in
    let same : 20420 * (y % 2 ^ 16) + 59557 ≡ 20420 * (x % 2 ^ 16) + 59557 = ap (λ l. 20420 * l + 59557) one.0 in
    let moved : (x / 2 ^ 16 + r) % 2 ^ 16 ≡ (x / 2 ^ 16 + (20420 * (x % 2 ^ 16) + 59557)) % 2 ^ 16 = led ∙ one.1 in
    moved_alike (x / 2 ^ 16) (y / 2 ^ 16) r (20420 * (x % 2 ^ 16) + 59557) moved
    ∙ ap (λ s. (y / 2 ^ 16 + s) % 2 ^ 16) (sym same) ∙ sym two.1

-- the highest bits of a number that comes later
pub highs_fit : (first n high : ℕ) → high ≡ number_after first (0 + n + 1) / 2 ^ 16 → high < 2 ^ 16
highs_fit first n high is =
    let fits : number_after first (n + 1) < 2 ^ 32 = number_fits first n in
    let place : 0 + n + 1 ≡ n + 1 = omega arith in
    let same : number_after first (0 + n + 1) ≡ number_after first (n + 1) = ap (number_after first) place in
    omega (arith, is, same, fits)

-- a difference, added again
pub risen : (high later rise : ℕ) → high < 2 ^ 16 → later < 2 ^ 16 → rise ≡ (later + 2 ^ 16 - high) % 2 ^ 16
    → (high + rise) % 2 ^ 16 ≡ later
risen high later rise high_fits later_fits is = omega (arith, high_fits, later_fits, is)
