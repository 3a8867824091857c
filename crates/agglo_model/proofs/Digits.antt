-- Numbers and the bytes that spell them, the lowest first.
use Rattle.std.proofs.Common.{◌≡◌, ℕ, ◌+◌, ◌*◌, ◌/◌, ◌%◌, ◌<◌, ◌^◌, ◌∷◌, [], arith, ap, sym, refl, ◌∙◌}
use Rattle.std.proofs.Math.Nat.{mod-add-div, add-mul-mod_self_left, div-div-eq-div-mul}
use Rattle.std.proofs.lemmas.Nat.{div-mul-add}
use Rattle.agglo_model.specs.LabelFile.{u32_bytes}
use Rattle.agglo_model.specs.MergeTree.{u64_bytes}

-- a quotient, by its last byte and the next quotient
next_digit : (n k j : ℕ) → k * 256 ≡ j → n / k % 256 + 256 * (n / j) ≡ n / k
next_digit n k j e =
    let whole : n / k % 256 + 256 * (n / k / 256) ≡ n / k = mod-add-div (n / k) 256 in
    let same : n / k / 256 ≡ n / j = div-div-eq-div-mul n k 256 ∙ ap (λ x. n / x) e in
    ap (λ x. n / k % 256 + 256 * x) (sym same) ∙ whole

-- what bytes make, from the first on
made_4 : (n q r s a b c d : ℕ) → a + 256 * q ≡ n → b + 256 * r ≡ q → c + 256 * s ≡ r → d ≡ s
    → a + 256 * b + 65536 * c + 16777216 * d ≡ n
made_4 n q r s a b c d e f g h = omega arith

-- a number below 2^32 is made of its four bytes
pub four_digits : (n : ℕ) → n < 2 ^ 32
    → n % 256 + 256 * (n / 256 % 256) + 65536 * (n / 65536 % 256) + 16777216 * (n / 16777216 % 256) ≡ n
four_digits n h =
    let small : n / 16777216 < 256 = omega arith in
    made_4 n (n / 256) (n / 65536) (n / 16777216) _ _ _ _ (mod-add-div n 256) (next_digit n 256 65536 refl)
    (next_digit n 65536 16777216 refl) (omega arith)

made_8 : (n q1 q2 q3 q4 q5 q6 q7 a b c d e f g h : ℕ) → a + 256 * q1 ≡ n → b + 256 * q2 ≡ q1 → c + 256 * q3 ≡ q2
    → d + 256 * q4 ≡ q3 → e + 256 * q5 ≡ q4 → f + 256 * q6 ≡ q5 → g + 256 * q7 ≡ q6 → h ≡ q7
    → a + 256 * b + 65536 * c + 16777216 * d + 4294967296 * (e + 256 * f + 65536 * g + 16777216 * h) ≡ n
made_8 n q1 q2 q3 q4 q5 q6 q7 a b c d e f g h p0 p1 p2 p3 p4 p5 p6 p7 = omega arith

-- a number below 2^64 is made of its eight bytes
pub eight_digits : (n : ℕ) → n < 2 ^ 64
    → n % 256 + 256 * (n / 256 % 256) + 65536 * (n / 65536 % 256) + 16777216 * (n / 16777216 % 256)
    + 4294967296 * (n / 4294967296 % 256 + 256 * (n / 1099511627776 % 256) + 65536 * (n / 281474976710656 % 256)
    + 16777216 * (n / 72057594037927936 % 256)) ≡ n
eight_digits n h =
    made_8 n (n / 256) (n / 65536) (n / 16777216) (n / 4294967296) (n / 1099511627776) (n / 281474976710656) (n / 72057594037927936)
    _ _ _ _ _ _ _ _ (mod-add-div n 256) (next_digit n 256 65536 refl) (next_digit n 65536 16777216 refl)
    (next_digit n 16777216 4294967296 refl) (next_digit n 4294967296 1099511627776 refl)
    (next_digit n 1099511627776 281474976710656 refl) (next_digit n 281474976710656 72057594037927936 refl) (omega arith)

-- a byte of a number, by what stands below it and above it
digit : (n low b above k : ℕ) → n ≡ (b + 256 * above) * k + low → low < k → b < 256 → n / k % 256 ≡ b
digit n low b above k e l p =
    let small : b % 256 ≡ b = omega arith in
    ap (λ x. x / k % 256) e ∙ (ap (λ x. x % 256) (div-mul-add (b + 256 * above) k low l) ∙ (add-mul-mod_self_left b 256 above ∙ small))

first_digit : (n b above : ℕ) → n ≡ b + 256 * above → b < 256 → n % 256 ≡ b
first_digit n b above e p = let small : b % 256 ≡ b = omega arith in ap (λ x. x % 256) e ∙ (add-mul-mod_self_left b 256 above ∙ small)

-- four bytes are those of the number that they make
pub four_bytes : (a b c d : ℕ) → a < 256 → b < 256 → c < 256 → d < 256
    → u32_bytes (a + 256 * b + 65536 * c + 16777216 * d) ≡ a ∷ b ∷ c ∷ d ∷ []
four_bytes a b c d pa pb pc pd =
    let n : ℕ = a + 256 * b + 65536 * c + 16777216 * d in
    let e0 = first_digit n a (b + 256 * c + 65536 * d) (omega arith) pa in
    let e1 = digit n a b (c + 256 * d) 256 (omega arith) (omega arith) pb in
    let e2 = digit n (a + 256 * b) c d 65536 (omega arith) (omega arith) pc in
    let e3 = digit n (a + 256 * b + 65536 * c) d 0 16777216 (omega arith) (omega arith) pd in
    cc (e0, e1, e2, e3)

-- and so are eight
pub eight_bytes : (a b c d e f g h : ℕ) → a < 256 → b < 256 → c < 256 → d < 256 → e < 256 → f < 256 → g < 256 → h < 256
    → u64_bytes (a + 256 * b + 65536 * c + 16777216 * d + 4294967296 * (e + 256 * f + 65536 * g + 16777216 * h))
    ≡ a ∷ b ∷ c ∷ d ∷ e ∷ f ∷ g ∷ h ∷ []
eight_bytes a b c d e f g h pa pb pc pd pe pf pg ph =
    let n : ℕ = a + 256 * b + 65536 * c + 16777216 * d + 4294967296 * (e + 256 * f + 65536 * g + 16777216 * h) in
    let low : ℕ = a + 256 * b + 65536 * c + 16777216 * d in
    let e0 = first_digit n a (b + 256 * c + 65536 * d + 16777216 * (e + 256 * f + 65536 * g + 16777216 * h)) (omega arith) pa in
    let e1 = digit n a b (c + 256 * d + 65536 * (e + 256 * f + 65536 * g + 16777216 * h)) 256 (omega arith) (omega arith) pb in
    let e2 = digit n (a + 256 * b) c (d + 256 * (e + 256 * f + 65536 * g + 16777216 * h)) 65536 (omega arith) (omega arith) pc in
    let e3 = digit n (a + 256 * b + 65536 * c) d (e + 256 * f + 65536 * g + 16777216 * h) 16777216 (omega arith) (omega arith) pd in
    let e4 = digit n low e (f + 256 * g + 65536 * h) 4294967296 (omega arith) (omega arith) pe in
    let e5 = digit n (low + 4294967296 * e) f (g + 256 * h) 1099511627776 (omega arith) (omega arith) pf in
    let e6 = digit n (low + 4294967296 * (e + 256 * f)) g h 281474976710656 (omega arith) (omega arith) pg in
    let e7 = digit n (low + 4294967296 * (e + 256 * f + 65536 * g)) h 0 72057594037927936 (omega arith) (omega arith) ph in
    cc (e0, e1, e2, e3, e4, e5, e6, e7)
