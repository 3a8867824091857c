-- Sets of faces as numbers: what two of them have together, and what they share.
use Rattle.std.proofs.Common.{◌≡◌, ℕ, ◌+◌, ◌*◌, ◌<◌, ◌^◌, Bool, true, false, cond, ◌&&◌, ◌||◌, refl, sym, ◌∙◌, arith}
use Rattle.std.specs.Prelude.{bit_and, bit_or}
use Rattle.std.proofs.lemmas.Nat.{and_block, or_block}
use mathlib.Core.Path.{fun_ext}
use Rattle.agglo_model.specs.Cutting.{face_bits}

-- the number of six bits, the first one the lowest
abbrev six : Bool → Bool → Bool → Bool → Bool → Bool → ℕ
six a b c d e f = cond a 1 0 + cond b 2 0 + cond c 4 0 + cond d 8 0 + cond e 16 0 + cond f 32 0

bit_below : (b : Bool) → cond b 1 0 < 2 ^ 1
bit_below true = omega arith
bit_below false = omega arith

bit_both : (a b : Bool) → bit_and (cond a 1 0) (cond b 1 0) ≡ cond (a && b) 1 0
bit_both true true = refl
bit_both true false = refl
bit_both false true = refl
bit_both false false = refl

bit_either : (a b : Bool) → bit_or (cond a 1 0) (cond b 1 0) ≡ cond (a || b) 1 0
bit_either true true = refl
bit_either true false = refl
bit_either false true = refl
bit_either false false = refl

-- one more bit below
and_step : (x y z : ℕ) (a b : Bool) → bit_and x y ≡ z
    → bit_and (x * 2 + cond a 1 0) (y * 2 + cond b 1 0) ≡ z * 2 + cond (a && b) 1 0
and_step x y z a b rest =
    and_block 1 x y (cond a 1 0) (cond b 1 0) (bit_below a) (bit_below b)
    ∙ (λ i. rest i * 2 + bit_both a b i)

or_step : (x y z : ℕ) (a b : Bool) → bit_or x y ≡ z
    → bit_or (x * 2 + cond a 1 0) (y * 2 + cond b 1 0) ≡ z * 2 + cond (a || b) 1 0
or_step x y z a b rest =
    or_block 1 x y (cond a 1 0) (cond b 1 0) (bit_below a) (bit_below b)
    ∙ (λ i. rest i * 2 + bit_either a b i)

-- the number bit by bit
nested : Bool → Bool → Bool → Bool → Bool → Bool → ℕ
nested a b c d e f =
    ((((cond f 1 0 * 2 + cond e 1 0) * 2 + cond d 1 0) * 2 + cond c 1 0) * 2 + cond b 1 0) * 2 + cond a 1 0

scaled : (b : Bool) (n : ℕ) → cond b n 0 ≡ cond b 1 0 * n
scaled true n = omega arith
scaled false n = omega arith

six-nested : (a b c d e f : Bool) → six a b c d e f ≡ nested a b c d e f
unfolding nested
six-nested a b c d e f =
    let two = scaled b 2 in let four = scaled c 4 in let eight = scaled d 8 in
    let sixteen = scaled e 16 in let more = scaled f 32 in
    omega arith

and_nested : (a b c d e f a' b' c' d' e' f' : Bool)
    → bit_and (nested a b c d e f) (nested a' b' c' d' e' f') ≡ nested (a && a') (b && b') (c && c') (d && d') (e && e') (f && f')
unfolding nested
and_nested a b c d e f a' b' c' d' e' f' =
    and_step _ _ _ a a' (and_step _ _ _ b b' (and_step _ _ _ c c' (and_step _ _ _ d d' (and_step _ _ _ e e' (bit_both f f')))))

or_nested : (a b c d e f a' b' c' d' e' f' : Bool)
    → bit_or (nested a b c d e f) (nested a' b' c' d' e' f') ≡ nested (a || a') (b || b') (c || c') (d || d') (e || e') (f || f')
unfolding nested
or_nested a b c d e f a' b' c' d' e' f' =
    or_step _ _ _ a a' (or_step _ _ _ b b' (or_step _ _ _ c c' (or_step _ _ _ d d' (or_step _ _ _ e e' (bit_either f f')))))

and_six : (a b c d e f a' b' c' d' e' f' : Bool)
    → bit_and (six a b c d e f) (six a' b' c' d' e' f') ≡ six (a && a') (b && b') (c && c') (d && d') (e && e') (f && f')
and_six a b c d e f a' b' c' d' e' f' =
    (λ i. bit_and (six-nested a b c d e f i) (six-nested a' b' c' d' e' f' i))
    ∙ and_nested a b c d e f a' b' c' d' e' f'
    ∙ sym (six-nested (a && a') (b && b') (c && c') (d && d') (e && e') (f && f'))

or_six : (a b c d e f a' b' c' d' e' f' : Bool)
    → bit_or (six a b c d e f) (six a' b' c' d' e' f') ≡ six (a || a') (b || b') (c || c') (d || d') (e || e') (f || f')
or_six a b c d e f a' b' c' d' e' f' =
    (λ i. bit_or (six-nested a b c d e f i) (six-nested a' b' c' d' e' f' i))
    ∙ or_nested a b c d e f a' b' c' d' e' f'
    ∙ sym (six-nested (a || a') (b || b') (c || c') (d || d') (e || e') (f || f'))

-- the faces that are in both sets
pub and_faces : (low high low' high' : ℕ → Bool) → bit_and (face_bits low high) (face_bits low' high')
    ≡ face_bits (λ axis. low axis && low' axis) (λ axis. high axis && high' axis)
and_faces low high low' high' =
    and_six (low 0) (high 0) (low 1) (high 1) (low 2) (high 2) (low' 0) (high' 0) (low' 1) (high' 1) (low' 2) (high' 2)

-- the faces that are in one of the sets
pub or_faces : (low high low' high' : ℕ → Bool) → bit_or (face_bits low high) (face_bits low' high')
    ≡ face_bits (λ axis. low axis || low' axis) (λ axis. high axis || high' axis)
or_faces low high low' high' =
    or_six (low 0) (high 0) (low 1) (high 1) (low 2) (high 2) (low' 0) (high' 0) (low' 1) (high' 1) (low' 2) (high' 2)

-- sets of the same faces
pub same_bits : (low high low' high' : ℕ → Bool) → ((axis : ℕ) → low axis ≡ low' axis) → ((axis : ℕ) → high axis ≡ high' axis)
    → face_bits low high ≡ face_bits low' high'
same_bits low high low' high' lows highs = λ i. face_bits (fun_ext lows i) (fun_ext highs i)

-- sets that are the same on each of the three axes
pub same_on_axes : (low high low' high' : ℕ → Bool) → low 0 ≡ low' 0 → high 0 ≡ high' 0 → low 1 ≡ low' 1 → high 1 ≡ high' 1
    → low 2 ≡ low' 2 → high 2 ≡ high' 2 → face_bits low high ≡ face_bits low' high'
same_on_axes low high low' high' a b c d e f = λ i. six (a i) (b i) (c i) (d i) (e i) (f i)
