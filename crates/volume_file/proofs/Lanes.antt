-- Lanes of a generated volume, and its bytes from turn to turn.
use Rattle.std.proofs.Common.{◌≡◌, ℕ, zero, suc, ◌+◌, ◌-◌, ◌*◌, ◌/◌, ◌%◌, ◌^◌, ◌<◌, ◌≤◌, List, ◌∷◌, ◌++◌, length, take, set, get_or, map, inl, inr, refl, sym, ap, ◌∙◌, subst, arith}
use Rattle.std.specs.List.{range_with_len}
use Rattle.std.proofs.lemmas.Bool.{cases_lt}
use Rattle.std.proofs.lemmas.List.{ext_get_or, get_or-set_same, get_or-set_other, map-append}
use Rattle.std.proofs.lemmas.List.FromFn.{get_or-map-range_with_len, length-map-range_with_len, take-map-range_with_len}
use Rattle.agglo_model.specs.Generated.{number_after, generated_byte}
use Rattle.volume_file.specs.Generating.{AreHighs, StandsAt, bytes_from}
use Rattle.volume_file.specs.declared.sequence.Sequence.{Sequence}
use Rattle.volume_file.proofs.Rounds.{again, number_later, highs_fit, risen}

-- a lane more, where those before are set
pub lane_set : (f : ℕ → ℕ) (i j : ℕ) (lanes : List ℕ) (number : ℕ) → i < length lanes → number ≡ f i
    → (j < i → get_or lanes j 0 ≡ f j) → j < i + 1 → get_or (set lanes i number) j 0 ≡ f j
lane_set f i j lanes number inside is before below = elim (cases_lt j i) [
  | inl less ↦ get_or-set_other lanes i j number 0 (omega (arith, less)) ∙ before less
  | inr last ↦
      let same : j ≡ i = omega (arith, last, below) in
      ap (λ k. get_or (set lanes i number) k 0) same ∙ get_or-set_same lanes i number 0 inside ∙ is ∙ ap f (sym same)
]

-- the highest bytes of the highest bits are those of the edges
pub are_bytes : (first e : ℕ) (high bytes : List ℕ) → length bytes ≡ 65536 → AreHighs first e high
    → ((i : ℕ) → i < 65536 → get_or bytes i 0 ≡ get_or high i 0 / 2 ^ 8) → bytes ≡ bytes_from first e
unfolding bytes_from
are_bytes first e high bytes long are each =
    let as_long = length-map-range_with_len (generated_byte first) e 65536 in
    ext_get_or 0 bytes (map (generated_byte first) (range_with_len e 65536)) (long ∙ sym as_long)
    (λ i below.
    let inside : i < 65536 = omega (arith, below, long) in
    let top : number_after first (e + i + 1) / 2 ^ 16 / 2 ^ 8 ≡ number_after first (e + i + 1) / 2 ^ 24 = omega arith in
    each i inside ∙ ap (λ h. h / 2 ^ 8) (are i inside) ∙ top
    ∙ sym (get_or-map-range_with_len (generated_byte first) e 65536 i (e + i) 0 inside refl))

-- the lanes a turn later
pub place_later : (first e : ℕ) (high rise later : List ℕ) → StandsAt first e (record { high = high; rise = rise })
    → ((i : ℕ) → i < 65536 → get_or later i 0 ≡ (get_or high i 0 + get_or rise i 0) % 2 ^ 16)
    → StandsAt first (e + 65536) (record { high = later; rise = rise })
place_later first e high rise later is each =
    let same = λ (i : ℕ) (inside : i < 65536). each i inside ∙ is.1 i inside in (
      λ i inside.
          let place : e + i + 1 + 65536 ≡ e + 65536 + i + 1 = omega arith in
          same i inside ∙ ap (λ n. number_after first n / 2 ^ 16) place,
      λ i inside.
          let place : e + i + 1 + 65536 + 65536 ≡ e + 65536 + i + 1 + 65536 = omega arith in
          ap (λ h. (h + get_or rise i 0) % 2 ^ 16) (same i inside)
          ∙ again first (e + i) (get_or rise i 0) (ap (λ h. (h + get_or rise i 0) % 2 ^ 16) (sym (is.0 i inside)) ∙ is.1 i inside)
          ∙ ap (λ n. number_after first n / 2 ^ 16) place,
    )

-- the lanes at the start
pub first_place : (first last : ℕ) (high later rise : List ℕ) → AreHighs first 0 high → last ≡ number_after first 65536 → AreHighs last 0 later
    → ((i : ℕ) → i < 65536 → get_or rise i 0 ≡ (get_or later i 0 + 2 ^ 16 - get_or high i 0) % 2 ^ 16)
    → StandsAt first 0 (record { high = high; rise = rise })
first_place first last high later rise are is are_later each = (
  are,
  λ i inside.
      let place : 65536 + (0 + i + 1) ≡ 0 + i + 1 + 65536 = omega arith in
      let high_fits : get_or high i 0 < 2 ^ 16 = highs_fit first i (get_or high i 0) (are i inside) in
      let next : get_or later i 0 ≡ number_after first (0 + i + 1 + 65536) / 2 ^ 16 =
      are_later i inside ∙ ap (λ x. number_after x (0 + i + 1) / 2 ^ 16) is
      ∙ ap (λ x. x / 2 ^ 16) (number_later first 65536 (0 + i + 1)) ∙ ap (λ n. number_after first n / 2 ^ 16) place in
      let later_fits : get_or later i 0 < 2 ^ 16 = highs_fit last i (get_or later i 0) (are_later i inside) in
      risen (get_or high i 0) (get_or later i 0) (get_or rise i 0) high_fits later_fits (each i inside) ∙ next,
)

-- one run of numbers after another
range_append : (a n m b : ℕ) → a + n ≡ b → range_with_len a n ++ range_with_len b m ≡ range_with_len a (n + m)
range_append a zero m b meets =
    let start : b ≡ a = omega (arith, meets) in
    let count : m ≡ 0 + m = omega arith in
    λ i. range_with_len (start i) (count i)
range_append a (suc n) m b meets =
    let count : suc (n + m) ≡ suc n + m = omega arith in
    ap (λ l. a ∷ l) (range_append (a + 1) n m b (omega (arith, meets))) ∙ ap (range_with_len a) count

pub bytes_append : (first n m : ℕ) (front back : List ℕ) → front ≡ map (generated_byte first) (range_with_len 0 n)
    → back ≡ map (generated_byte first) (range_with_len n m) → front ++ back ≡ map (generated_byte first) (range_with_len 0 (n + m))
bytes_append first n m front back before after =
    (λ i. before i ++ after i)
    ∙ sym (map-append (generated_byte first) (range_with_len 0 n) (range_with_len n m))
    ∙ ap (map (generated_byte first)) (range_append 0 n m n (omega arith))

-- 65536 bytes more, after those of 65536 a turn
pub turn_appended : (first k : ℕ) (bytes body : List ℕ) → bytes ≡ bytes_from first (65536 * k)
    → body ≡ map (generated_byte first) (range_with_len 0 (65536 * k))
    → body ++ bytes ≡ map (generated_byte first) (range_with_len 0 (65536 * (k + 1)))
unfolding bytes_from
turn_appended first k bytes body are so_far =
    let count : 65536 * k + 65536 ≡ 65536 * (k + 1) = omega arith in
    bytes_append first (65536 * k) 65536 body bytes so_far are ∙ ap (λ n. map (generated_byte first) (range_with_len 0 n)) count

-- the rest, which is less than one turn more
pub rest_appended : (first count k : ℕ) (bytes body : List ℕ) → k ≡ count / 65536
    → bytes ≡ bytes_from first (65536 * k)
    → body ≡ map (generated_byte first) (range_with_len 0 (65536 * k))
    → body ++ take (count % 65536) bytes ≡ map (generated_byte first) (range_with_len 0 count)
unfolding bytes_from
rest_appended first count k bytes body turns are so_far =
    let all : 65536 * k + count % 65536 ≡ count = omega (arith, turns) in
    let few : count % 65536 ≤ 65536 = omega arith in
    bytes_append first (65536 * k) (count % 65536) body (take (count % 65536) bytes) so_far
    (ap (take (count % 65536)) are ∙ take-map-range_with_len (generated_byte first) (65536 * k) 65536 (count % 65536) few)
    ∙ ap (λ n. map (generated_byte first) (range_with_len 0 n)) all

-- a turn of a sequence
pub turned : (first k : ℕ) (now : Sequence) → StandsAt first (65536 * k + 65536) now → StandsAt first (65536 * (k + 1)) now
turned first k now is =
    let count : 65536 * k + 65536 ≡ 65536 * (k + 1) = omega arith in
    subst (λ e. StandsAt first e now) count is
