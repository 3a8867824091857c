-- The parts of a list of bytes, one after another: numbers, records and texts are written back as they were read.
use Rattle.std.proofs.Common.{◌≡◌, inl, inr, ℕ, zero, suc, ◌+◌, ◌*◌, ◌<◌, ◌≤◌, nat_eq, true, List, [], ◌∷◌, ◌++◌, length, take, drop, replicate, sum, map, length-drop, get_or, refl, sym, ap, ◌∙◌, subst, arith, lit<, append_assoc}
use Rattle.std.specs.Prelude.{All}
use Rattle.std.specs.List.{flat_map, range_with_len, starts_with}
use Rattle.std.proofs.Math.Seq.{drop-cons}
use Rattle.std.proofs.lemmas.Bool.{cases_lt}
use Rattle.std.proofs.lemmas.Bool.Decides.{Decides-eqb}
use Rattle.std.proofs.lemmas.List.{drop-drop, get_or_past, length-take-le, take-append-drop}
use Rattle.std.proofs.lemmas.List.Sums.{sum_by-cons}
use Rattle.std.proofs.lemmas.Slice.Eq.{starts_is}
use Rattle.agglo_model.specs.LabelFile.{u32_bytes, axes_bytes}
use Rattle.agglo_model.specs.MergeTree.{u64_bytes, merge_bytes}
use Rattle.agglo_model.specs.VolumeFile.{u32_at, axes_at}
use Rattle.agglo_model.specs.Numbers.{u64_at}
use Rattle.agglo_model.specs.TreeFile.{record_length, merge_at}
use Rattle.agglo_model.proofs.Digits.{four_bytes, eight_bytes}

-- the part stands in the bytes from number `from` up to number `to`
pub record Stands (bytes : List ℕ) (from to : ℕ) (part : List ℕ) : Type 0 where
  pub is : part ++ drop to bytes ≡ drop from bytes

-- one part after another
pub joined : {bytes : List ℕ} {from between to : ℕ} {a b : List ℕ} → Stands bytes from between a
    → Stands bytes between to b → Stands bytes from to (a ++ b)
joined {bytes} {from} {between} {to} {a} {b} one other =
    record { is = append_assoc a b (drop to bytes) ∙ (ap (λ rest. a ++ rest) other.is ∙ one.is) }

-- bytes that begin with a text
pub text_stands : (bytes text : List ℕ) → starts_with nat_eq bytes text ≡ true → Stands bytes 0 (length text) text
text_stands bytes text begins =
    record { is = sym ((starts_is Decides-eqb bytes text (starts_with nat_eq bytes text) refl).0 begins) }

all_zero : (xs : List ℕ) → sum xs ≡ 0 → xs ≡ replicate (length xs) 0
all_zero [] none = refl
all_zero (x ∷ xs) none =
    let both = sum_by-cons (λ y. y) x xs in
    let head : x ≡ 0 = omega (arith, both, none) in
    let tail = all_zero xs (omega (arith, both, none)) in
    λ i. head i ∷ tail i

-- bytes whose sum is 0
pub zeros_stand : (bytes : List ℕ) (k n : ℕ) → k + n ≤ length bytes → sum (take n (drop k bytes)) ≡ 0
    → Stands bytes k (k + n) (replicate n 0)
zeros_stand bytes k n long none =
    let left = length-drop k bytes in
    let size : length (take n (drop k bytes)) ≡ n = length-take-le n (drop k bytes) (omega (arith, left)) in
    let zeros : take n (drop k bytes) ≡ replicate n 0 =
    all_zero (take n (drop k bytes)) none ∙ ap (λ m. replicate m 0) size in
    record {
      is =
          (λ i. sym zeros i ++ sym (drop-drop n k bytes) i) ∙ take-append-drop n (drop k bytes);
    }

module _ (bytes : List ℕ) (small : All (λ byte. byte < 256) bytes) where
  pub fits : (k : ℕ) → get_or bytes k 0 < 256
  fits k = elim (cases_lt k (length bytes)) [
    | inl below ↦ small k 0 below
    | inr past ↦ subst (λ byte. byte < 256) (sym (get_or_past bytes k 0 past)) (lit< tt)
  ]

  byte_from : (k n : ℕ) → suc k ≡ n → n ≤ length bytes → drop k bytes ≡ get_or bytes k 0 ∷ drop n bytes
  byte_from k n next long =
      drop-cons bytes k 0 (omega arith) ∙ ap (λ j. get_or bytes k 0 ∷ drop j bytes) next

  four_from : (k n : ℕ) → k + 4 ≡ n → n ≤ length bytes
      → drop k bytes ≡ get_or bytes k 0 ∷ get_or bytes (k + 1) 0 ∷ get_or bytes (k + 2) 0 ∷ get_or bytes (k + 3) 0 ∷ drop n bytes
  four_from k n next long =
      let e0 = byte_from k (k + 1) (omega arith) (omega arith) in
      let e1 = byte_from (k + 1) (k + 2) (omega arith) (omega arith) in
      let e2 = byte_from (k + 2) (k + 3) (omega arith) (omega arith) in
      let e3 = byte_from (k + 3) n (omega arith) long in
      cc (e0, e1, e2, e3)

  pub u32_stands : (k n : ℕ) → k + 4 ≡ n → n ≤ length bytes → Stands bytes k n (u32_bytes (u32_at k bytes))
  u32_stands k n next long =
      let written = four_bytes (get_or bytes k 0) (get_or bytes (k + 1) 0) (get_or bytes (k + 2) 0) (get_or bytes (k + 3) 0)
      (fits k) (fits (k + 1)) (fits (k + 2)) (fits (k + 3)) in
      record { is = ap (λ part. part ++ drop n bytes) written ∙ sym (four_from k n next long) }

  pub u64_stands : (k n : ℕ) → k + 8 ≡ n → n ≤ length bytes → Stands bytes k n (u64_bytes (u64_at k bytes))
  u64_stands k n next long =
      let byte = λ (j : ℕ). get_or bytes j 0 in
      let written = eight_bytes (byte k) (byte (k + 1)) (byte (k + 2)) (byte (k + 3)) (byte (k + 4)) (byte (k + 4 + 1)) (byte (k + 4 + 2)) (byte (k + 4 + 3))
      (fits k) (fits (k + 1)) (fits (k + 2)) (fits (k + 3)) (fits (k + 4)) (fits (k + 4 + 1)) (fits (k + 4 + 2)) (fits (k + 4 + 3)) in
      let low = four_from k (k + 4) refl (omega arith) in
      let high = four_from (k + 4) n (omega arith) long in
      record {
        is = ap (λ part. part ++ drop n bytes) written
            ∙ sym (low ∙ ap (λ rest. byte k ∷ byte (k + 1) ∷ byte (k + 2) ∷ byte (k + 3) ∷ rest) high);
      }

  pub axes_stand : (k n : ℕ) → k + 12 ≡ n → n ≤ length bytes → Stands bytes k n (axes_bytes (axes_at k bytes))
  axes_stand k n next long =
      joined (u32_stands k (k + 4) refl (omega arith))
      (joined (u32_stands (k + 4) (k + 8) (omega arith) (omega arith)) (u32_stands (k + 8) n (omega arith) long))

  merge_stands : (k n : ℕ) → k + record_length ≡ n → n ≤ length bytes → Stands bytes k n (merge_bytes (merge_at k bytes))
  merge_stands k n next long =
      joined (u32_stands k (k + 4) refl (omega arith))
      (joined (u32_stands (k + 4) (k + 8) (omega arith) (omega arith))
      (joined (u64_stands (k + 8) (k + 16) (omega arith) (omega arith))
      (joined (u64_stands (k + 16) (k + 24) (omega arith) (omega arith)) (u64_stands (k + 24) n (omega arith) long))))

  -- the records from number s on
  pub merges_stand : (n s to : ℕ) → record_length * (s + n) ≡ to → to ≤ length bytes
      → Stands bytes (record_length * s) to
      (flat_map merge_bytes (map (λ i. merge_at (record_length * i) bytes) (range_with_len s n)))
  merges_stand zero s to end long =
      let same : to ≡ record_length * s = omega arith in
      record { is = ap (λ k. drop k bytes) same }
  merges_stand (suc n) s to end long =
      joined (merge_stands (record_length * s) (record_length * (s + 1)) (omega arith) (omega arith))
      (merges_stand n (s + 1) to (omega arith) long)
