-- Pair order by cross products, and the mean of two contacts that are added up.
use Rattle.std.proofs.Common.{◌≡◌, ◌≢◌, ◌⊎◌, inl, inr, ℕ, ◌*◌, ◌<◌, ◌≤◌, arith}
use Rattle.std.proofs.Math.Nat.{mul-le-mul_right, mul-lt-mul_of_pos_right, le_of_mul-le-mul_left, lt_of_mul-lt-mul_left}
use Rattle.agglo_model.specs.PairOrder.{Contact, Threshold, Before, Reaches, added}
use Rattle.agglo_model.specs.MeanLaws.{AddsUp, IsStrictOrder}
use Rattle.agglo_model.proofs.Cases.{order_cases}

pub before_irrefl : (c : Contact) → ¬ (Before c c)
before_irrefl c h = omega (arith, h)

pub before_asym : (c d : Contact) → Before c d → ¬ (Before d c)
before_asym c d one other = omega (arith, one, other)

pub before_total : (c d : Contact) → c.tie ≢ d.tie → Before c d ⊎ Before d c
before_total c d apart = grind arith

-- Fractions in three steps: s1 / c1, s2 / c2 and s3 / c3, each no less than the next.
pub falls : (s1 c1 s2 c2 s3 c3 : ℕ) → 0 < c2 → s2 * c1 ≤ s1 * c2 → s3 * c2 ≤ s2 * c3
    → s3 * c1 ≤ s1 * c3
falls s1 c1 s2 c2 s3 c3 pos one other =
    let left = mul-le-mul_right c3 one in
    let right = mul-le-mul_right c1 other in
    let scaled : c2 * (s3 * c1) ≤ c2 * (s1 * c3) = omega (arith, left, right) in
    le_of_mul-le-mul_left scaled pos

-- the same where the first is greater than the second, or the second than the third
falls_first : (s1 c1 s2 c2 s3 c3 : ℕ) → 0 < c3 → s2 * c1 < s1 * c2 → s3 * c2 ≤ s2 * c3
    → s3 * c1 < s1 * c3
falls_first s1 c1 s2 c2 s3 c3 pos one other =
    let left = mul-lt-mul_of_pos_right one pos in
    let right = mul-le-mul_right c1 other in
    let scaled : c2 * (s3 * c1) < c2 * (s1 * c3) = omega (arith, left, right) in
    lt_of_mul-lt-mul_left c2 scaled

falls_second : (s1 c1 s2 c2 s3 c3 : ℕ) → 0 < c1 → s2 * c1 ≤ s1 * c2 → s3 * c2 < s2 * c3
    → s3 * c1 < s1 * c3
falls_second s1 c1 s2 c2 s3 c3 pos one other =
    let left = mul-le-mul_right c3 one in
    let right = mul-lt-mul_of_pos_right other pos in
    let scaled : c2 * (s3 * c1) < c2 * (s1 * c3) = omega (arith, left, right) in
    lt_of_mul-lt-mul_left c2 scaled

pub before_trans : (c d e : Contact) → 0 < c.count → 0 < d.count → 0 < e.count
    → Before c d → Before d e → Before c e
before_trans c d e pc pd pe (inl one) (inl other) =
    inl (falls_first c.sum c.count d.sum d.count e.sum e.count pe one (omega (arith, other)))
before_trans c d e pc pd pe (inl one) (inr (same, tie)) =
    inl (falls_first c.sum c.count d.sum d.count e.sum e.count pe one (omega (arith, same)))
before_trans c d e pc pd pe (inr (same, tie)) (inl other) =
    inl (falls_second c.sum c.count d.sum d.count e.sum e.count pc (omega (arith, same)) other)
before_trans c d e pc pd pe (inr (same, tie)) (inr (same', tie')) =
    let down = falls c.sum c.count d.sum d.count e.sum e.count pd (omega (arith, same)) (omega (arith, same')) in
    let up = falls e.sum e.count d.sum d.count c.sum c.count pd (omega (arith, same')) (omega (arith, same)) in
    inr (omega (arith, down, up), omega (arith, tie, tie'))

pub strict_order : IsStrictOrder
strict_order = record {
  irreflexive = before_irrefl;
  asymmetric = before_asym;
  transitive = before_trans;
  total = before_total;
}

pub added_means : (c d : Contact) → 0 < c.count → 0 < d.count → AddsUp c d (added c d)
added_means c d pc pd = record {
  equal = λ same. (omega arith, omega arith, omega arith);
  above = λ below. (omega arith, omega arith);
  below = λ below. (omega arith, omega arith);
  not_before_first = λ first before. omega (arith, first, before);
  not_before_second = λ first before. omega (arith, first, before);
}

-- what comes before a contact that reaches the threshold reaches it too
pub before-reaches : (t : Threshold) (c d : Contact) → 0 < d.count → Before c d → Reaches t d
    → Reaches t c
before-reaches t c d pos (inl one) reaches =
    falls c.sum c.count d.sum d.count t.p t.q pos (omega (arith, one)) reaches
before-reaches t c d pos (inr (same, tie)) reaches =
    falls c.sum c.count d.sum d.count t.p t.q pos (omega (arith, same)) reaches

-- a contact of the same rank comes before what the other one comes before
same_rank : (c d e : Contact) → 0 < c.count → 0 < d.count → c.sum * d.count ≡ d.sum * c.count → c.tie ≡ d.tie
    → Before c e → Before d e
same_rank c d e pc pd mean tie (inl one) =
    inl (falls_second d.sum d.count c.sum c.count e.sum e.count pd (omega (arith, mean)) one)
same_rank c d e pc pd mean tie (inr (same, before)) =
    let down = falls d.sum d.count c.sum c.count e.sum e.count pc (omega (arith, mean)) (omega (arith, same)) in
    let up = falls e.sum e.count c.sum c.count d.sum d.count pc (omega (arith, same)) (omega (arith, mean)) in
    inr (omega (arith, down, up), omega arith)

-- what stands between two contacts comes after the first or before the second
pub before-between : (c d e : Contact) → 0 < c.count → 0 < d.count → 0 < e.count → Before c e
    → Before c d ⊎ Before d e
before-between c d e pc pd pe before =
    by_cases (order_cases (c.sum * d.count) (d.sum * c.count)) (order_cases c.tie d.tie)
  where
    by_cases : (c.sum * d.count < d.sum * c.count) ⊎ (c.sum * d.count ≡ d.sum * c.count) ⊎ (d.sum * c.count < c.sum * d.count)
        → (c.tie < d.tie) ⊎ (c.tie ≡ d.tie) ⊎ (d.tie < c.tie) → Before c d ⊎ Before d e
    by_cases (inl below) ties = inr (before_trans d c e pd pc pe (inl below) before)
    by_cases (inr (inl same)) (inl less) = inl (inr (same, less))
    by_cases (inr (inl same)) (inr (inl equal)) = inr (same_rank c d e pc pd same equal before)
    by_cases (inr (inl same)) (inr (inr more)) = inr (before_trans d c e pd pc pe (inr (omega (arith, same), more)) before)
    by_cases (inr (inr above)) ties = inl (inl above)
