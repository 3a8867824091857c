-- Contacts within limits stand in pair order as their numbers do.
use Rattle.std.proofs.Common.{◌≡◌, ◌⊎◌, ◌↔◌, inl, inr, ℕ, suc, ◌*◌, ◌/◌, ◌^◌, ◌<◌, ◌≤◌, arith}
use Rattle.std.proofs.Math.Nat.{div-mul-le_self, le-div_iff_mul-le, le_of_mul-le-mul_left, mul-le-mul, mul-le-mul_left, mul-le-mul_right}
use Rattle.agglo_model.specs.PairOrder.{Contact, IsWithinLimits, Before, most_edges}
use Rattle.agglo_model.proofs.Cases.{order_cases}
use Rattle.mean_fraction.specs.OrderNumbers.{order_number, scaled_mean}

-- Fractions times u, rounded down: where the product of the denominators is not above u, the greater has the greater.
scaled_lt : (s c t d u : ℕ) → 0 < c → 0 < d → c * d ≤ u → s * d < t * c → s * u / c < t * u / d
scaled_lt s c t d u pos pos' few less =
    let whole : s * u / c * c ≤ s * u = div-mul-le_self (s * u) c in
    let scaled : s * u / c * c * d ≤ s * u * d = mul-le-mul_right d whole in
    let step : u * suc (s * d) ≤ u * (t * c) = mul-le-mul_left u less in
    let enough : c * (suc (s * u / c) * d) ≤ c * (t * u) = omega (arith, scaled, step, few) in
    (le-div_iff_mul-le pos').1 (le_of_mul-le-mul_left enough pos)

-- equal fractions have the same
scaled_le : (s c t d u : ℕ) → 0 < c → 0 < d → s * d ≤ t * c → s * u / c ≤ t * u / d
scaled_le s c t d u pos pos' less =
    let whole : s * u / c * c ≤ s * u = div-mul-le_self (s * u) c in
    let scaled : s * u / c * c * d ≤ s * u * d = mul-le-mul_right d whole in
    let step : u * (s * d) ≤ u * (t * c) = mul-le-mul_left u less in
    let enough : c * (s * u / c * d) ≤ c * (t * u) = omega (arith, scaled, step) in
    (le-div_iff_mul-le pos').1 (le_of_mul-le-mul_left enough pos)

few_pairs : (c d : Contact) → IsWithinLimits c → IsWithinLimits d → c.count * d.count ≤ 2 ^ 60
few_pairs c d wc wd =
    let most : c.count * d.count ≤ most_edges * most_edges = mul-le-mul wc.few wd.few in
    omega (arith, most)

mean_lt : (c d : Contact) → IsWithinLimits c → IsWithinLimits d → d.sum * c.count < c.sum * d.count
    → order_number d < order_number c
mean_lt c d wc wd less =
    let above : scaled_mean d < scaled_mean c = scaled_lt d.sum d.count c.sum c.count (2 ^ 60) wd.some wc.some (few_pairs d c wd wc) less in
    omega (arith, above, wc.edge, wd.edge)

same_mean : (c d : Contact) → IsWithinLimits c → IsWithinLimits d → c.sum * d.count ≡ d.sum * c.count
    → scaled_mean c ≡ scaled_mean d
same_mean c d wc wd same =
    let up : scaled_mean c ≤ scaled_mean d = scaled_le c.sum c.count d.sum d.count (2 ^ 60) wc.some wd.some (omega (arith, same)) in
    let down : scaled_mean d ≤ scaled_mean c = scaled_le d.sum d.count c.sum c.count (2 ^ 60) wd.some wc.some (omega (arith, same)) in
    omega (arith, up, down)

pub number_lt-before : (c d : Contact) → IsWithinLimits c → IsWithinLimits d → Before c d → order_number d < order_number c
number_lt-before c d wc wd (inl less) = mean_lt c d wc wd less
number_lt-before c d wc wd (inr (same, tie)) =
    omega (arith, same_mean c d wc wd same, tie, wc.edge, wd.edge)

pub before-number_lt : (c d : Contact) → IsWithinLimits c → IsWithinLimits d → order_number d < order_number c → Before c d
before-number_lt c d wc wd less =
    by_means (order_cases (d.sum * c.count) (c.sum * d.count))
  where
    by_ties : d.sum * c.count ≡ c.sum * d.count → (c.tie < d.tie) ⊎ (c.tie ≡ d.tie) ⊎ (d.tie < c.tie) → Before c d
    by_ties same (inl tie) = inr (omega (arith, same), tie)
    by_ties same (inr (inl tie)) = absurd (omega (arith, less, tie, same_mean c d wc wd (omega (arith, same))))
    by_ties same (inr (inr tie)) = absurd (omega (arith, less, tie, same_mean c d wc wd (omega (arith, same)), wc.edge, wd.edge))

    by_means : (d.sum * c.count < c.sum * d.count) ⊎ (d.sum * c.count ≡ c.sum * d.count) ⊎ (c.sum * d.count < d.sum * c.count) → Before c d
    by_means (inl above) = inl above
    by_means (inr (inl same)) = by_ties same (order_cases c.tie d.tie)
    by_means (inr (inr below)) = absurd (omega (arith, less, mean_lt d c wd wc below))

-- Of two contacts within limits the one that comes first has the greater number.
pub number_order : (c d : Contact) → IsWithinLimits c → IsWithinLimits d → Before c d ↔ (order_number d < order_number c)
number_order c d wc wd = (number_lt-before c d wc wd, before-number_lt c d wc wd)
