-- Contacts as numbers: of two contacts the one that comes first in pair order has the greater number.
use Rattle.std.specs.Prelude.{ℕ, ◌+◌, ◌-◌, ◌*◌, ◌/◌, ◌^◌}
use Rattle.agglo_model.specs.PairOrder.{Contact}

-- the mean in units of 2^-60, rounded down
abbrev pub scaled_mean : Contact → ℕ
scaled_mean c = c.sum * 2 ^ 60 / c.count

-- The mean, and below it the tie, of which the smaller counts for more. Two means of contacts within limits that are
-- not the same are 2^-60 apart or more, so that they are not rounded to one number.
abbrev pub order_number : Contact → ℕ
order_number c = scaled_mean c * 2 ^ 30 + (2 ^ 30 - 1 - c.tie)
