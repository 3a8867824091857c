-- The contact of two regions as three numbers, the order of contacts, and the threshold.
use Rattle.std.specs.Prelude.{◌≡◌, ℕ, ◌+◌, ◌*◌, ◌^◌, ◌<◌, ◌≤◌, ◌⊎◌, min}

-- the sum of the affinities of the contact's edges, how many edges they are, and the least of their
-- numbers, which breaks ties; the mean affinity is sum / count
pub record Contact : Type 0 where
  pub sum : ℕ
  pub count : ℕ
  pub tie : ℕ

-- as many edge numbers as the largest volume has: three for each of 2^28 voxels
abbrev pub most_edges : ℕ
most_edges = 3 * 2 ^ 28

-- the three numbers can be those of a contact: some edges, no more than the largest volume has, a
-- byte for each of them, and an edge number as the tie
pub record IsWithinLimits (c : Contact) : Type 0 where
  pub some : 0 < c.count
  pub few : c.count ≤ most_edges
  pub bytes : c.sum ≤ 255 * c.count
  pub edge : c.tie < most_edges

-- the contact of two sets of edges that share none
abbrev pub added : Contact → Contact → Contact
added c d = record { sum = c.sum + d.sum; count = c.count + d.count; tie = min c.tie d.tie }

-- c comes before d: its mean is greater, or the means are equal and its tie is smaller. Two means are
-- compared as fractions, by the products across.
abbrev pub Before : Contact → Contact → Type 0
Before c d = (d.sum * c.count < c.sum * d.count)
    ⊎ ((c.sum * d.count ≡ d.sum * c.count) × (c.tie < d.tie))

-- neither comes before the other: the means are equal and the ties are equal
pub record SameRank (c d : Contact) : Type 0 where
  pub mean : c.sum * d.count ≡ d.sum * c.count
  pub tie : c.tie ≡ d.tie

-- the mean p / q from which on regions are merged
pub record Threshold : Type 0 where
  pub p : ℕ
  pub q : ℕ

-- the contact's mean is at least the threshold
abbrev pub Reaches : Threshold → Contact → Type 0
Reaches t c = t.p * c.count ≤ c.sum * t.q
