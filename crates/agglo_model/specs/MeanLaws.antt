-- What the pair order is like, and what becomes of a contact when two regions are merged.
use Rattle.std.specs.Prelude.{◌≡◌, ◌≢◌, ℕ, ◌*◌, ◌<◌, ◌≤◌, ◌⊎◌, min, true, List}
use Rattle.agglo_model.specs.Grid.{Grid}
use Rattle.agglo_model.specs.PairOrder.{Contact, Before, added}
use Rattle.agglo_model.specs.Contacts.{between, joins, InContact, renamed}

-- the mean of c is below that of d; the two means are equal
abbrev pub MeanBelow : Contact → Contact → Type 0
MeanBelow c d = c.sum * d.count < d.sum * c.count

abbrev pub SameMean : Contact → Contact → Type 0
SameMean c d = c.sum * d.count ≡ d.sum * c.count

-- pair order is strict, and total on contacts with different ties
pub record IsStrictOrder : Type 0 where
  pub irreflexive : (c : Contact) → ¬ (Before c c)
  pub asymmetric : (c d : Contact) → Before c d → ¬ (Before d c)
  pub transitive : (c d e : Contact) → 0 < c.count → 0 < d.count → 0 < e.count
      → Before c d → Before d e → Before c e
  pub total : (c d : Contact) → c.tie ≢ d.tie → Before c d ⊎ Before d c

-- Two contacts that are added up have the mean of both where these are equal, with the lesser tie,
-- and else a mean strictly between them. The sum doesn't come before the earlier of the two.
pub record AddsUp (c d both : Contact) : Type 0 where
  pub equal : SameMean c d → SameMean both c × SameMean both d × (both.tie ≡ min c.tie d.tie)
  pub above : MeanBelow c d → MeanBelow c both × MeanBelow both d
  pub below : MeanBelow d c → MeanBelow d both × MeanBelow both c
  pub not_before_first : Before c d → ¬ (Before both c)
  pub not_before_second : Before d c → ¬ (Before both d)

-- the contact of two names: it counts where an edge joins them, and its tie is the least such edge
pub record IsLeastEdge (g : Grid) (labels : List ℕ) (a b : ℕ) : Type 0 where
  pub some : (e : ℕ) → joins g labels a b e ≡ true → InContact g labels a b
  pub least : (e : ℕ) → joins g labels a b e ≡ true → (between g labels a b).tie ≤ e
  pub joined : InContact g labels a b → joins g labels a b (between g labels a b).tie ≡ true

-- Under one label list, different pairs of names in contact have different ties.
abbrev pub TiesDiffer : Type 0
TiesDiffer = (g : Grid) (labels : List ℕ) (a b c d : ℕ) → InContact g labels a b
    → InContact g labels c d → (between g labels a b).tie ≡ (between g labels c d).tie
    → ((c ≡ a) × (d ≡ b)) ⊎ ((c ≡ b) × (d ≡ a))

-- Once b has taken the name a, the contact of a with a third name is that of both added up, and the
-- contacts of other names stay as they were.
pub record MergesContacts (g : Grid) (labels : List ℕ) (a b : ℕ) : Type 0 where
  pub third : (c : ℕ) → c ≢ a → c ≢ b
      → between g (renamed labels a b) a c ≡ added (between g labels a c) (between g labels b c)
  pub others : (c d : ℕ) → c ≢ a → c ≢ b → d ≢ a → d ≢ b
      → between g (renamed labels a b) c d ≡ between g labels c d

-- Reducibility: a third name c that touches a and b has afterwards a contact with a that adds up;
-- one that touches only one of them keeps its contact.
pub record IsReducible (g : Grid) (labels : List ℕ) (a b c : ℕ) : Type 0 where
  pub both : InContact g labels a c → InContact g labels b c
      → AddsUp (between g labels a c) (between g labels b c) (between g (renamed labels a b) a c)
  pub first : InContact g labels a c → ¬ (InContact g labels b c)
      → between g (renamed labels a b) a c ≡ between g labels a c
  pub second : ¬ (InContact g labels a c) → InContact g labels b c
      → between g (renamed labels a b) a c ≡ between g labels b c
