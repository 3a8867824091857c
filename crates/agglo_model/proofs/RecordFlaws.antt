-- The tests of one record of a tree file: what they mean, and what flaw follows from them.
use Rattle.std.proofs.Common.{◌≡◌, ◌≢◌, ℕ, ◌+◌, ◌-◌, ◌*◌, ◌<◌, ◌≤◌, ◌==◌, ◌||◌, ◌⊎◌, nat_lt, nat_le, Bool, true, false, not, ◌&&◌, if◌then◌else◌, List, length, get_or, Option, Some, None, refl, sym, ap, ◌∙◌, subst, arith, inl, inr}
use Rattle.std.proofs.lemmas.Bool.Decides.{nat_tests}
use Rattle.std.proofs.lemmas.List.{get_or_default}
use Rattle.std.proofs.lemmas.List.Sums.{AllPass-from_list_all, list_all-from_AllPass}
use Rattle.agglo_model.specs.Axes.{Axes, voxel_count, edge_count}
use Rattle.agglo_model.specs.PairOrder.{Contact, Threshold, Before, Reaches}
use Rattle.agglo_model.specs.Greedy.{Merge}
use Rattle.agglo_model.specs.MergeTree.{HasNames, HasNumbers, Keeps}
use Rattle.agglo_model.specs.TreeFile.{TreeFlaw, BadNames, BadContact, Order, Below, has_names, has_numbers, follows, reaches, comes_before, is_alive, record_flaw}

-- what is judged of record n by the four tests in turn
pub judged : Bool → Bool → Bool → Bool → ℕ → Option TreeFlaw
judged names numbers next above n =
    if names then (if numbers then (if next then (if above then None else Some (Below n)) else Some (Order n)) else Some (BadContact n))
    else Some (BadNames n)

-- the flaw of a record by its tests
pub flaw_is : (axes : Axes) (t : Threshold) (earlier : List Merge) (m : Merge) (names numbers next above : Bool)
    → has_names axes earlier m ≡ names → has_numbers axes m.contact ≡ numbers → follows earlier m ≡ next → reaches t m.contact ≡ above
    → record_flaw axes t earlier m ≡ judged names numbers next above (length earlier)
unfolding record_flaw judged
flaw_is axes t earlier m names numbers next above p q r s = λ i. judged (p i) (q i) (r i) (s i) (length earlier)

-- a flaw for each test that is the first to fail
pub names_flaw : (axes : Axes) (t : Threshold) (earlier : List Merge) (m : Merge) → has_names axes earlier m ≡ false
    → record_flaw axes t earlier m ≡ Some (BadNames (length earlier))
unfolding judged
names_flaw axes t earlier m p = flaw_is axes t earlier m false _ _ _ p refl refl refl

pub contact_flaw : (axes : Axes) (t : Threshold) (earlier : List Merge) (m : Merge) → has_names axes earlier m ≡ true
    → has_numbers axes m.contact ≡ false → record_flaw axes t earlier m ≡ Some (BadContact (length earlier))
unfolding judged
contact_flaw axes t earlier m p q = flaw_is axes t earlier m true false _ _ p q refl refl

pub order_flaw : (axes : Axes) (t : Threshold) (earlier : List Merge) (m : Merge) → has_names axes earlier m ≡ true
    → has_numbers axes m.contact ≡ true → follows earlier m ≡ false → record_flaw axes t earlier m ≡ Some (Order (length earlier))
unfolding judged
order_flaw axes t earlier m p q r = flaw_is axes t earlier m true true false _ p q r refl

pub below_flaw : (axes : Axes) (t : Threshold) (earlier : List Merge) (m : Merge) → has_names axes earlier m ≡ true
    → has_numbers axes m.contact ≡ true → follows earlier m ≡ true → reaches t m.contact ≡ false
    → record_flaw axes t earlier m ≡ Some (Below (length earlier))
unfolding judged
below_flaw axes t earlier m p q r s = flaw_is axes t earlier m true true true false p q r s

-- a record that passes all four tests
pub record IsSound (axes : Axes) (t : Threshold) (earlier : List Merge) (m : Merge) : Type 0 where
  pub names : has_names axes earlier m ≡ true
  pub numbers : has_numbers axes m.contact ≡ true
  pub next : follows earlier m ≡ true
  pub above : reaches t m.contact ≡ true

pub no_flaw : (axes : Axes) (t : Threshold) (earlier : List Merge) (m : Merge) → IsSound axes t earlier m
    → record_flaw axes t earlier m ≡ None
unfolding judged
no_flaw axes t earlier m s = flaw_is axes t earlier m true true true true s.names s.numbers s.next s.above

all_true : (names numbers next above : Bool) (n : ℕ) → judged names numbers next above n ≡ None
    → (names ≡ true) × (numbers ≡ true) × (next ≡ true) × (above ≡ true)
unfolding judged
all_true true true true true n e = (refl, refl, refl, refl)
all_true true true true false n e = absurd (cc)
all_true true true false above n e = absurd (cc)
all_true true false next above n e = absurd (cc)
all_true false numbers next above n e = absurd (cc)

-- no flaw only where all four tests are passed
pub sound_record : (axes : Axes) (t : Threshold) (earlier : List Merge) (m : Merge) → record_flaw axes t earlier m ≡ None
    → IsSound axes t earlier m
sound_record axes t earlier m e =
    let all = all_true (has_names axes earlier m) (has_numbers axes m.contact) (follows earlier m) (reaches t m.contact) (length earlier)
    (sym (flaw_is axes t earlier m _ _ _ _ refl refl refl refl) ∙ e) in
    record { names = all.0; numbers = all.1; next = all.2; above = all.3 }

-- the tests of names
names_parts : (s a n : ℕ) (alive_s alive_a : Bool) → (nat_lt 0 s && (nat_lt s a && (nat_le a n && (alive_s && alive_a)))) ≡ true
    → (0 < s) × (s < a) × (a ≤ n) × (alive_s ≡ true) × (alive_a ≡ true)
names_parts s a n alive_s alive_a h = (grind (arith, nat_tests), grind (arith, nat_tests), grind (arith, nat_tests), grind (arith, nat_tests), grind (arith, nat_tests))

pub names_mean : (axes : Axes) (earlier : List Merge) (m : Merge) → has_names axes earlier m ≡ true → HasNames axes m
names_mean axes earlier m h =
    let parts = names_parts m.survivor m.absorbed (voxel_count axes) (is_alive earlier m.survivor) (is_alive earlier m.absorbed) h in
    record { named = parts.0; ordered = parts.1; in_range = parts.2 }

pub alive_means : (earlier : List Merge) (name k : ℕ) (d : Merge) → is_alive earlier name ≡ true → k < length earlier
    → (get_or earlier k d).absorbed ≢ name
unfolding is_alive
alive_means earlier name k d alive below =
    let pass = AllPass-from_list_all (λ m. not (m.absorbed == name)) earlier alive k d below in
    λ e. grind (arith, nat_tests, pass, e)

pub names_keep : (axes : Axes) (earlier : List Merge) (m : Merge) → has_names axes earlier m ≡ true
    → (k : ℕ) (d : Merge) → k < length earlier → Keeps (get_or earlier k d) m
names_keep axes earlier m h k d below =
    let parts = names_parts m.survivor m.absorbed (voxel_count axes) (is_alive earlier m.survivor) (is_alive earlier m.absorbed) h in
    record { survivor = alive_means earlier m.survivor k d parts.3 below; absorbed = alive_means earlier m.absorbed k d parts.4 below }

pub alive_where : (earlier : List Merge) (name : ℕ) → ((k : ℕ) (d : Merge) → k < length earlier → (get_or earlier k d).absorbed ≢ name)
    → is_alive earlier name ≡ true
unfolding is_alive
alive_where earlier name others =
    list_all-from_AllPass (λ m. not (m.absorbed == name)) earlier (λ k d below. let other = others k d below in grind (arith, nat_tests, other))

pub names_pass : (axes : Axes) (earlier : List Merge) (m : Merge) → HasNames axes m
    → ((k : ℕ) (d : Merge) → k < length earlier → Keeps (get_or earlier k d) m) → has_names axes earlier m ≡ true
names_pass axes earlier m names keeps =
    whole m.survivor m.absorbed (voxel_count axes) (is_alive earlier m.survivor) (is_alive earlier m.absorbed) names.named names.ordered names.in_range
    (alive_where earlier m.survivor (λ k d below. (keeps k d below).survivor)) (alive_where earlier m.absorbed (λ k d below. (keeps k d below).absorbed))
  where
    whole : (s a n : ℕ) (alive_s alive_a : Bool) → 0 < s → s < a → a ≤ n → alive_s ≡ true → alive_a ≡ true
        → (nat_lt 0 s && (nat_lt s a && (nat_le a n && (alive_s && alive_a)))) ≡ true
    whole s a n alive_s alive_a p q r u v = grind (arith, nat_tests)

-- the test of numbers
pub numbers_mean : (axes : Axes) (c : Contact) → has_numbers axes c ≡ true → HasNumbers axes c
numbers_mean axes c h = let parts = split c.sum c.count c.tie (edge_count axes) h in record { some = parts.0; few = parts.1; bytes = parts.2; edge = parts.3 }
  where
    split : (s n t edges : ℕ) → (nat_lt 0 n && (nat_le n edges && (nat_le s (255 * n) && nat_lt t edges))) ≡ true
        → (0 < n) × (n ≤ edges) × (s ≤ 255 * n) × (t < edges)
    split s n t edges h = (grind (arith, nat_tests), grind (arith, nat_tests), grind (arith, nat_tests), grind (arith, nat_tests))

pub numbers_pass : (axes : Axes) (c : Contact) → HasNumbers axes c → has_numbers axes c ≡ true
numbers_pass axes c h = whole c.sum c.count c.tie (edge_count axes) h.some h.few h.bytes h.edge
  where
    whole : (s n t edges : ℕ) → 0 < n → n ≤ edges → s ≤ 255 * n → t < edges
        → (nat_lt 0 n && (nat_le n edges && (nat_le s (255 * n) && nat_lt t edges))) ≡ true
    whole s n t edges p q r u = grind (arith, nat_tests)

-- the test of the order
before_means : (c d : Contact) → comes_before c d ≡ true → Before c d
before_means c d h = grind (arith, nat_tests)

before_passes : (c d : Contact) → Before c d → comes_before c d ≡ true
before_passes c d (inl h) = grind (arith, nat_tests)
before_passes c d (inr h) = grind (arith, nat_tests)

pub order_means : (earlier : List Merge) (m : Merge) (k : ℕ) (d : Merge) → follows earlier m ≡ true → k + 1 ≡ length earlier
    → Before (get_or earlier k d).contact m.contact
order_means earlier m k d h last =
    let place : length earlier - 1 ≡ k = omega arith in
    let same : get_or earlier (length earlier - 1) m ≡ get_or earlier k d =
    ap (λ n. get_or earlier n m) place ∙ get_or_default earlier k m d (omega arith) in
    subst (λ (e : Merge). Before e.contact m.contact) same
    (before_means (get_or earlier (length earlier - 1) m).contact m.contact (not_first (length earlier) _ (omega arith) h))
  where
    not_first : (n : ℕ) (b : Bool) → 0 < n → (n == 0 || b) ≡ true → b ≡ true
    not_first n b some h = grind (arith, nat_tests)

pub order_passes : (earlier : List Merge) (m : Merge)
    → ((k : ℕ) (d : Merge) → k + 1 ≡ length earlier → Before (get_or earlier k d).contact m.contact) → follows earlier m ≡ true
order_passes earlier m h = elim (none_or_some (length earlier)) [
  | inl none ↦ first (length earlier) _ none
  | inr some ↦ later (length earlier) _ (before_passes (get_or earlier (length earlier - 1) m).contact m.contact (h (length earlier - 1) m (omega arith)))
]
  where
    none_or_some : (n : ℕ) → (n ≡ 0) ⊎ (0 < n)
    none_or_some n = grind arith

    first : (n : ℕ) (b : Bool) → n ≡ 0 → (n == 0 || b) ≡ true
    first n b e = grind (arith, nat_tests)

    later : (n : ℕ) (b : Bool) → b ≡ true → (n == 0 || b) ≡ true
    later n b e = grind (arith, nat_tests)

-- the test of the threshold
pub above_means : (t : Threshold) (c : Contact) → reaches t c ≡ true → Reaches t c
above_means t c h = grind (arith, nat_tests)

pub above_passes : (t : Threshold) (c : Contact) → Reaches t c → reaches t c ≡ true
above_passes t c h = grind (arith, nat_tests)
