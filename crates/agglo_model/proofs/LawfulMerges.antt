-- The merges of a run are a lawful list: their names are in range and alive, their numbers in range.
use Rattle.std.proofs.Common.{◌≡◌, ◌≢◌, inl, inr, ℕ, zero, suc, ◌+◌, ◌*◌, ◌-◌, ◌<◌, ◌≤◌, Bool, true, false, cond, eqb, List, [], ◌∷◌, map, length, get_or, sum_by, count_by, sym, ◌∙◌, subst, arith}
use Rattle.std.specs.Prelude.{All, AllPairs}
use Rattle.std.specs.List.{list_any, IsDistinct}
use Rattle.std.proofs.lemmas.List.{get_or-map, get_or_past, length-map}
use Rattle.std.proofs.lemmas.List.Elements.{All-cons}
use Rattle.std.proofs.lemmas.List.Folds.{Any-from_list_any}
use Rattle.std.proofs.lemmas.List.FromFn.{length-range_with_len}
use Rattle.std.proofs.lemmas.List.Sums.{sum_by-cons, count_by-le-length}
use Rattle.std.proofs.lemmas.Map.Keys.{IsDistinct-from_apart}
use Rattle.std.proofs.lemmas.Map.Steps.{length-le_from_distinct_below}
use Rattle.std.proofs.lemmas.Bool.Decides.{nat_tests}
use Rattle.std.proofs.lemmas.Bool.{cases_lt, eqb-true}
use Rattle.agglo_model.specs.Axes.{voxel_count, edge_count, is_edge}
use Rattle.agglo_model.specs.Grid.{Grid, affinity}
use Rattle.agglo_model.specs.PairOrder.{Threshold, Reaches}
use Rattle.agglo_model.specs.Contacts.{total, edge_numbers, lower_label, higher_label, joins, between, InContact, renamed}
use Rattle.agglo_model.specs.Greedy.{Merge, IsMutualStep, IsMutualRun, after_merge}
use Rattle.agglo_model.specs.MergeTree.{HasNames, HasNumbers, Keeps}
use Rattle.agglo_model.specs.MergeLaws.{GreedyIsLawful}
use Rattle.agglo_model.proofs.Totals.{total-tie}
use Rattle.agglo_model.proofs.ContactEdges.{InContact-names, InContact-tie}
use Rattle.agglo_model.proofs.FirstPairs.{names_are}
use Rattle.agglo_model.proofs.Renames.{new_name, label-renamed, not_absorbed}
use Rattle.agglo_model.proofs.Falling.{greedy_falls}
use Rattle.agglo_model.proofs.MutualRuns.{greedy_is_mutual}

-- every label is at most n; no label is x
abbrev InRange : List ℕ → ℕ → Type 0
InRange labels n = (v : ℕ) → get_or labels v 0 ≤ n

abbrev Gone : List ℕ → ℕ → Type 0
Gone labels x = (v : ℕ) → get_or labels v 0 ≢ x

-- a name in contact is the label of some voxel
pub InContact-occurs : (g : Grid) (labels : List ℕ) (a b : ℕ) → InContact g labels a b
    → ((v : ℕ) × (get_or labels v 0 ≡ a)) × ((v : ℕ) × (get_or labels v 0 ≡ b))
InContact-occurs g labels a b touching =
    let e = (between g labels a b).tie in
    elim (names_are (is_edge g.axes e) (lower_label g labels e) (higher_label g labels e) a b
    (InContact-tie g labels a b touching)) [
      | inl (p, q) ↦ ((_, p), (_, q))
      | inr (p, q) ↦ ((_, q), (_, p))
    ]

in_range_of : (a b x n : ℕ) → x ≤ n → a ≤ n → new_name a b x ≤ n
in_range_of a b x n small a_small = grind (arith, nat_tests)

InRange-renamed : (labels : List ℕ) (a b n : ℕ) → b ≢ 0 → a ≤ n → InRange labels n
    → InRange (renamed labels a b) n
InRange-renamed labels a b n pb small range v =
    subst (λ x. x ≤ n) (sym (label-renamed labels a b v pb)) (in_range_of a b (get_or labels v 0) n (range v) small)

gone_of : (a b x y : ℕ) → a ≢ y → x ≢ y → new_name a b x ≢ y
gone_of a b x y ay xy = grind (arith, nat_tests)

Gone-renamed : (labels : List ℕ) (a b x : ℕ) → b ≢ 0 → a ≢ x → Gone labels x → Gone (renamed labels a b) x
Gone-renamed labels a b x pb ax gone v same =
    gone_of a b (get_or labels v 0) x ax (gone v) (sym (label-renamed labels a b v pb) ∙ same)

Gone-absorbed : (labels : List ℕ) (a b : ℕ) → b ≢ 0 → a ≢ b → Gone (renamed labels a b) b
Gone-absorbed labels a b pb ab v same =
    not_absorbed a b (get_or labels v 0) ab (sym (label-renamed labels a b v pb) ∙ same)

-- the names of a step
step_names : {g : Grid} {t : Threshold} {labels : List ℕ} {m : Merge} → IsMutualStep g t labels m
    → (0 < m.survivor) × (0 < m.absorbed) × (m.survivor ≢ m.absorbed)
step_names {g} {t} {labels} {m} step =
    InContact-names g labels m.survivor m.absorbed step.reciprocal.touching

step_in_range : (g : Grid) (t : Threshold) (labels : List ℕ) (m : Merge) (n : ℕ) → InRange labels n
    → IsMutualStep g t labels m → (m.survivor ≤ n) × (m.absorbed ≤ n)
step_in_range g t labels m n range step =
    let there = InContact-occurs g labels m.survivor m.absorbed step.reciprocal.touching in
    (subst (λ x. x ≤ n) there.0.1 (range there.0.0), subst (λ x. x ≤ n) there.1.1 (range there.1.0))

range_after : (g : Grid) (t : Threshold) (labels : List ℕ) (m : Merge) (n : ℕ) → InRange labels n
    → IsMutualStep g t labels m → InRange (after_merge labels m) n
range_after g t labels m n range step =
    let names = step_names {g = g} {t = t} {labels = labels} {m = m} step in
    InRange-renamed labels m.survivor m.absorbed n (omega (arith, names))
    (step_in_range g t labels m n range step).0 range

-- what holds of each step holds of each merge of a run
all_by_step : (P : Merge → Type 0) (g : Grid) (t : Threshold) (n : ℕ)
    → ((labels : List ℕ) (m : Merge) → InRange labels n → IsMutualStep g t labels m → P m)
    → (labels : List ℕ) (merges : List Merge) → InRange labels n → IsMutualRun g t labels merges
    → All P merges
all_by_step P g t n step labels [] range run = λ k d below. absurd (omega arith)
all_by_step P g t n step labels (m ∷ merges) range run =
    All-cons P m merges (step labels m range run.0)
    (all_by_step P g t n step (after_merge labels m) merges (range_after g t labels m n range run.0) run.1)

-- a name that is gone is in no later merge
later_apart : (g : Grid) (t : Threshold) (x : ℕ) (labels : List ℕ) (merges : List Merge) → Gone labels x
    → IsMutualRun g t labels merges → (k : ℕ) (d : Merge) → k < length merges
    → (x ≢ (get_or merges k d).survivor) × (x ≢ (get_or merges k d).absorbed)
later_apart g t x labels [] gone run k d below = absurd (omega arith)
later_apart g t x labels (m ∷ merges) gone run zero d below =
    let there = InContact-occurs g labels m.survivor m.absorbed run.0.reciprocal.touching in
    (λ same. gone there.0.0 (there.0.1 ∙ sym same), λ same. gone there.1.0 (there.1.1 ∙ sym same))
later_apart g t x labels (m ∷ merges) gone run (suc k) d below =
    let names = step_names {g = g} {t = t} {labels = labels} {m = m} run.0 in
    let there = InContact-occurs g labels m.survivor m.absorbed run.0.reciprocal.touching in
    later_apart g t x (after_merge labels m) merges
    (Gone-renamed labels m.survivor m.absorbed x (omega (arith, names))
    (λ same. gone there.0.0 (there.0.1 ∙ same)) gone)
    run.1 k d (omega arith)

alive : (g : Grid) (t : Threshold) (labels : List ℕ) (merges : List Merge)
    → IsMutualRun g t labels merges → AllPairs Keeps merges
alive g t labels [] run i j d ij below = absurd (omega arith)
alive g t labels (m ∷ merges) run i zero d ij below = absurd (omega arith)
alive g t labels (m ∷ merges) run zero (suc j) d ij below =
    let names = step_names {g = g} {t = t} {labels = labels} {m = m} run.0 in
    let apart = later_apart g t m.absorbed (after_merge labels m) merges
    (Gone-absorbed labels m.survivor m.absorbed (omega (arith, names)) names.2)
    run.1 j d (omega arith) in
    record { survivor = apart.0; absorbed = apart.1 }
alive g t labels (m ∷ merges) run (suc i) (suc j) d ij below =
    alive g t (after_merge labels m) merges run.1 i j d (omega arith) (omega arith)

-- the numbers of a contact
bytes_step : (b : Bool) (a rest count : ℕ) → a ≤ 255 → rest ≤ 255 * count
    → cond b a 0 + rest ≤ 255 * (cond b 1 0 + count)
bytes_step true a rest count small more = omega arith
bytes_step false a rest count small more = omega arith

sum-le : (p : ℕ → Bool) (f : ℕ → ℕ) → ((e : ℕ) → f e ≤ 255) → (xs : List ℕ)
    → sum_by (λ x. cond (p x) (f x) 0) xs ≤ 255 * count_by p xs
sum-le p f small [] = omega arith
sum-le p f small (x ∷ xs) =
    let r = sum_by-cons (λ y. cond (p y) (f y) 0) x xs in
    let s = sum_by-cons (λ y. cond (p y) 1 0) x xs in
    let step = bytes_step (p x) (f x) _ _ (small x) (sum-le p f small xs) in
    omega (arith, r, s, step)

total-numbers : (g : Grid) (p : ℕ → Bool) → ((e : ℕ) → affinity g e ≤ 255) → 0 < (total g p).count
    → HasNumbers g.axes (total g p)
unfolding total
total-numbers g p small some =
    let len = length-range_with_len 0 (edge_count g.axes) in
    let few = count_by-le-length p (edge_numbers g) in
    record {
      some = some;
      few = omega (arith, few, len);
      bytes = sum-le p (affinity g) small (edge_numbers g);
      edge = (total-tie g p some).0;
    }

-- numbers that differ and lie from 2 to n are fewer than n
abbrev from_two : Merge → ℕ
from_two m = m.absorbed - 2

abbrev no_merge : Merge
no_merge = record { survivor = 0; absorbed = 0; contact = record { sum = 0; count = 0; tie = 0 } }

eqb_apart : (x y : ℕ) → 1 < x → 1 < y → x ≢ y → eqb (x - 2) (y - 2) ≡ false
eqb_apart x y px py apart = grind (arith, nat_tests)

fewer : (merges : List Merge) (n : ℕ) → 0 < n → All (λ m. (1 < m.absorbed) × (m.absorbed ≤ n)) merges
    → AllPairs Keeps merges → length merges < n
fewer merges n pos range apart =
    let xs = map from_two merges in
    let len : length xs ≡ length merges = length-map merges from_two in
    let at : (i d : ℕ) → i < length merges → get_or xs i d ≡ (get_or merges i no_merge).absorbed - 2 =
    λ i d below. get_or-map from_two merges i no_merge d below in
    let distinct : IsDistinct eqb xs = IsDistinct-from_apart eqb xs (λ i j d ij below.
    let lo : i < length merges = omega (arith, len) in
    let hi : j < length merges = omega (arith, len) in
    let keeps = apart i j no_merge ij hi in
    (λ k. eqb (at i d lo k) (at j d hi k))
    ∙ eqb_apart (get_or merges i no_merge).absorbed (get_or merges j no_merge).absorbed
    (range i no_merge lo).0 (range j no_merge hi).0 keeps.absorbed) in
    let bounded : (q : ℕ) → list_any (eqb q) xs ≡ true → q < n - 1 = λ q any.
    let found = Any-from_list_any (eqb q) xs any in
    let below : found.0 < length merges = omega (arith, len, found.2) in
    let value = at found.0 found.1 below in
    let ends = range found.0 no_merge below in
    let same = eqb-true q found.1 found.4 in
    omega (arith, value, ends, same, found.3) in
    let most = length-le_from_distinct_below xs (n - 1) distinct bounded in
    omega (arith, most, len)

byte_at : (bytes : List ℕ) → All (λ b. b ≤ 255) bytes → (e : ℕ) → get_or bytes e 0 ≤ 255
byte_at bytes small e = elim (cases_lt e (length bytes)) [
  | inl below ↦ small e 0 below
  | inr past ↦ subst (λ x. x ≤ 255) (sym (get_or_past bytes e 0 past)) (omega arith)
]

range_at : (labels : List ℕ) (n : ℕ) → All (λ x. x ≤ n) labels → InRange labels n
range_at labels n small v = elim (cases_lt v (length labels)) [
  | inl below ↦ small v 0 below
  | inr past ↦ subst (λ x. x ≤ n) (sym (get_or_past labels v 0 past)) (omega arith)
]

names_in_range : (g : Grid) (t : Threshold) (labels : List ℕ) (m : Merge) → InRange labels (voxel_count g.axes)
    → IsMutualStep g t labels m → HasNames g.axes m
names_in_range g t labels m range step =
    let names = step_names {g = g} {t = t} {labels = labels} {m = m} step in
    record {
      named = names.0;
      ordered = step.reciprocal.ordered;
      in_range = (step_in_range g t labels m (voxel_count g.axes) range step).1;
    }

above_one : (m : Merge) (n : ℕ) → 0 < m.survivor → m.survivor < m.absorbed → m.absorbed ≤ n
    → (1 < m.absorbed) × (m.absorbed ≤ n)
above_one m n named ordered small = (omega arith, small)

pub greedy_is_lawful : GreedyIsLawful
greedy_is_lawful g t labels merges pos bytes range greedy =
    let run = greedy_is_mutual g t labels merges greedy in
    let small = byte_at g.bytes bytes in
    let inside = range_at labels (voxel_count g.axes) range in
    let names : All (HasNames g.axes) merges = all_by_step (HasNames g.axes) g t (voxel_count g.axes)
    (names_in_range g t) labels merges inside run in
    let apart = alive g t labels merges run in
    record {
      few = fewer merges (voxel_count g.axes) pos
          (λ k d below. let here = names k d below in
          above_one (get_or merges k d) (voxel_count g.axes) here.named here.ordered here.in_range) apart;
      names = names;
      alive = apart;
      numbers = all_by_step (λ m. HasNumbers g.axes m.contact) g t (voxel_count g.axes)
          (λ now m around step. subst (HasNumbers g.axes) (sym step.contact_is)
          (total-numbers g (joins g now m.survivor m.absorbed) small step.reciprocal.touching))
          labels merges inside run;
      falling = greedy_falls g t labels merges greedy;
      reaching = all_by_step (λ m. Reaches t m.contact) g t (voxel_count g.axes)
          (λ now m around step. subst (Reaches t) (sym step.contact_is) step.reciprocal.reaches)
          labels merges inside run;
    }
