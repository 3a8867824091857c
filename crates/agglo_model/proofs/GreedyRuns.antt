-- From any labels there is a greedy run: each merge leaves fewer contact edges.
use Rattle.std.proofs.Common.{◌≡◌, ◌≢◌, inl, inr, ℕ, zero, suc, ◌+◌, ◌<◌, Bool, true, false, cond, ◌&&◌, List, [], ◌∷◌, length, get_or, count_by, refl, sym, ap, ◌∙◌, arith}
use Rattle.std.proofs.lemmas.Bool.Decides.{nat_tests}
use Rattle.std.proofs.lemmas.List.FromFn.{length-range_with_len, get_or-range_with_len}
use Rattle.std.proofs.lemmas.List.Sums.{sum_by-cons}
use Rattle.agglo_model.specs.Axes.{edge_count, is_edge, lower_end, higher_end}
use Rattle.agglo_model.specs.Grid.{Grid}
use Rattle.agglo_model.specs.PairOrder.{Threshold}
use Rattle.agglo_model.specs.Contacts.{edge_numbers, differ, are, lower_label, higher_label, is_contact_edge, between, InContact, renamed}
use Rattle.agglo_model.specs.Greedy.{Merge, IsGreedyRun, after_merge}
use Rattle.agglo_model.specs.MergeLaws.{GreedyRunsExist}
use Rattle.agglo_model.proofs.ContactEdges.{joins-edge, InContact-names, InContact-tie}
use Rattle.agglo_model.proofs.FirstExists.{end_or_step}
use Rattle.agglo_model.proofs.FirstPairs.{edge_of}
use Rattle.agglo_model.proofs.Renames.{new_name, label-renamed}
use Rattle.agglo_model.proofs.Tests.{implied_le, count_le}

-- ---- a test that passes less often

count_lt : (p q : ℕ → Bool) → ((x : ℕ) → q x ≡ true → p x ≡ true) → (xs : List ℕ) (k d : ℕ) → k < length xs
    → p (get_or xs k d) ≡ true → q (get_or xs k d) ≡ false → count_by q xs < count_by p xs
count_lt p q less [] k d below here gone = absurd (omega arith)
count_lt p q less (x ∷ xs) zero d below here gone =
    let one = sum_by-cons (λ y. cond (p y) 1 0) x xs ∙ ap (λ (b : Bool). cond b 1 0 + count_by p xs) here in
    let other = sum_by-cons (λ y. cond (q y) 1 0) x xs ∙ ap (λ (b : Bool). cond b 1 0 + count_by q xs) gone in
    omega (arith, one, other, count_le p q less xs)
count_lt p q less (x ∷ xs) (suc k) d below here gone =
    let one = sum_by-cons (λ y. cond (p y) 1 0) x xs in
    let other = sum_by-cons (λ y. cond (q y) 1 0) x xs in
    omega (arith, one, other, implied_le (p x) (q x) (less x), count_lt p q less xs k d (omega arith) here gone)

-- ---- contact edges

-- how many there are
abbrev pub contact_edges : Grid → List ℕ → ℕ
contact_edges g labels = count_by (is_contact_edge g labels) (edge_numbers g)

was_of : (i : Bool) (x y a b : ℕ) → b ≢ 0 → (i && differ (new_name a b x) (new_name a b y)) ≡ true → (i && differ x y) ≡ true
was_of i x y a b pb now = grind (arith, nat_tests)

gone_of : (i : Bool) (x y a b : ℕ) → ((i && differ x y) && are x y a b) ≡ true
    → (i && differ (new_name a b x) (new_name a b y)) ≡ false
gone_of i x y a b pass = grind (arith, nat_tests)

-- a contact edge after a merge, by the new names of its ends
edge-renamed : (g : Grid) (labels : List ℕ) (a b e : ℕ) → b ≢ 0 → is_contact_edge g (renamed labels a b) e
    ≡ (is_edge g.axes e && differ (new_name a b (lower_label g labels e)) (new_name a b (higher_label g labels e)))
edge-renamed g labels a b e pb =
    let low = label-renamed labels a b (lower_end g.axes e) pb in
    let high = label-renamed labels a b (higher_end e) pb in
    λ i. is_edge g.axes e && differ (low i) (high i)

-- a merge leaves no contact edge that was none, and the tie of its contact is none any more
pub fewer_edges : (g : Grid) (labels : List ℕ) (a b : ℕ) → InContact g labels a b
    → contact_edges g (renamed labels a b) < contact_edges g labels
fewer_edges g labels a b touching =
    let pb : b ≢ 0 = omega (arith, InContact-names g labels a b touching) in
    let tie = (between g labels a b).tie in
    let joined = InContact-tie g labels a b touching in
    let below = joins-edge g labels a b tie joined in
    let same : 0 + tie ≡ tie = omega arith in
    let place = get_or-range_with_len 0 (edge_count g.axes) tie 0 below ∙ same in
    let test = is_contact_edge g labels in
    let after = is_contact_edge g (renamed labels a b) in
    count_lt test after
    (λ e now. was_of (is_edge g.axes e) (lower_label g labels e) (higher_label g labels e) a b pb
    (sym (edge-renamed g labels a b e pb) ∙ now))
    (edge_numbers g) tie 0 (omega (arith, below, length-range_with_len 0 (edge_count g.axes)))
    (ap test place ∙ edge_of (is_edge g.axes tie) (lower_label g labels tie) (higher_label g labels tie) a b joined)
    (ap after place ∙ (edge-renamed g labels a b tie pb
    ∙ gone_of (is_edge g.axes tie) (lower_label g labels tie) (higher_label g labels tie) a b joined))

run_from : (n : ℕ) (g : Grid) (t : Threshold) (labels : List ℕ) → contact_edges g labels < n
    → (merges : List Merge) × IsGreedyRun g t labels merges
run_from zero g t labels few = absurd (omega arith)
run_from (suc n) g t labels few = elim (end_or_step g t labels) [
  | inl stop ↦ ([], stop)
  | inr (a, b, first, reaches) ↦
      let m : Merge = record { survivor = a; absorbed = b; contact = between g labels a b } in
      let fewer = fewer_edges g labels a b first.touching in
      let rest = run_from n g t (after_merge labels m) (omega (arith, few, fewer)) in
      (m ∷ rest.0, (record { first = first; contact_is = refl; reaches = reaches }, rest.1))
]

pub greedy_runs_exist : GreedyRunsExist
greedy_runs_exist g t labels = run_from (suc (contact_edges g labels)) g t labels (omega arith)
