-- Parents that stand at places no later than their own.
use Rattle.std.proofs.Common.{◌≡◌, ◌≢◌, ◌⊎◌, inl, inr, ℕ, ◌<◌, ◌≤◌, List, get_or, set, sym, subst, ◌∙◌, arith}
use Rattle.std.specs.List.{range_with_len}
use Rattle.std.proofs.lemmas.Bool.{cases_eq}
use Rattle.std.proofs.lemmas.List.{length-set, get_or-set_same, get_or-set_other}
use Rattle.std.proofs.lemmas.List.FromFn.{length-range_with_len, get_or-range_with_len}
use Rattle.mutual_merge.specs.Groups.{AreParents}

pub parents_start : (count : ℕ) → AreParents count (range_with_len 0 count)
parents_start count = record {
  one_each = length-range_with_len 0 count;
  before = λ k below. let here = get_or-range_with_len 0 count k 0 below in omega arith;
}

pub parents_set : (count : ℕ) (parents : List ℕ) (i v : ℕ) → AreParents count parents → v ≤ i → AreParents count (set parents i v)
parents_set count parents i v are up = record {
  one_each = length-set parents i v ∙ are.one_each;
  before = λ k below. by_cases k below (cases_eq k i);
}
  where
    by_cases : (k : ℕ) → k < count → (k ≡ i) ⊎ (k ≢ i) → get_or (set parents i v) k 0 ≤ k
    by_cases k below (inl same) =
        let len = are.one_each in
        let here = get_or-set_same parents i v 0 (omega arith) in
        subst (λ n. get_or (set parents i v) n 0 ≤ n) (sym same) (omega arith)
    by_cases k below (inr other) =
        let stays = get_or-set_other parents i k v 0 other in
        let was = are.before k below in
        omega arith
