-- What a binary search for a name finds in a list of regions by ascending name.
use Rattle.std.proofs.Common.{◌≡◌, inl, inr, ℕ, ◌<◌, ◌≤◌, eqb, List, length, get_or, Result, Ok, Err, sym, subst, arith}
use Rattle.std.specs.List.Sorted.{IsSearchInRange, IsBinarySearchResult, IsNonDecreasingBy}
use Rattle.std.specs.Ordering.{nat_cmp, ordering_index}
use Rattle.std.specs.Result.{is_ok}
use Rattle.std.proofs.lemmas.Bool.{cases_lt, eq-eqb, ne_eqb}
use Rattle.std.proofs.lemmas.Bool.Decides.{nat_tests}
use Rattle.std.proofs.lemmas.Cmp.{ranked}
use Rattle.std.proofs.lemmas.List.Folds.{list_any_at, list_any_none}
use Rattle.agglo_model.specs.RegionGraph.{Region}
use Rattle.agglo_model.specs.Joining.{is_named}
use Rattle.agglo_model.proofs.RegionLists.{Ascend}

rising : (m n x : ℕ) → m ≤ n → ordering_index (nat_cmp m x) ≤ ordering_index (nat_cmp n x)
rising m n x up = grind (arith, nat_tests)

module _ (regions : List Region) (ascend : Ascend regions) (x : ℕ) where
  names_rise : IsNonDecreasingBy (λ (r : Region). ordering_index (nat_cmp r.name x)) regions
  names_rise i j d order below = elim (cases_lt i j) [
    | inl less ↦
        let up = ascend i j d less below in
        rising (get_or regions i d).name (get_or regions j d).name x (omega arith)
    | inr most ↦
        let same : i ≡ j = omega arith in
        rising (get_or regions i d).name (get_or regions j d).name x
        (subst (λ n. (get_or regions i d).name ≤ (get_or regions n d).name) same (omega arith))
  ]

  -- a name is found exactly where a region has it
  pub found_name : (r : Result ℕ ℕ) → IsSearchInRange r (length regions)
      → IsBinarySearchResult (λ (y : Region). nat_cmp y.name x) regions r → is_ok r ≡ is_named regions x
  found_name (Ok i) below here =
      let d : Region = record { name = 0; faces = 0 } in
      sym (list_any_at (λ (s : Region). eqb s.name x) regions i d below
      (eq-eqb (get_or regions i d).name x (ranked (get_or regions i d).name x _ (sym (here d)))))
  found_name (Err i) below parted =
      sym (list_any_none (λ (s : Region). eqb s.name x) regions (λ k d inside. elim (cases_lt k i) [
        | inl before ↦
            let less : (get_or regions k d).name < x = ranked (get_or regions k d).name x _ (sym ((parted names_rise).0 k d (omega arith) before)) in
            ne_eqb (get_or regions k d).name x (omega arith)
        | inr after ↦
            let more : x < (get_or regions k d).name = ranked (get_or regions k d).name x _ (sym ((parted names_rise).1 k d after inside)) in
            ne_eqb (get_or regions k d).name x (omega arith)
      ]))
