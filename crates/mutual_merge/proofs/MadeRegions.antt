-- Lists of regions that are made one for each of another list.
use Rattle.std.proofs.Common.{◌≡◌, inl, inr, ℕ, ◌+◌, ◌<◌, List, [], ◌∷◌, ◌++◌, length, sym, ap, ◌∙◌, subst, arith}
use Rattle.std.proofs.lemmas.List.{get_or_append_left, get_or_push, length_push}
use Rattle.agglo_model.specs.RegionGraph.{Region}
use Rattle.agglo_model.proofs.Cases.{below_next}
use Rattle.mutual_merge.specs.Linked.{region_at}

-- so many regions, of each of which something is known by its place
pub record AreMade (Is : ℕ → Region → Type 0) (i : ℕ) (made : List Region) : Type 0 where
  pub one_each : length made ≡ i
  pub each : (k : ℕ) → k < i → Is k (region_at made k)

pub made_none : (Is : ℕ → Region → Type 0) (made : List Region) → made ≡ [] → AreMade Is 0 made
made_none Is made none = record { one_each = ap length none; each = λ k below. absurd (omega arith) }

pub made_more : (Is : ℕ → Region → Type 0) (i : ℕ) (made : List Region) (r : Region) → AreMade Is i made → Is i r
    → AreMade Is (i + 1) (made ++ r ∷ [])
made_more Is i made r so_far here = record {
  one_each = length_push made r ∙ ap (λ n. n + 1) so_far.one_each;
  each = λ k below. elim (below_next k i below) [
    | inl before ↦
        let len = so_far.one_each in
        subst (Is k) (sym (get_or_append_left made (r ∷ []) (record { name = 0; faces = 0 }) k (omega arith))) (so_far.each k before)
    | inr last ↦
        subst (Is k) (sym (get_or_push made r (record { name = 0; faces = 0 }) k (so_far.one_each ∙ sym last)))
        (subst (λ n. Is n r) (sym last) here)
  ];
}
