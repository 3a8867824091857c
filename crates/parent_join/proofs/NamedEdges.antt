-- The edges of a list whose names are both those of regions.
use Rattle.std.proofs.Common.{◌≡◌, ◌⊎◌, inl, inr, ℕ, Bool, true, false, cond, ◌&&◌, List, [], ◌∷◌, refl, sym, ap, ◌∙◌}
use Rattle.std.specs.Prelude.{filter}
use Rattle.std.proofs.lemmas.Bool.{false≢true}
use Rattle.agglo_model.specs.PairOrder.{Contact, added}
use Rattle.agglo_model.specs.RegionGraph.{Region, GraphEdge, is_between, no_contact, contact_in}
use Rattle.agglo_model.specs.Joining.{is_named}
use Rattle.agglo_model.proofs.GraphContacts.{joint, contact_in-is}
use Rattle.agglo_model.proofs.GraphEdges.{between_names}
use Rattle.parent_join.specs.Across.{are_named}

filter_step : (past : ℕ) (p : GraphEdge → Bool) (t b : Bool) (e : GraphEdge) (kept : List GraphEdge) (all : Contact)
    → (p e ≡ true → t ≡ b) → joint past p kept ≡ cond b all (no_contact past)
    → joint past p (cond t (e ∷ kept) kept) ≡ cond b (cond (p e) (added e.contact all) all) (no_contact past)
unfolding joint
filter_step past p true true e kept all same rest = λ i. cond (p e) (added e.contact (rest i)) (rest i)
filter_step past p true false e kept all same rest = outside (p e) same rest
  where
    outside : (c : Bool) → (c ≡ true → true ≡ false) → joint past p kept ≡ no_contact past
        → cond c (added e.contact (joint past p kept)) (joint past p kept) ≡ no_contact past
    outside true apart none = absurd (false≢true (sym (apart refl)))
    outside false apart none = none
filter_step past p false true e kept all same rest = outside (p e) same
  where
    outside : (c : Bool) → (c ≡ true → false ≡ true) → joint past p kept ≡ cond c (added e.contact all) all
    outside true apart = absurd (false≢true (apart refl))
    outside false apart = rest
filter_step past p false false e kept all same rest = rest

joint-filter : (past : ℕ) (p q : GraphEdge → Bool) (b : Bool) (es : List GraphEdge) → ((e : GraphEdge) → p e ≡ true → q e ≡ b)
    → joint past p (filter q es) ≡ cond b (joint past p es) (no_contact past)
unfolding joint
joint-filter past p q true [] same = refl
joint-filter past p q false [] same = refl
joint-filter past p q b (e ∷ es) same =
    filter_step past p (q e) b e (filter q es) (joint past p es) (same e) (joint-filter past p q b es same)

both_swapped : (regions : List Region) (x y a b : ℕ) → ((a ≡ x) × (b ≡ y)) ⊎ ((a ≡ y) × (b ≡ x))
    → (is_named regions a && is_named regions b) ≡ (is_named regions x && is_named regions y)
both_swapped regions x y a b (inl (same_a, same_b)) = λ i. is_named regions (same_a i) && is_named regions (same_b i)
both_swapped regions x y a b (inr (same_a, same_b)) =
    (λ i. is_named regions (same_a i) && is_named regions (same_b i)) ∙ swapped (is_named regions y) (is_named regions x)
  where
    swapped : (s t : Bool) → (s && t) ≡ (t && s)
    swapped true true = refl
    swapped true false = refl
    swapped false true = refl
    swapped false false = refl

-- two names have their contact by these edges where both are those of regions, and else none
pub contact_in-named : (past x y : ℕ) (regions : List Region) (es : List GraphEdge)
    → contact_in past (filter (are_named regions) es) x y
    ≡ cond (is_named regions x && is_named regions y) (contact_in past es x y) (no_contact past)
contact_in-named past x y regions es =
    contact_in-is past x y (filter (are_named regions) es)
    ∙ joint-filter past (is_between x y) (are_named regions) (is_named regions x && is_named regions y) es
    (λ e pass. both_swapped regions x y e.a e.b (between_names x y e pass))
    ∙ ap (λ d. cond (is_named regions x && is_named regions y) d (no_contact past)) (sym (contact_in-is past x y es))
