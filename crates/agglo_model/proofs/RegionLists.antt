-- The regions of a graph after one of them has taken another.
use Rattle.std.proofs.Common.{◌≡◌, ◌≢◌, ◌⊎◌, inl, inr, ℕ, ◌<◌, ◌==◌, Bool, true, false, cond, eqb, List, [], ◌∷◌, refl, sym, ap, ◌∙◌, subst, arith}
use Rattle.std.specs.Prelude.{Contains, AllPairs}
use Rattle.std.proofs.lemmas.List.Kept.{AllPairs-cons}
use Rattle.std.proofs.lemmas.Bool.{eqb-true, eqb-false, eq-eqb}
use Rattle.std.proofs.lemmas.List.Folds.{list_any_at, Any-from_list_any}
use Rattle.agglo_model.specs.RegionGraph.{Region}
use Rattle.agglo_model.proofs.Members.{contains_head, contains_tail, contains_cases, contains_none, all_pairs_head, all_pairs_tail, All-from_contains}
use Rattle.agglo_model.specs.Joining.{is_named}

-- regions by ascending name
abbrev pub Ascend : List Region → Type 0
Ascend rs = AllPairs (λ r s. r.name < s.name) rs

-- a name stands for one region
pub one_region : (rs : List Region) (r s : Region) → Ascend rs → Contains rs r → Contains rs s → r.name ≡ s.name → r ≡ s
one_region [] r s ascend at_r at_s same = absurd (contains_none r at_r)
one_region (q ∷ rs) r s ascend at_r at_s same =
    by_cases (contains_cases q r rs at_r) (contains_cases q s rs at_s)
    (λ one other. one_region rs r s (all_pairs_tail (λ x y. x.name < y.name) q rs ascend) one other same)
  where
    below : (p : Region) → Contains rs p → q.name < p.name
    below p later = all_pairs_head (λ x y. x.name < y.name) q p rs ascend later

    by_cases : (q ≡ r) ⊎ Contains rs r → (q ≡ s) ⊎ Contains rs s → (Contains rs r → Contains rs s → r ≡ s) → r ≡ s
    by_cases (inl one) (inl other) rest = sym one ∙ other
    by_cases (inl one) (inr other) rest =
        let less = below s other in let e = ap (λ z. z.name) one in absurd (omega arith)
    by_cases (inr one) (inl other) rest =
        let less = below r one in let e = ap (λ z. z.name) other in absurd (omega arith)
    by_cases (inr one) (inr other) rest = rest one other

-- the list without the region of one name, and with these faces at another
unfoldable pub taken_over : ℕ → ℕ → ℕ → List Region → List Region
taken_over s b faces [] = []
taken_over s b faces (r ∷ rs) =
    cond (eqb r.name b) (taken_over s b faces rs)
    (cond (eqb r.name s) (record { name = s; faces = faces } ∷ taken_over s b faces rs) (r ∷ taken_over s b faces rs))

-- what a region of the new list was before
abbrev pub Was : ℕ → ℕ → ℕ → List Region → Region → Type 0
Was s b faces rs r = (r.name ≢ b)
    × (((r.name ≡ s) × (r.faces ≡ faces)) ⊎ ((r.name ≢ s) × Contains rs r))
    × ((q : Region) × Contains rs q × (q.name ≡ r.name))

was_later : (s b faces : ℕ) (p : Region) (rs : List Region) (r : Region) → Was s b faces rs r → Was s b faces (p ∷ rs) r
was_later s b faces p rs r (rb, inl here, (q, at_q, same)) = (rb, inl here, (q, contains_tail p q rs at_q, same))
was_later s b faces p rs r (rb, inr (rs', at_r), (q, at_q, same)) =
    (rb, inr (rs', contains_tail p r rs at_r), (q, contains_tail p q rs at_q, same))

pub taken_over-was : (s b faces : ℕ) (rs : List Region) (r : Region) → s ≢ b → Contains (taken_over s b faces rs) r
    → Was s b faces rs r
unfolding taken_over
taken_over-was s b faces [] r sb inside = absurd (contains_none r inside)
taken_over-was s b faces (p ∷ rs) r sb inside =
    step (eqb p.name b) (eqb p.name s) (eqb-false p.name b) (eqb-true p.name s) (eqb-false p.name s)
    (λ later. was_later s b faces p rs r (taken_over-was s b faces rs r sb later)) inside
  where
    step : (t u : Bool) → (t ≡ false → p.name ≢ b) → (u ≡ true → p.name ≡ s) → (u ≡ false → p.name ≢ s)
        → (Contains (taken_over s b faces rs) r → Was s b faces (p ∷ rs) r)
        → Contains (cond t (taken_over s b faces rs) (cond u (record { name = s; faces = faces } ∷ taken_over s b faces rs) (p ∷ taken_over s b faces rs))) r
        → Was s b faces (p ∷ rs) r
    step true u not_b at_s not_s rest at_r = rest at_r
    step false true not_b at_s not_s rest at_r =
        elim (contains_cases (record { name = s; faces = faces }) r (taken_over s b faces rs) at_r) [
          | inl same ↦
              let name : s ≡ r.name = ap (λ z. z.name) same in
              (λ e. sb (name ∙ e), inl (sym name, sym (ap (λ z. z.faces) same)), (p, contains_head p rs, at_s refl ∙ name))
          | inr later ↦ rest later
        ]
    step false false not_b at_s not_s rest at_r =
        elim (contains_cases p r (taken_over s b faces rs) at_r) [
          | inl same ↦
              subst (Was s b faces (p ∷ rs)) same
              (not_b refl, inr (not_s refl, contains_head p rs), (p, contains_head p rs, refl))
          | inr later ↦ rest later
        ]

-- a region of another name stays
pub taken_over-others : (s b faces : ℕ) (rs : List Region) (r : Region) → Contains rs r → r.name ≢ b → r.name ≢ s
    → Contains (taken_over s b faces rs) r
unfolding taken_over
taken_over-others s b faces [] r inside rb rs' = absurd (contains_none r inside)
taken_over-others s b faces (p ∷ rs) r inside rb rs' =
    step (eqb p.name b) (eqb p.name s) (eqb-true p.name b) (eqb-true p.name s) (contains_cases p r rs inside)
    (λ later. taken_over-others s b faces rs r later rb rs')
  where
    step : (t u : Bool) → (t ≡ true → p.name ≡ b) → (u ≡ true → p.name ≡ s) → (p ≡ r) ⊎ Contains rs r
        → (Contains rs r → Contains (taken_over s b faces rs) r)
        → Contains (cond t (taken_over s b faces rs) (cond u (record { name = s; faces = faces } ∷ taken_over s b faces rs) (p ∷ taken_over s b faces rs))) r
    step true u at_b at_s (inl same) rest = absurd (rb (sym (ap (λ z. z.name) same) ∙ at_b refl))
    step true u at_b at_s (inr later) rest = rest later
    step false true at_b at_s (inl same) rest = absurd (rs' (sym (ap (λ z. z.name) same) ∙ at_s refl))
    step false true at_b at_s (inr later) rest = contains_tail _ r (taken_over s b faces rs) (rest later)
    step false false at_b at_s (inl same) rest = subst (Contains (p ∷ taken_over s b faces rs)) same (contains_head p (taken_over s b faces rs))
    step false false at_b at_s (inr later) rest = contains_tail p r (taken_over s b faces rs) (rest later)

-- the survivor is there
pub taken_over-survivor : (s b faces : ℕ) (rs : List Region) (r : Region) → Contains rs r → r.name ≡ s → s ≢ b
    → Contains (taken_over s b faces rs) (record { name = s; faces = faces })
unfolding taken_over
taken_over-survivor s b faces [] r inside name sb = absurd (contains_none r inside)
taken_over-survivor s b faces (p ∷ rs) r inside name sb =
    step (eqb p.name b) (eqb p.name s) (eqb-true p.name b) (eqb-false p.name s) (contains_cases p r rs inside)
    (λ later. taken_over-survivor s b faces rs r later name sb)
  where
    own : Region
    own = record { name = s; faces = faces }

    step : (t u : Bool) → (t ≡ true → p.name ≡ b) → (u ≡ false → p.name ≢ s) → (p ≡ r) ⊎ Contains rs r
        → (Contains rs r → Contains (taken_over s b faces rs) own)
        → Contains (cond t (taken_over s b faces rs) (cond u (own ∷ taken_over s b faces rs) (p ∷ taken_over s b faces rs))) own
    step true u at_b not_s (inl same) rest = absurd (sb (sym name ∙ sym (ap (λ z. z.name) same) ∙ at_b refl))
    step true u at_b not_s (inr later) rest = rest later
    step false true at_b not_s place rest = contains_head own (taken_over s b faces rs)
    step false false at_b not_s (inl same) rest = absurd (not_s refl (ap (λ z. z.name) same ∙ name))
    step false false at_b not_s (inr later) rest = contains_tail p own (taken_over s b faces rs) (rest later)

pub taken_over-ascends : (s b faces : ℕ) (rs : List Region) → s ≢ b → Ascend rs → Ascend (taken_over s b faces rs)
unfolding taken_over
taken_over-ascends s b faces [] sb ascend = ascend
taken_over-ascends s b faces (p ∷ rs) sb ascend =
    step (eqb p.name b) (eqb p.name s) (eqb-true p.name s)
    (taken_over-ascends s b faces rs sb (all_pairs_tail (λ x y. x.name < y.name) p rs ascend))
  where
    below : (r : Region) → Contains (taken_over s b faces rs) r → p.name < r.name
    below r inside =
        let was = (taken_over-was s b faces rs r sb inside).2 in
        subst (λ n. p.name < n) was.2 (all_pairs_head (λ x y. x.name < y.name) p was.0 rs ascend was.1)

    step : (t u : Bool) → (u ≡ true → p.name ≡ s) → Ascend (taken_over s b faces rs)
        → Ascend (cond t (taken_over s b faces rs) (cond u (record { name = s; faces = faces } ∷ taken_over s b faces rs) (p ∷ taken_over s b faces rs)))
    step true u at_s rest = rest
    step false true at_s rest =
        AllPairs-cons (λ x y. x.name < y.name) (record { name = s; faces = faces }) (taken_over s b faces rs)
        (All-from_contains (λ r. s < r.name) (taken_over s b faces rs) (λ r inside. subst (λ n. n < r.name) (at_s refl) (below r inside))) rest
    step false false at_s rest =
        AllPairs-cons (λ x y. x.name < y.name) p (taken_over s b faces rs)
        (All-from_contains (λ r. p.name < r.name) (taken_over s b faces rs) below) rest

-- a list of regions has a name exactly where a region of it has it
pub named_region : (regions : List Region) (x : ℕ) → is_named regions x ≡ true
    → (r : Region) × Contains regions r × (r.name ≡ x)
named_region regions x named =
    let found = Any-from_list_any (λ (r : Region). r.name == x) regions named in
    (found.1, (found.0, found.2, found.3), eqb-true found.1.name x found.4)

pub region_named : (regions : List Region) (x : ℕ) (r : Region) → Contains regions r → r.name ≡ x
    → is_named regions x ≡ true
region_named regions x r (k, below, same) name =
    list_any_at (λ (s : Region). s.name == x) regions k r below
    (ap (λ (s : Region). s.name == x) same ∙ eq-eqb r.name x name)
