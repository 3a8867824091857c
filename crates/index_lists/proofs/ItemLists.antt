-- Lists of items in which none stands twice.
use Rattle.std.proofs.Common.{◌≡◌, ◌≢◌, ℕ, zero, suc, ◌==◌, not, true, false, List, [], ◌∷◌, ◌++◌, get_or, refl, ap, ◌∙◌, subst, inl, inr, arith, eq-eqb, ne_eqb}
use Rattle.std.specs.Prelude.{AllPairs, Contains}
use Rattle.std.proofs.lemmas.List.Elements.{Contains-get_or, Contains-append_left, Contains-append_right, Contains-append_cases, filter-append}
use Rattle.agglo_model.proofs.Members.{contains_head, contains_tail, contains_cases, contains_none, all_pairs_head, all_pairs_tail}
use Rattle.index_lists.specs.LinkedLists.{without}

abbrev pub Once : List ℕ → Type 0
Once xs = AllPairs (λ x y. x ≢ y) xs

-- where an item of a list stands
pub contains_cut : (xs : List ℕ) (x : ℕ) → Contains xs x → (before : List ℕ) × (rest : List ℕ) × (xs ≡ before ++ x ∷ rest)
contains_cut [] x inside = absurd (contains_none x inside)
contains_cut (y ∷ ys) x inside = elim (contains_cases y x ys inside) [
  | inl same ↦ ([], ys, ap (λ z. z ∷ ys) same)
  | inr later ↦ let found = contains_cut ys x later in (y ∷ found.0, found.1, ap (λ l. y ∷ l) found.2)
]

pub once_head : (x y : ℕ) (xs : List ℕ) → Once (x ∷ xs) → Contains xs y → x ≢ y
once_head x y xs once inside = all_pairs_head (λ a b. a ≢ b) x y xs once inside

pub once_tail : (x : ℕ) (xs : List ℕ) → Once (x ∷ xs) → Once xs
once_tail x xs once = all_pairs_tail (λ a b. a ≢ b) x xs once

pub once_nil : Once []
once_nil i j d before below = absurd (omega arith)

pub once_cons : (x : ℕ) (xs : List ℕ) → ((y : ℕ) → Contains xs y → x ≢ y) → Once xs → Once (x ∷ xs)
once_cons x xs apart once zero zero d before below = absurd (omega arith)
once_cons x xs apart once zero (suc j) d before below = apart (get_or xs j d) (Contains-get_or xs j d (omega arith))
once_cons x xs apart once (suc i) zero d before below = absurd (omega arith)
once_cons x xs apart once (suc i) (suc j) d before below = once i j d (omega arith) (omega arith)

-- two lists after one another: each has no item twice, and they share none
pub once_append : (xs ys : List ℕ) → Once xs → Once ys → ((x y : ℕ) → Contains xs x → Contains ys y → x ≢ y) → Once (xs ++ ys)
once_append [] ys left right apart = right
once_append (x ∷ xs) ys left right apart =
    once_cons x (xs ++ ys) (λ y inside. elim (Contains-append_cases xs ys y inside) [
      | inl front ↦ once_head x y xs left front
      | inr back ↦ apart x y (contains_head x xs) back
    ])
    (once_append xs ys (once_tail x xs left) right (λ a b front back. apart a b (contains_tail x a xs front) back))

pub once_front : (xs ys : List ℕ) → Once (xs ++ ys) → Once xs
once_front [] ys once = once_nil
once_front (x ∷ xs) ys once =
    once_cons x xs (λ y inside. once_head x y (xs ++ ys) once (Contains-append_left xs ys y inside))
    (once_front xs ys (once_tail x (xs ++ ys) once))

pub once_back : (xs ys : List ℕ) → Once (xs ++ ys) → Once ys
once_back [] ys once = once
once_back (x ∷ xs) ys once = once_back xs ys (once_tail x (xs ++ ys) once)

pub once_between : (xs ys : List ℕ) (x y : ℕ) → Once (xs ++ ys) → Contains xs x → Contains ys y → x ≢ y
once_between [] ys x y once front back = absurd (contains_none x front)
once_between (z ∷ xs) ys x y once front back = elim (contains_cases z x xs front) [
  | inl same ↦ subst (λ w. w ≢ y) same (once_head z y (xs ++ ys) once (Contains-append_right xs ys y back))
  | inr later ↦ once_between xs ys x y (once_tail z (xs ++ ys) once) later back
]

-- a list without an item that it does not have
pub without_absent : (x : ℕ) (xs : List ℕ) → ¬ Contains xs x → without x xs ≡ xs
without_absent x [] absent = refl
without_absent x (y ∷ ys) absent =
    let other : (y == x) ≡ false = ne_eqb y x (λ same. absent (subst (λ z. Contains (y ∷ ys) z) same (contains_head y ys))) in
    rw other (ap (λ l. y ∷ l) (without_absent x ys (λ inside. absent (contains_tail y x ys inside))))

-- a list without an item that stands in one place of it
pub without_cut : (x : ℕ) (before rest : List ℕ) → Once (before ++ x ∷ rest) → without x (before ++ x ∷ rest) ≡ before ++ rest
without_cut x before rest once =
    let same : (x == x) ≡ true = eq-eqb x x refl in
    let front : without x before ≡ before =
    without_absent x before (λ inside. once_between before (x ∷ rest) x x once inside (contains_head x rest) refl) in
    let back : without x rest ≡ rest =
    without_absent x rest (λ inside. once_head x x rest (once_back before (x ∷ rest) once) inside refl) in
    let dropped : without x (x ∷ rest) ≡ without x rest = rw same refl in
    filter-append (λ y. not (y == x)) before (x ∷ rest) ∙ ap (λ l. l ++ without x (x ∷ rest)) front
    ∙ ap (λ l. before ++ l) (dropped ∙ back)
