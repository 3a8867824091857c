-- How many names a list of basin labels has.
use Rattle.std.proofs.Common.{◌≡◌, ℕ, zero, suc, ◌+◌, ◌-◌, ◌<◌, ◌≤◌, ◌==◌, ◌||◌, Bool, true, false, cond, List, [], ◌∷◌, ◌++◌, get_or, length, fold, count_by, max, refl, sym, ◌∙◌, ap, subst, inl, inr, arith, eq-eqb, eqb-true, add-zero, ap₂, subst₂, ne_eqb, map-id}
use Rattle.std.specs.List.{range_with_len, list_any}
use Rattle.std.proofs.lemmas.Bool.{cases_lt}
use Rattle.std.proofs.lemmas.List.{get_or_past}
use Rattle.std.proofs.lemmas.List.Sums.{sum_by-cons, sum_by_push, length-filter}
use Rattle.std.proofs.lemmas.List.FromFn.{map-range_with_len_more}
use Rattle.std.proofs.lemmas.List.Folds.{list_any_at}
use Rattle.agglo_model.specs.Axes.{voxel_count}
use Rattle.agglo_model.specs.Grid.{Grid}
use Rattle.agglo_model.specs.Basins.{label_of, AreBasins, names, occurs}
use Rattle.agglo_model.proofs.BasinLabels.{label-le, label_names_voxel}

-- two tests that agree along two ranges count alike
count_alike : (p q : ℕ → Bool) (a b n : ℕ) → ((i : ℕ) → i < n → p (a + i) ≡ q (b + i))
    → count_by p (range_with_len a n) ≡ count_by q (range_with_len b n)
count_alike p q a b zero same = refl
count_alike p q a b (suc n) same =
    sum_by-cons (λ x. cond (p x) 1 0) a (range_with_len (a + 1) n)
    ∙ ap₂ (λ x y. cond x 1 0 + y) head (count_alike p q (a + 1) (b + 1) n shift)
    ∙ sym (sum_by-cons (λ x. cond (q x) 1 0) b (range_with_len (b + 1) n))
  where
    head : p a ≡ q b
    head = let h : p (a + 0) ≡ q (b + 0) = same 0 (omega arith) in
        subst₂ (λ x y. p x ≡ q y) (add-zero a) (add-zero b) h

    shift : (i : ℕ) → i < n → p (a + 1 + i) ≡ q (b + 1 + i)
    shift i lt = let h = same (i + 1) (omega arith) in
        let x : a + (i + 1) ≡ a + 1 + i = omega arith in
        let y : b + (i + 1) ≡ b + 1 + i = omega arith in
        subst₂ (λ x y. p x ≡ q y) x y h

-- one more number at the end of a range
pub range_more : (n : ℕ) → range_with_len 0 (n + 1) ≡ range_with_len 0 n ++ n ∷ []
range_more n = sym (map-id (range_with_len 0 (n + 1)))
    ∙ map-range_with_len_more (λ (x : ℕ). x) 0 n n (omega arith)
    ∙ ap (λ l. l ++ n ∷ []) (map-id (range_with_len 0 n))

pub count_more : (p : ℕ → Bool) (n : ℕ)
    → count_by p (range_with_len 0 (n + 1)) ≡ count_by p (range_with_len 0 n) + cond (p n) 1 0
count_more p n = ap (λ l. count_by p l) (range_more n) ∙ sum_by_push (λ x. cond (p x) 1 0) (range_with_len 0 n) n

-- numbers that fail the test do not count
count_on : (p : ℕ → Bool) (m k : ℕ) → ((v : ℕ) → m ≤ v → v < m + k → p v ≡ false)
    → count_by p (range_with_len 0 (m + k)) ≡ count_by p (range_with_len 0 m)
count_on p m zero fails = ap (λ n. count_by p (range_with_len 0 n)) (add-zero m)
count_on p m (suc k) fails =
    let last : m + suc k ≡ m + k + 1 = omega arith in
    let here : p (m + k) ≡ false = fails (m + k) (omega arith) (omega arith) in
    let more : count_by p (range_with_len 0 (m + k + 1)) ≡ count_by p (range_with_len 0 (m + k)) + 0 =
    subst (λ b. count_by p (range_with_len 0 (m + k + 1)) ≡ count_by p (range_with_len 0 (m + k)) + cond b 1 0) here (count_more p (m + k)) in
    ap (λ n. count_by p (range_with_len 0 n)) last
    ∙ more ∙ add-zero (count_by p (range_with_len 0 (m + k)))
    ∙ count_on p m k (λ v le lt. fails v le (omega arith))

count_up_to : (p : ℕ → Bool) (m n : ℕ) → m ≤ n → ((v : ℕ) → m ≤ v → v < n → p v ≡ false)
    → count_by p (range_with_len 0 n) ≡ count_by p (range_with_len 0 m)
count_up_to p m n le fails =
    let is : m + (n - m) ≡ n = omega arith in
    subst (λ z. count_by p (range_with_len 0 z) ≡ count_by p (range_with_len 0 m)) is
    (count_on p m (n - m) (λ v at lt. fails v at (omega arith)))

fold-max-le : (m a : ℕ) (xs : List ℕ) → a ≤ m → ((i : ℕ) → get_or xs i 0 ≤ m) → fold max a xs ≤ m
fold-max-le m a [] le each = le
fold-max-le m a (x ∷ xs) le each =
    fold-max-le m (max a x) xs (let h = each 0 in omega arith) (λ i. each (suc i))

start-le-fold : (a : ℕ) (xs : List ℕ) → a ≤ fold max a xs
start-le-fold a [] = omega arith
start-le-fold a (x ∷ xs) = let h = start-le-fold (max a x) xs in omega arith

get_or-le-fold : (a : ℕ) (xs : List ℕ) (i : ℕ) → get_or xs i 0 ≤ fold max a xs
get_or-le-fold a [] i = omega arith
get_or-le-fold a (x ∷ xs) zero = let h = start-le-fold (max a x) xs in omega arith
get_or-le-fold a (x ∷ xs) (suc i) = get_or-le-fold (max a x) xs i

list_any_index : (p : ℕ → Bool) (xs : List ℕ) → list_any p xs ≡ true
    → (i : ℕ) × (i < length xs) × (p (get_or xs i 0) ≡ true)
list_any_index p [] t = absurd (cc)
list_any_index p (x ∷ xs) t = pick (p x) refl (λ later. list_any_index p xs later)
  where
    pick : (b : Bool) → p x ≡ b
        → (list_any p xs ≡ true → (i : ℕ) × (i < length xs) × (p (get_or xs i 0) ≡ true))
        → (i : ℕ) × (i < length (x ∷ xs)) × (p (get_or (x ∷ xs) i 0) ≡ true)
    pick true is later = (0, omega arith, is)
    pick false is later =
        let h = later (subst (λ b. (b || list_any p xs) ≡ true) is t) in
        (suc h.0, omega (arith, h.1), h.2)

-- the label of voxel v names v
abbrev pub names_itself : List ℕ → ℕ → Bool
names_itself labels v = label_of labels v == v + 1

-- an entry that is not 0 stands within the list
index_of : (xs : List ℕ) (i : ℕ) → 0 < get_or xs i 0 → i < length xs
index_of xs i pos = elim (cases_lt i (length xs)) [
  | inl lt ↦ lt
  | inr le ↦ (let h = get_or_past xs i 0 le in absurd (omega arith))
]

occurs_at : (g : Grid) (low : ℕ) (labels : List ℕ) → AreBasins g low labels → (v : ℕ)
    → occurs labels (v + 1) ≡ names_itself labels v
occurs_at g low labels are v = pick (occurs labels (v + 1)) (names_itself labels v) refl refl
  where
    up : occurs labels (v + 1) ≡ true → names_itself labels v ≡ true
    up t = let h = list_any_index (λ y. y == v + 1) labels t in
        eq-eqb (label_of labels v) (v + 1)
        (label_names_voxel g low labels are h.0 v (eqb-true (label_of labels h.0) (v + 1) h.2))

    down : names_itself labels v ≡ true → occurs labels (v + 1) ≡ true
    down t = let is : label_of labels v ≡ v + 1 = eqb-true (label_of labels v) (v + 1) t in
        list_any_at (λ y. y == v + 1) labels v 0 (index_of labels v (omega arith)) t

    pick : (b c : Bool) → occurs labels (v + 1) ≡ b → names_itself labels v ≡ c → occurs labels (v + 1) ≡ names_itself labels v
    pick true c p q = p ∙ sym (up p)
    pick false true p q = let h = down q in absurd (cc)
    pick false false p q = p ∙ sym q

-- the names are as many as the voxels whose label names them
pub names_counted : (g : Grid) (low : ℕ) (labels : List ℕ) → AreBasins g low labels
    → length (names labels) ≡ count_by (names_itself labels) (range_with_len 0 (voxel_count g.axes))
names_counted g low labels are =
    length-filter (occurs labels) (range_with_len 1 (fold max 0 labels))
    ∙ count_alike (occurs labels) (names_itself labels) 1 0 (fold max 0 labels) each
    ∙ sym (count_up_to (names_itself labels) (fold max 0 labels) (voxel_count g.axes) most beyond)
  where
    each : (i : ℕ) → i < fold max 0 labels → occurs labels (1 + i) ≡ names_itself labels (0 + i)
    each i lt =
        let one : i + 1 ≡ 1 + i = omega arith in
        let none : i ≡ 0 + i = omega arith in
        subst₂ (λ x y. occurs labels x ≡ names_itself labels y) one none (occurs_at g low labels are i)

    most : fold max 0 labels ≤ voxel_count g.axes
    most = fold-max-le (voxel_count g.axes) 0 labels (omega arith) (label-le g low labels are)

    beyond : (v : ℕ) → fold max 0 labels ≤ v → v < voxel_count g.axes → names_itself labels v ≡ false
    beyond v le lt = let h = get_or-le-fold 0 labels v in ne_eqb (label_of labels v) (v + 1) (omega arith)
