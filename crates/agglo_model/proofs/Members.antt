-- What a list holds: its head, and what the rest holds.
use Rattle.std.proofs.Common.{◌≡◌, ◌⊎◌, inl, inr, zero, suc, Bool, true, false, true≢false, cond, List, [], ◌∷◌, get_or, refl, sym, ap, ◌∙◌, subst, arith}
use Rattle.std.specs.Prelude.{Contains, All, AllPairs, map, filter}
use Rattle.std.proofs.lemmas.List.{get_or-map, length-map}
use Rattle.std.proofs.lemmas.List.Elements.{Contains-get_or, All-contains, All-filter, All-contains_itself, filter_passes}

pub contains_head : {X : Type 0} (x : X) (xs : List X) → Contains (x ∷ xs) x
contains_head x xs = (0, omega arith, refl)

pub contains_tail : {X : Type 0} (y x : X) (xs : List X) → Contains xs x → Contains (y ∷ xs) x
contains_tail y x xs (k, below, same) = (suc k, omega arith, same)

pub contains_cases : {X : Type 0} (y x : X) (xs : List X) → Contains (y ∷ xs) x
    → (y ≡ x) ⊎ Contains xs x
contains_cases y x xs (zero, below, same) = inl same
contains_cases y x xs (suc k, below, same) = inr (k, omega arith, same)

pub contains_none : {X : Type 0} (x : X) → ¬ (Contains [] x)
contains_none x (k, below, same) = omega arith

-- what all elements are, each element is, and the other way round
pub All-from_contains : {X : Type 0} (P : X → Type 0) (xs : List X) → ((x : X) → Contains xs x → P x)
    → All P xs
All-from_contains P xs each k d below = each (get_or xs k d) (Contains-get_or xs k d below)

-- the image of an element
pub Contains-map : {X Y : Type 0} (f : X → Y) (xs : List X) (x : X) → Contains xs x
    → Contains (map f xs) (f x)
Contains-map f xs x (k, below, same) =
    let len = length-map xs f in (k, omega arith, get_or-map f xs k x (f x) below ∙ ap f same)

-- an element of the image of a list, and what it is the image of
pub Contains-unmap : {X Y : Type 0} (f : X → Y) (xs : List X) (y : Y) → Contains (map f xs) y
    → (x : X) × Contains xs x × (f x ≡ y)
Contains-unmap f [] y inside = absurd (contains_none y inside)
Contains-unmap f (x ∷ xs) y inside = elim (contains_cases (f x) y (map f xs) inside) [
  | inl same ↦ (x, contains_head x xs, same)
  | inr later ↦
      let found = Contains-unmap f xs y later in
      (found.0, contains_tail x found.0 xs found.1, found.2)
]

-- the first of a list whose elements stand in order comes before each of the others
pub all_pairs_head : {X : Type 0} (R : X → X → Type 0) (x y : X) (xs : List X) → AllPairs R (x ∷ xs)
    → Contains xs y → R x y
all_pairs_head R x y xs ordered (k, below, same) = subst (R x) same (ordered 0 (suc k) y (omega arith) (omega arith))

pub all_pairs_tail : {X : Type 0} (R : X → X → Type 0) (x : X) (xs : List X) → AllPairs R (x ∷ xs)
    → AllPairs R xs
all_pairs_tail R x xs ordered i j d before below = ordered (suc i) (suc j) d (omega arith) (omega arith)

-- what passes a test stays in a list, and what is in it passes
pub Contains-filter : {X : Type 0} (p : X → Bool) (xs : List X) (x : X) → Contains xs x → p x ≡ true → Contains (filter p xs) x
Contains-filter p [] x inside pass = absurd (contains_none x inside)
Contains-filter p (y ∷ xs) x inside pass =
    step (p y) (contains_cases y x xs inside) (λ same. ap p same ∙ pass) (λ later. Contains-filter p xs x later pass)
  where
    step : (b : Bool) → (y ≡ x) ⊎ Contains xs x → (y ≡ x → b ≡ true) → (Contains xs x → Contains (filter p xs) x)
        → Contains (cond b (y ∷ filter p xs) (filter p xs)) x
    step true (inl same) passes rest = subst (Contains (y ∷ filter p xs)) same (contains_head y (filter p xs))
    step true (inr later) passes rest = contains_tail y x (filter p xs) (rest later)
    step false (inl same) passes rest = absurd (true≢false (sym (passes same)))
    step false (inr later) passes rest = rest later

pub Contains-unfilter : {X : Type 0} (p : X → Bool) (xs : List X) (x : X) → Contains (filter p xs) x → Contains xs x × (p x ≡ true)
Contains-unfilter p xs x inside = (
  All-contains (Contains xs) (filter p xs) x (All-filter p (Contains xs) xs (All-contains_itself xs)) inside,
  All-contains (λ y. p y ≡ true) (filter p xs) x (filter_passes p xs) inside,
)
