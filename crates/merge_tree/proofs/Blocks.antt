-- A list that is put in blocks, each of its elements as some bytes.
use Rattle.std.proofs.Common.{◌≡◌, List, ℕ, ◌+◌, ◌++◌, take, drop, ap, sym, subst, ◌∙◌}
use Rattle.std.specs.List.{flat_map}
use Rattle.std.proofs.Math.Seq.{take-add}
use Rattle.std.proofs.lemmas.List.{take-append-drop}
use Rattle.std.proofs.lemmas.Grind.{flat_map-append}
use Rattle.seg_io.specs.Desk.{DeskState}
use Rattle.seg_io.specs.Piecing.{PiecerState, Puts, FailsToPut}
use Rattle.seg_io.proofs.Piecing.{FailsToPut-sooner, Puts-fails, Puts-more}

-- the bytes of one block more
bytes_more : {X : Type 0} → (f : X → List ℕ) (xs : List X) (n k : ℕ)
    → flat_map f (take (n + k) xs) ≡ flat_map f (take n xs) ++ flat_map f (take k (drop n xs))
bytes_more f xs n k = ap (flat_map f) (take-add n k xs) ∙ flat_map-append f (take n xs) (take k (drop n xs))

-- one block more was put
pub block_put : {X : Type 0} → (f : X → List ℕ) (xs : List X) (block : List ℕ) (n k : ℕ) (p q r : PiecerState) (s t u : DeskState)
    → block ≡ flat_map f (take k (drop n xs))
    → Puts (flat_map f (take n xs)) p q s t → Puts block q r t u
    → Puts (flat_map f (take (n + k) xs)) p r s u
block_put f xs block n k p q r s t u e x y =
    subst (λ (l : List ℕ). Puts l p r s u) (sym (bytes_more f xs n k))
    (Puts-more _ _ p q r s t u x (subst (λ (l : List ℕ). Puts l q r t u) e y))

-- a block failed: of all bytes a prefix was put
pub block_fails : {X : Type 0} → (f : X → List ℕ) (xs : List X) (block : List ℕ) (n k : ℕ) (p q r : PiecerState) (s t u : DeskState)
    → block ≡ flat_map f (take k (drop n xs))
    → Puts (flat_map f (take n xs)) p q s t → FailsToPut block q r t u
    → FailsToPut (flat_map f xs) p r s u
block_fails f xs block n k p q r s t u e x y =
    let some : FailsToPut (flat_map f (take (n + k) xs)) p r s u =
    subst (λ (l : List ℕ). FailsToPut l p r s u) (sym (bytes_more f xs n k))
    (Puts-fails _ _ p q r s t u x (subst (λ (l : List ℕ). FailsToPut l q r t u) e y)) in
    let whole : flat_map f (take (n + k) xs) ++ flat_map f (drop (n + k) xs) ≡ flat_map f xs =
    sym (flat_map-append f (take (n + k) xs) (drop (n + k) xs))
    ∙ ap (flat_map f) (take-append-drop (n + k) xs) in
    subst (λ (l : List ℕ). FailsToPut l p r s u) whole (FailsToPut-sooner _ (flat_map f (drop (n + k) xs)) p r s u some)
