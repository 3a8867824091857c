-- A vector after a slice of all of it was changed.
use Rattle.std.proofs.Common.{◌≡◌, ℕ, List, ◌++◌, append-nil, take, drop, length, ap, ◌∙◌, arith}
use Rattle.std.proofs.lemmas.List.{take_all, drop_all}

pub written_back : {X : Type 0} (new old : List X) (n : ℕ) → length new ≡ length old → n ≡ length old
    → take n (new ++ drop (length new) old) ≡ new
written_back new old n same len =
    ap (λ rest. take n (new ++ rest)) (drop_all (length new) old (omega (arith, same))) ∙ ap (take n) (append-nil new)
    ∙ take_all n new (omega (arith, same, len))
