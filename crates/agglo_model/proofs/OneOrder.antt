-- Two lists in one strict order that have the same elements are one list.
use Rattle.std.proofs.Common.{◌≡◌, inl, inr, List, [], ◌∷◌, refl, sym, ◌∙◌, subst}
use Rattle.std.specs.Prelude.{AllPairs, Contains}
use Rattle.agglo_model.proofs.Members.{contains_head, contains_tail, contains_cases, contains_none, all_pairs_head, all_pairs_tail}

module _ {X : Type 0} (R : X → X → Type 0) (asym : (x y : X) → R x y → ¬ (R y x)) where
  -- the head of one is the head of the other
  same_head : (x y : X) (xs ys : List X) → AllPairs R (x ∷ xs) → AllPairs R (y ∷ ys)
      → Contains (y ∷ ys) x → Contains (x ∷ xs) y → x ≡ y
  same_head x y xs ys order order' inside inside' = elim (contains_cases y x ys inside) [
    | inl same ↦ sym same
    | inr later ↦ elim (contains_cases x y xs inside') [
      | inl same ↦ same
      | inr later' ↦ absurd (asym y x (all_pairs_head R y x ys order' later) (all_pairs_head R x y xs order later'))
    ]
  ]

  -- what follows the head of one follows the head of the other
  in_tail : (x y z : X) (xs ys : List X) → AllPairs R (x ∷ xs) → x ≡ y → Contains xs z
      → Contains (y ∷ ys) z → Contains ys z
  in_tail x y z xs ys order same inside inside' = elim (contains_cases y z ys inside') [
    | inl head ↦
        let first = subst (λ (w : X). R w z) (same ∙ head) (all_pairs_head R x z xs order inside) in
        absurd (asym z z first first)
    | inr later ↦ later
  ]

  pub one_order : (xs ys : List X) → AllPairs R xs → AllPairs R ys
      → ((x : X) → Contains xs x → Contains ys x) → ((x : X) → Contains ys x → Contains xs x) → xs ≡ ys
  one_order [] [] order order' into back = refl
  one_order [] (y ∷ ys) order order' into back = absurd (contains_none y (back y (contains_head y ys)))
  one_order (x ∷ xs) [] order order' into back = absurd (contains_none x (into x (contains_head x xs)))
  one_order (x ∷ xs) (y ∷ ys) order order' into back =
      let head = same_head x y xs ys order order' (into x (contains_head x xs)) (back y (contains_head y ys)) in
      let tail = one_order xs ys (all_pairs_tail R x xs order) (all_pairs_tail R y ys order')
      (λ z inside. in_tail x y z xs ys order head inside (into z (contains_tail x z xs inside)))
      (λ z inside. in_tail y x z ys xs order' (sym head) inside (back z (contains_tail y z ys inside))) in
      λ i. head i ∷ tail i
