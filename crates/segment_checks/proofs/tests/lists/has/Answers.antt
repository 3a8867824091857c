use Rattle.std.proofs.Common.{◌≡◌, ℕ, ◌+◌, ◌<◌, ◌≤◌, true, false, List, [], ◌∷◌, ◌++◌, Option, None, Some, take, length, get_or, refl, sym, ap, ◌∙◌, subst, arith, append_assoc, append-nil}
use Rattle.std.specs.Prelude.{slice_get, is_some, not, IsTrue}
use Rattle.std.proofs.lemmas.List.{take_all, take_more}
use Rattle.index_lists.specs.LinkedLists.{IsNext}
use Rattle.segment_checks.proofs.tests.lists.has.Goals as goal

-- the walk goes on by one item
on_by_one : (xs items rest : List ℕ) (k item : ℕ) (next after : Option ℕ) → xs ≡ take k items ++ rest → next ≡ slice_get rest 0
    → next ≡ Some item → item ≡ get_or items k 0 → k < length items → IsNext xs item after
    → (left : List ℕ) × (xs ≡ take (k + 1) items ++ left) × (after ≡ slice_get left 0)
on_by_one xs items [] k item next after is head found same below goes_on =
    let none : ◌≡◌ {A = Option ℕ} None (Some item) = sym head ∙ found in absurd (let bad : ⊥ = cc in bad)
on_by_one xs items (z ∷ zs) k item next after is head found same below goes_on =
    let is_item : z ≡ item = let both : Some z ≡ Some item = sym head ∙ found in cc in
    let cut : xs ≡ take k items ++ item ∷ zs = is ∙ ap (λ w. take k items ++ w ∷ zs) is_item in (
      zs,
      cut ∙ sym (append_assoc (take k items) (item ∷ []) zs)
          ∙ ap (λ ys. ys ++ zs) (ap (λ w. take k items ++ w ∷ []) same ∙ sym (take_more items k 0 below)),
      goes_on (take k items) zs cut,
    )

-- the walk has come to the end
at_the_end : (xs items rest : List ℕ) (k : ℕ) (next : Option ℕ) → xs ≡ take k items ++ rest → next ≡ slice_get rest 0 → is_some next ≡ false
    → length items ≤ k → xs ≡ items
at_the_end xs items [] k next is head none past = is ∙ append-nil (take k items) ∙ take_all k items past
at_the_end xs items (z ∷ zs) k next is head none past =
    let some : true ≡ false = sym (ap is_some head) ∙ none in absurd (let bad : ⊥ = cc in bad)

pub loop-item-preserved : goal.loop-item-preserved
loop-item-preserved c =
    on_by_one _ c.args.items.now c.loop-item.invariant.0 c.loop-item.item-index c.in-Some.there c.loop-item.next c.next-next.result
    c.loop-item.invariant.1 c.loop-item.invariant.2 c.in-Some.is c.if-there-item.true c.loop-item-test.true c.next-next.ensures.after

pub returns : goal.returns
returns c = λ yes.
    at_the_end _ c.args.items.now c.loop-item.invariant.0 c.loop-item.item-index c.loop-item.next c.loop-item.invariant.1
    c.loop-item.invariant.2 (c.is_none.ensures ∙ ap not yes) c.loop-item-test.false
