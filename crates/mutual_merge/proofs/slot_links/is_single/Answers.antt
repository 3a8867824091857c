use Rattle.std.proofs.Common.{◌≢◌, inl, inr, ◌/◌, ℕ, List, sym, subst, true≢false, take, get_or}
use Rattle.std.specs.Prelude.{Contains, IsTrue}
use Rattle.std.proofs.lemmas.List.{take_all, take_more}
use Rattle.std.proofs.lemmas.List.Elements.{Contains-push_cases}
use Rattle.std.proofs.lemmas.Bool.{cases_eq}
use Rattle.mutual_merge.specs.Slots.{Joins, nth_link}
use Rattle.mutual_merge.proofs.slot_links.is_single.Goals as goal

pub loop-item-preserved : goal.loop-item-preserved
loop-item-preserved c j inside joins =
    elim (Contains-push_cases (take c.loop-item.item-index c.args.items.now) (get_or c.args.items.now c.loop-item.item-index 0) j
    (subst (λ (seen : List ℕ). Contains seen j) (take_more c.args.items.now c.loop-item.item-index 0 c.loop-item-test.true) inside)) [
      | inl before ↦ c.loop-item.invariant j before joins
      | inr same ↦ elim (cases_eq (j / 2) c.args.index) [
        | inl is ↦ is
        | inr other ↦
            absurd (subst (λ b. ¬ (IsTrue b)) (sym c.if-is_double.false) (λ h. true≢false (sym h))
            (c.is_double.ensures.1
            (subst (λ k. (k / 2 ≢ c.args.index) × Joins (nth_link c.args.links.now c.args.index).a (nth_link c.args.links.now c.args.index).b (nth_link c.args.links.now (k / 2)))
            (sym same) (other, joins))))
      ]
    ]

pub returns : goal.returns
returns c single j inside =
    c.loop-item.invariant j (subst (λ (seen : List ℕ). Contains seen j) (sym (take_all c.loop-item.item-index c.args.items.now c.loop-item-test.false)) inside)
