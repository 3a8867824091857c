use Rattle.std.proofs.Common.{rules, ◌≡◌, ◌<◌, length, ap, ◌+◌, ◌-◌, ◌%◌, ◌^◌, get_or, length-set, refl, ◌∙◌, arith}
use Rattle.std.proofs.lemmas.List.{get_or-set_other}
use Rattle.volume_file.proofs.Lanes.{lane_set}
use Rattle.volume_file.proofs.sequence.lower.Goals as goal

pub loop-i-init : goal.loop-i-init
loop-i-init c = (c.told-lanes, λ j below. absurd (omega (arith, below)), λ j after. refl)

pub loop-i-preserved : goal.loop-i-preserved
loop-i-preserved c =
    let later = get_or c.args.lanes.now c.loop-i.i 0 in
    let high = get_or c.args.before.now c.loop-i.i 0 in
    let fits : high < 2 ^ 16 = search rules in
    let inside : c.loop-i.i < length c.loop-i.lanes = omega (arith, c.loop-i.invariant.0, c.loop-i-test.true) in
    let as_before : get_or c.loop-i.lanes c.loop-i.i 0 ≡ later = c.loop-i.invariant.2 c.loop-i.i (omega arith) in
    let sum : later + (2 ^ 16 - high) ≡ later + 2 ^ 16 - high = omega (arith, fits) in
    let lowered = ap (λ n. (n + (2 ^ 16 - high)) % 2 ^ 16) as_before ∙ ap (λ n. n % 2 ^ 16) sum in (
      length-set c.loop-i.lanes c.loop-i.i _ ∙ c.loop-i.invariant.0,
      λ j below. lane_set (λ k. (get_or c.args.lanes.now k 0 + 2 ^ 16 - get_or c.args.before.now k 0) % 2 ^ 16) c.loop-i.i j c.loop-i.lanes _
          inside lowered (c.loop-i.invariant.1 j) below,
      λ j after. get_or-set_other c.loop-i.lanes c.loop-i.i j _ 0 (omega (arith, after)) ∙ c.loop-i.invariant.2 j (omega (arith, after)),
    )

pub returns : goal.returns
returns c i below = c.loop-i.invariant.1 i (omega (arith, below, c.loop-i-test.false))
