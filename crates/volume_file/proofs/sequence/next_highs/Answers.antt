use Rattle.std.proofs.Common.{◌≡◌, ◌+◌, ◌/◌, ◌^◌, ap, length-set, ◌∙◌, arith}
use Rattle.agglo_model.specs.Generated.{next_number, number_after}
use Rattle.volume_file.proofs.Lanes.{lane_set}
use Rattle.volume_file.proofs.Rounds.{after_none, next_after}
use Rattle.volume_file.proofs.sequence.next_highs.Goals as goal

pub loop-i-init : goal.loop-i-init
loop-i-init c = (c.told-high, after_none c.args.start, λ j below. absurd (omega (arith, below)))

pub loop-i-preserved : goal.loop-i-preserved
loop-i-preserved c =
    let next = c.next_number-number.ensures ∙ ap next_number c.loop-i.invariant.1 ∙ next_after c.args.start c.loop-i.i in (
      length-set c.loop-i.high c.loop-i.i _ ∙ c.loop-i.invariant.0,
      next,
      λ j below.
          lane_set (λ k. number_after c.args.start (k + 1) / 2 ^ 16) c.loop-i.i j c.loop-i.high (c.next_number-number.result / 2 ^ 16)
          (omega (arith, c.loop-i.invariant.0, c.loop-i-test.true)) (ap (λ n. n / 2 ^ 16) next) (c.loop-i.invariant.2 j) below,
    )

pub returns-clause-highs : goal.returns-clause-highs
returns-clause-highs c i below =
    let place : i + 1 ≡ 0 + i + 1 = omega arith in
    c.loop-i.invariant.2 i (omega (arith, below, c.loop-i-test.false)) ∙ ap (λ n. number_after c.args.start n / 2 ^ 16) place

pub returns-clause-last : goal.returns-clause-last
returns-clause-last c =
    let all : c.loop-i.i ≡ 65536 = omega (arith, c.loop-i-test.false, c.loop-i.auto.i-end) in
    c.loop-i.invariant.1 ∙ ap (number_after c.args.start) all
