use Rattle.std.proofs.Common.{rules, ◌≡◌, ◌+◌, ◌/◌, ◌%◌, ◌^◌, ◌<◌, get_or, length, length-set, refl, ap, ◌∙◌, arith}
use Rattle.std.proofs.lemmas.List.{get_or-set_other}
use Rattle.volume_file.proofs.Lanes.{lane_set, are_bytes, place_later}
use Rattle.volume_file.proofs.sequence.Sequence.fill.Goals as goal

pub loop-i-init : goal.loop-i-init
loop-i-init c =
    let long : length c.args.self.now.high ≡ 65536 = search rules in (
      c.told-bytes,
      long,
      refl,
      λ j below. absurd (omega (arith, below)),
      λ j below. absurd (omega (arith, below)),
      λ j after. refl,
    )

pub loop-i-preserved : goal.loop-i-preserved
loop-i-preserved c =
    let high = c.args.self.now.high in
    let rise = c.args.self.now.rise in
    let inside : c.loop-i.i < length c.loop-i.bytes = omega (arith, c.loop-i.invariant.0, c.loop-i-test.true) in
    let inside_high : c.loop-i.i < length c.loop-i.self.high = omega (arith, c.loop-i.invariant.1, c.loop-i-test.true) in
    let old_high : get_or c.loop-i.self.high c.loop-i.i 0 ≡ get_or high c.loop-i.i 0 = c.loop-i.invariant.5 c.loop-i.i (omega arith) in
    let sum = (λ k. (get_or c.loop-i.self.high c.loop-i.i 0 + get_or (c.loop-i.invariant.2 k) c.loop-i.i 0) % 2 ^ 16) ∙ ap (λ h. (h + get_or rise c.loop-i.i 0) % 2 ^ 16) old_high in (
      length-set c.loop-i.bytes c.loop-i.i _ ∙ c.loop-i.invariant.0,
      length-set c.loop-i.self.high c.loop-i.i _ ∙ c.loop-i.invariant.1,
      c.loop-i.invariant.2,
      λ j below. lane_set (λ k. get_or high k 0 / 2 ^ 8) c.loop-i.i j c.loop-i.bytes (get_or c.loop-i.self.high c.loop-i.i 0 / 2 ^ 8)
          inside (ap (λ h. h / 2 ^ 8) old_high) (c.loop-i.invariant.3 j) below,
      λ j below. lane_set (λ k. (get_or high k 0 + get_or rise k 0) % 2 ^ 16) c.loop-i.i j c.loop-i.self.high _
          inside_high sum (c.loop-i.invariant.4 j) below,
      λ j after. get_or-set_other c.loop-i.self.high c.loop-i.i j _ 0 (omega (arith, after)) ∙ c.loop-i.invariant.5 j (omega (arith, after)),
    )

pub returns-clause-place : goal.returns-clause-place
returns-clause-place c start e is =
    rw c.loop-i.invariant.2 (place_later start e c.args.self.now.high c.args.self.now.rise c.loop-i.self.high is
    (λ i inside. c.loop-i.invariant.4 i (omega (arith, inside, c.loop-i-test.false))))

pub returns-clause-bytes : goal.returns-clause-bytes
returns-clause-bytes c start e is = are_bytes start e c.args.self.now.high c.loop-i.bytes c.loop-i.invariant.0 is.0
    (λ i inside. c.loop-i.invariant.3 i (omega (arith, inside, c.loop-i-test.false)))
