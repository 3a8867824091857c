use Rattle.std.proofs.Common.{◌≡◌, ◌*◌, ◌/◌, ◌∙◌, ap, length, map, arith}
use Rattle.std.specs.List.{range_with_len}
use Rattle.std.proofs.lemmas.List.FromFn.{length-map-range_with_len}
use Rattle.agglo_model.specs.Generated.{generated_byte}
use Rattle.volume_file.proofs.Lanes.{turn_appended, rest_appended, turned}
use Rattle.volume_file.proofs.generating.generate.Goals as goal

pub loop-preserved : goal.loop-preserved
loop-preserved c =
    let bytes = c.fill.ensures.bytes c.args.start (65536 * c.loop.counter) c.loop.invariant.1 in (
      c.in_ok-extend_from_slice.ensures.items
          ∙ turn_appended c.args.start c.loop.counter c.fill.new.bytes c.loop.body.items bytes c.loop.invariant.0,
      turned c.args.start c.loop.counter _ (c.fill.ensures.place c.args.start (65536 * c.loop.counter) c.loop.invariant.1),
    )

pub of-requires : goal.of-requires
of-requires c =
    let turns : c.loop.counter ≡ c.body_len-length.result / 65536 = omega (arith, c.loop-test.false, c.loop.auto.counter-end) in
    let bytes = c.fill-2.ensures.bytes c.args.start (65536 * c.loop.counter) c.loop.invariant.1 in
    let body = c.in_ok-extend_from_slice-2.ensures.items
    ∙ rest_appended c.args.start c.body_len-length.result c.loop.counter c.fill-2.new.bytes c.loop.body.items turns bytes c.loop.invariant.0 in
    ap length body ∙ length-map-range_with_len (generated_byte c.args.start) 0 c.body_len-length.result ∙ c.body_len-length.ensures.value

pub returns : goal.returns
returns c =
    let turns : c.loop.counter ≡ c.body_len-length.result / 65536 = omega (arith, c.loop-test.false, c.loop.auto.counter-end) in
    let bytes = c.fill-2.ensures.bytes c.args.start (65536 * c.loop.counter) c.loop.invariant.1 in
    let body = c.in_ok-extend_from_slice-2.ensures.items
    ∙ rest_appended c.args.start c.body_len-length.result c.loop.counter c.fill-2.new.bytes c.loop.body.items turns bytes c.loop.invariant.0
    ∙ ap (λ n. map (generated_byte c.args.start) (range_with_len 0 n)) c.body_len-length.ensures.value in
    c.of.ensures ∙ (λ i. record { axes = c.args.dims.now; bytes = body i })
