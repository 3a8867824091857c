use Rattle.std.proofs.Common.{◌≡◌, ◌+◌, ◌<◌, List, [], ◌∷◌, ◌++◌, length, get_or, drop, string_bytes, ap, ◌∙◌, arith}
use Rattle.agglo_model.specs.Report.{Level, level_lines}
use Rattle.segment_run.proofs.ReportLines.{gains_line, no_line_left}
use Rattle.segment_run.proofs.report.report_text.Goals as goal

pub loop-number-init : goal.loop-number-init
loop-number-init c = ap (λ text. text ++ level_lines 0 c.args.answer.now.levels.items) c.in_ok-text.ensures

pub loop-number-preserved : goal.loop-number-preserved
loop-number-preserved c =
    let levels : List Level = c.args.answer.now.levels.items in
    let below : c.loop-number.number < length levels = omega (arith, ap length c.deref-level-items.ensures.value) in
    let level : c.level-item.result ≡ get_or levels c.loop-number.number c.level-item.result =
    c.level-item.is ∙ ap (λ l. get_or l c.loop-number.number c.level-item.result) c.deref-level-items.ensures.value in
    let line = c.deref.ensures ∙ c.in_ok-level_line.ensures ∙ ap (λ l. level_lines c.loop-number.number (l ∷ [])) level in
    ap (λ text. text ++ level_lines (c.loop-number.number + 1) (drop (c.loop-number.number + 1) levels)) c.in_ok-push_str.ensures.bytes
    ∙ gains_line c.loop-number.number levels (string_bytes c.loop-number.text) c.deref.result.now _ c.level-item.result below line
    c.loop-number.invariant

pub returns : goal.returns
returns c = no_line_left c.loop-number.number c.args.answer.now.levels.items (string_bytes c.loop-number.text) _
    (omega (arith, ap length c.deref-level-items.ensures.value)) c.loop-number.invariant
