use Rattle.std.proofs.Common.{◌≡◌, ◌++◌, length, drop, string_bytes}
use Rattle.agglo_model.specs.Axes.{voxel_count}
use Rattle.agglo_model.specs.Report.{level_lines, report}
use Rattle.segment_run.proofs.report.report_text.Given as goal

-- the text so far, and the lines of the levels that are left
abbrev pub invariant-loop-number : goal.invariant-loop-number
invariant-loop-number l = string_bytes l.text ++ level_lines l.number (drop l.number l.answer.levels.items)
    ≡ report (voxel_count l.answer.labels.axes) l.answer.basins (length l.answer.merges.items) l.answer.levels.items
