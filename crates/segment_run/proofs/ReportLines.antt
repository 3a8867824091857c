-- The lines of a report, one level after another.
use Rattle.std.proofs.Common.{◌≡◌, ℕ, ◌+◌, ◌<◌, ◌≤◌, List, [], ◌∷◌, ◌++◌, length, get_or, drop, append_assoc, codes, sym, ap, ◌∙◌}
use Rattle.std.proofs.lemmas.List.{append-nil, drop_more, drop_all}
use Rattle.std.specs.Fmt.{decimal}
use Rattle.agglo_model.specs.Report.{Level, entry, level_lines}

-- the line of a level
abbrev own_line : ℕ → Level → List ℕ
own_line k level = codes "level " ++ decimal k ++ entry (codes "nodes") level.nodes
    ++ entry (codes "merges") level.merges ++ entry (codes "passed") level.passed ++ 10 ∷ []

-- a line, and those that follow it
line_then : (k : ℕ) (level : Level) (levels : List Level)
    → level_lines k (level ∷ []) ++ level_lines (k + 1) levels ≡ level_lines k (level ∷ levels)
line_then k level levels = ap (λ l. l ++ level_lines (k + 1) levels) (append-nil (own_line k level))

-- a text that gains a line, and the lines that are left
pub gains_line : (k : ℕ) (levels : List Level) (text line all : List ℕ) (d : Level) → k < length levels
    → line ≡ level_lines k (get_or levels k d ∷ []) → text ++ level_lines k (drop k levels) ≡ all
    → (text ++ line) ++ level_lines (k + 1) (drop (k + 1) levels) ≡ all
gains_line k levels text line all d below is so_far =
    append_assoc text line (level_lines (k + 1) (drop (k + 1) levels))
    ∙ ap (λ l. text ++ (l ++ level_lines (k + 1) (drop (k + 1) levels))) is
    ∙ ap (λ l. text ++ l) (line_then k (get_or levels k d) (drop (k + 1) levels))
    ∙ ap (λ l. text ++ level_lines k l) (sym (drop_more levels k d below))
    ∙ so_far

-- no line is left
pub no_line_left : (k : ℕ) (levels : List Level) (text all : List ℕ) → length levels ≤ k
    → text ++ level_lines k (drop k levels) ≡ all → text ≡ all
no_line_left k levels text all past so_far =
    sym (append-nil text) ∙ ap (λ l. text ++ level_lines k l) (sym (drop_all k levels past)) ∙ so_far
