-- What the program reports of a segmentation on standard output.
use Rattle.std.specs.Prelude.{ℕ, ◌+◌, ◌-◌, List, [], ◌∷◌, ◌++◌, codes}
use Rattle.std.specs.Fmt.{decimal}
use Rattle.agglo_model.specs.Note.{line}

-- the work on one level of chunks: how many nodes it has, how many merges they made, and how many
-- names they passed on
pub record Level : Type 0 where
  pub nodes : ℕ
  pub merges : ℕ
  pub passed : ℕ

-- voxels, basins and merges; each merge leaves one region less than there were basins
abbrev pub report_head : ℕ → ℕ → ℕ → List ℕ
report_head voxels basins merges = line (codes "voxels") voxels
    ++ line (codes "basins") basins
    ++ line (codes "merges") merges
    ++ line (codes "regions") (basins - merges)

-- a word between two spaces, and a number in plain decimals
abbrev pub entry : List ℕ → ℕ → List ℕ
entry word n = 32 ∷ word ++ 32 ∷ decimal n

-- a line for each level, numbered from k on
abbrev pub level_lines : ℕ → List Level → List ℕ
level_lines k [] = []
level_lines k (level ∷ levels) = codes "level " ++ decimal k ++ entry (codes "nodes") level.nodes
    ++ entry (codes "merges") level.merges ++ entry (codes "passed") level.passed ++ 10 ∷ []
    ++ level_lines (k + 1) levels

-- the report: the totals, then a line for each level from the leaves up
abbrev pub report : ℕ → ℕ → ℕ → List Level → List ℕ
report voxels basins merges levels = report_head voxels basins merges ++ level_lines 0 levels
