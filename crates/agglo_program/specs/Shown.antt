-- What `show` prints of a merge tree.
use Rattle.std.specs.Prelude.{ℕ, List, ◌++◌, length, codes}
use Rattle.std.specs.List.{flat_map}
use Rattle.std.specs.Fmt.{decimal}
use Rattle.agglo_model.specs.Axes.{Axes}
use Rattle.agglo_model.specs.Greedy.{Merge}
use Rattle.agglo_model.specs.PairOrder.{Contact, Threshold}
use Rattle.agglo_model.specs.TreeFile.{MergeTree}

-- the axes
abbrev pub dims_line : Axes → List ℕ
dims_line axes = codes "dims " ++ decimal axes.nx ++ codes " " ++ decimal axes.ny ++ codes " " ++ decimal axes.nz ++ codes "\n"

-- the threshold as a fraction, and the number of merges
abbrev pub threshold_lines : Threshold → ℕ → List ℕ
threshold_lines t merges = codes "threshold " ++ decimal t.p ++ codes "/" ++ decimal t.q
    ++ codes "\nrecords " ++ decimal merges ++ codes "\n"

-- the survivor and the absorbed name
abbrev pub names_part : Merge → List ℕ
names_part m = decimal m.survivor ++ codes " " ++ decimal m.absorbed ++ codes " "

-- the sum and the count as a fraction, and the tie
abbrev pub contact_part : Contact → List ℕ
contact_part c = decimal c.sum ++ codes "/" ++ decimal c.count ++ codes " " ++ decimal c.tie ++ codes "\n"

abbrev pub merge_line : Merge → List ℕ
merge_line m = names_part m ++ contact_part m.contact

-- the axes, the threshold, the number of merges, and a line for each merge in order
abbrev pub shown : MergeTree → List ℕ
shown tree = dims_line tree.axes ++ threshold_lines tree.threshold (length tree.merges) ++ flat_map merge_line tree.merges
