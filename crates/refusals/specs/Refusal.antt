-- Why a run ends without its answer being written: the status that it ends with, and the line that tells why.
use Rattle.std.specs.Prelude.{ℕ, List, ◌++◌, codes}
use Rattle.std.specs.Fmt.{decimal}
use Rattle.command_words.specs.declared.job.WordsFault.{WordsFault}
use Rattle.command_words.specs.declared.job.WordsFault.TheVariants as words
use Rattle.volume_file.specs.declared.fault.VolumeFault.{VolumeFault}
use Rattle.volume_file.specs.declared.fault.VolumeFault.TheVariants as volumes
use Rattle.merge_tree.specs.declared.tree_fault.TreeFault.{TreeFault}
use Rattle.merge_tree.specs.declared.tree_fault.TreeFault.TheVariants as trees
use Rattle.refusals.specs.declared.refusal.Refusal.{Refusal}
use Rattle.refusals.specs.declared.refusal.Refusal.TheVariants.{Memory, Words, Volume, Leaves, Input, Output, Tree}

abbrev pub status_of : Refusal → ℕ
status_of Memory = 1
status_of Words = 2
status_of (Volume fault) = 3
status_of (Leaves n) = 4
status_of Input = 5
status_of Output = 6
status_of (Tree fault) = 7

-- ---- the refusal for what stopped a part of the run

abbrev pub words_refusal : WordsFault → Refusal
words_refusal words.NoSettings = Words
words_refusal words.Memory = Memory

-- that the input failed, or memory was short, says nothing of the file
abbrev pub volume_refusal : VolumeFault → Refusal
volume_refusal volumes.Read = Input
volume_refusal volumes.Memory = Memory
volume_refusal fault = Volume fault

abbrev pub tree_refusal : TreeFault → Refusal
tree_refusal trees.Read = Input
tree_refusal trees.Memory = Memory
tree_refusal fault = Tree fault

-- ---- lines, with their line feed

abbrev pub volume_line : VolumeFault → List ℕ
volume_line (volumes.ShortHeader n) = codes "agglo: volume fault 1: header of " ++ decimal n ++ codes " bytes\n"
volume_line volumes.Magic = codes "agglo: volume fault 2: magic\n"
volume_line (volumes.Channels n) = codes "agglo: volume fault 3: " ++ decimal n ++ codes " channels\n"
volume_line volumes.Reserved = codes "agglo: volume fault 4: reserved bytes\n"
volume_line (volumes.AxisZero axis) = codes "agglo: volume fault 5: axis " ++ decimal axis ++ codes " is zero\n"
volume_line (volumes.AxisLarge axis) = codes "agglo: volume fault 6: axis " ++ decimal axis ++ codes " is above 65535\n"
volume_line volumes.TooMany = codes "agglo: volume fault 7: too many voxels\n"
volume_line (volumes.Truncated n) = codes "agglo: volume fault 8: body of " ++ decimal n ++ codes " bytes\n"
volume_line volumes.Trailing = codes "agglo: volume fault 9: bytes after the body\n"
volume_line volumes.Read = codes "agglo: input failed\n"
volume_line volumes.Memory = codes "agglo: out of memory\n"

abbrev pub tree_line : TreeFault → List ℕ
tree_line (trees.ShortHeader n) = codes "agglo: tree fault 1: header of " ++ decimal n ++ codes " bytes\n"
tree_line trees.Magic = codes "agglo: tree fault 2: magic\n"
tree_line (trees.Dims fault) = codes "agglo: tree fault 3: dims\n"
tree_line trees.Denominator = codes "agglo: tree fault 4: denominator\n"
tree_line (trees.Count n) = codes "agglo: tree fault 5: " ++ decimal n ++ codes " records\n"
tree_line (trees.Truncated n) = codes "agglo: tree fault 6: body of " ++ decimal n ++ codes " bytes\n"
tree_line trees.Trailing = codes "agglo: tree fault 7: bytes after the body\n"
tree_line (trees.Names i) = codes "agglo: tree fault 8: record " ++ decimal i ++ codes "\n"
tree_line (trees.Contact i) = codes "agglo: tree fault 9: record " ++ decimal i ++ codes "\n"
tree_line (trees.Order i) = codes "agglo: tree fault 10: record " ++ decimal i ++ codes "\n"
tree_line (trees.Below i) = codes "agglo: tree fault 11: record " ++ decimal i ++ codes "\n"
tree_line trees.Read = codes "agglo: input failed\n"
tree_line trees.Memory = codes "agglo: out of memory\n"

abbrev pub line_of : Refusal → List ℕ
line_of Memory = codes "agglo: out of memory\n"
line_of Words = codes "agglo: words not understood\n"
line_of (Volume fault) = volume_line fault
line_of (Leaves n) = codes "agglo: " ++ decimal n ++ codes " leaves are too many\n"
line_of Input = codes "agglo: input failed\n"
line_of Output = codes "agglo: output failed\n"
line_of (Tree fault) = tree_line fault
