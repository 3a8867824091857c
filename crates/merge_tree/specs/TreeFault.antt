-- The fault that a reader answers for a flaw of a tree file.
use Rattle.agglo_model.specs.Axes.{AxesFlaw, AxisZero as FlawZero, AxisLarge as FlawLarge, TooMany as FlawTooMany}
use Rattle.agglo_model.specs.TreeFile.{TreeFlaw, ShortHeader as FlawShort, Magic as FlawMagic, BadAxes as FlawAxes, Denominator as FlawDenominator, Count as FlawCount, Truncated as FlawTruncated, Trailing as FlawTrailing, BadNames as FlawNames, BadContact as FlawContact, Order as FlawOrder, Below as FlawBelow}
use Rattle.seg_base.specs.declared.dims.DimFault.{DimFault}
use Rattle.seg_base.specs.declared.dims.DimFault.TheVariants.{AxisZero, AxisLarge, TooMany}
use Rattle.merge_tree.specs.declared.tree_fault.TreeFault.{TreeFault}
use Rattle.merge_tree.specs.declared.tree_fault.TreeFault.TheVariants.{ShortHeader, Magic, Dims, Denominator, Count, Truncated, Trailing, Names, Contact, Order, Below, Read, Memory}
use Rattle.merge_tree.specs.declared.tree_fault.InputFault.{InputFault}
use Rattle.merge_tree.specs.declared.tree_fault.InputFault.TheVariants.{Read as InputRead, Memory as InputMemory}

-- the fault of three axes that has the same words as their flaw
abbrev pub axes_fault : AxesFlaw → DimFault
axes_fault (FlawZero axis) = AxisZero axis
axes_fault (FlawLarge axis) = AxisLarge axis
axes_fault FlawTooMany = TooMany

-- The fault of a tree file that has the same words as its flaw: each flaw has one of its own, with the number
-- that the flaw tells. A fault of the input and want of memory tell of no flaw.
abbrev pub fault_of : TreeFlaw → TreeFault
fault_of (FlawShort got) = ShortHeader got
fault_of FlawMagic = Magic
fault_of (FlawAxes flaw) = Dims (axes_fault flaw)
fault_of FlawDenominator = Denominator
fault_of (FlawCount merges) = Count merges
fault_of (FlawTruncated got) = Truncated got
fault_of FlawTrailing = Trailing
fault_of (FlawNames i) = Names i
fault_of (FlawContact i) = Contact i
fault_of (FlawOrder i) = Order i
fault_of (FlawBelow i) = Below i

-- the fault that a reader of trees answers for one of the input
abbrev pub told : InputFault → TreeFault
told InputRead = Read
told InputMemory = Memory
