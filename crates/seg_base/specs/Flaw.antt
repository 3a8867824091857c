-- What a fault of three lengths means.
use Rattle.agglo_model.specs.Axes.{AxesFlaw, AxisZero as FlawZero, AxisLarge as FlawLarge, TooMany as FlawTooMany}
use Rattle.seg_base.specs.declared.dims.DimFault.{DimFault}
use Rattle.seg_base.specs.declared.dims.DimFault.TheVariants.{AxisZero, AxisLarge, TooMany}

-- the flaw that a fault reports
abbrev pub flaw_of : DimFault → AxesFlaw
flaw_of (AxisZero axis) = FlawZero axis
flaw_of (AxisLarge axis) = FlawLarge axis
flaw_of TooMany = FlawTooMany
