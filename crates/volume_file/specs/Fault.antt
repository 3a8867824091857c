-- The fault that a reader answers for a flaw of a file.
use Rattle.agglo_model.specs.Axes.{AxesFlaw, AxisZero as FlawZero, AxisLarge as FlawLarge, TooMany as FlawTooMany}
use Rattle.agglo_model.specs.VolumeFile.{VolumeFlaw, BadAxes, ShortHeader as FlawShort, Magic as FlawMagic, Channels as FlawChannels, Reserved as FlawReserved, Truncated as FlawTruncated, Trailing as FlawTrailing}
use Rattle.volume_file.specs.declared.fault.VolumeFault.{VolumeFault}
use Rattle.volume_file.specs.declared.fault.VolumeFault.TheVariants.{ShortHeader, Magic, Channels, Reserved, AxisZero, AxisLarge, TooMany, Truncated, Trailing}

-- of a flaw of the axes
abbrev pub axes_fault : AxesFlaw → VolumeFault
axes_fault (FlawZero axis) = AxisZero axis
axes_fault (FlawLarge axis) = AxisLarge axis
axes_fault FlawTooMany = TooMany

-- of a flaw of the file
abbrev pub fault_of : VolumeFlaw → VolumeFault
fault_of (FlawShort got) = ShortHeader got
fault_of FlawMagic = Magic
fault_of (FlawChannels count) = Channels count
fault_of FlawReserved = Reserved
fault_of (BadAxes flaw) = axes_fault flaw
fault_of (FlawTruncated got) = Truncated got
fault_of FlawTrailing = Trailing
