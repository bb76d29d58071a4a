-- Faults of an INI text, as faults of a device.
use Rattle.ini_text.specs.declared.IniFault.{IniFault}
use Rattle.ini_text.specs.declared.IniFault.TheVariants as ini
use Rattle.eds_places.specs.declared.fault.DeviceFault.{DeviceFault}
use Rattle.eds_places.specs.declared.fault.DeviceFault.TheVariants.{Memory, Range, BadByte}

-- the fault of the same name
abbrev pub fault_of : IniFault → DeviceFault
fault_of ini.Memory = Memory
fault_of ini.Range = Range
fault_of ini.BadByte = BadByte
