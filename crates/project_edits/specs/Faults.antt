-- The faults of commands, and the replies to refused commands (this profile's own).
use Rattle.std.specs.Prelude.{ℕ, Bool, true, false, List, codes, ◌++◌, [], ◌∷◌, Result, Ok, Err}
use Rattle.base.specs.Lines.{line_feed}
use Rattle.ini_text.specs.Content.{Content}
use Rattle.eds_places.specs.declared.fault.DeviceFault.{DeviceFault}
use Rattle.ini_text.specs.Content.{Content}
use Rattle.eds_places.specs.declared.fault.DeviceFault.TheVariants as device
use Rattle.project_edits.specs.declared.fault.EditFault.{EditFault}
use Rattle.project_edits.specs.declared.fault.EditFault.TheVariants.{Memory, Syntax, Range, Unknown, Taken, InUse, Limit}
use Rattle.project_edits.specs.declared.fault.EditFault.TheVariants.{BadByte, Truncated}

-- want of memory, which can come in place of any answer
abbrev pub is_memory : EditFault → Bool
is_memory Memory = true
is_memory Syntax = false
is_memory Range = false
is_memory Unknown = false
is_memory Taken = false
is_memory InUse = false
is_memory Limit = false
is_memory BadByte = false
is_memory Truncated = false

-- the fault of a command whose text is no device
abbrev pub fault_of : DeviceFault → EditFault
fault_of device.Memory = Memory
fault_of device.Range = Range
fault_of device.Limit = Limit
fault_of device.BadByte = BadByte

-- what is answered to a command for the text of a device
abbrev pub device_verdict : Result Content DeviceFault → Result (Unit {0}) EditFault
device_verdict (Ok content) = Ok tt
device_verdict (Err fault) = Err (fault_of fault)

-- the number of a fault, and its name
abbrev name_of : EditFault → List ℕ
name_of Memory = codes "1 Memory"
name_of Syntax = codes "2 Syntax"
name_of Range = codes "3 Range"
name_of Unknown = codes "4 Unknown"
name_of Taken = codes "5 Taken"
name_of InUse = codes "6 InUse"
name_of Limit = codes "7 Limit"
name_of BadByte = codes "8 BadByte"
name_of Truncated = codes "9 Truncated"

-- `refused`, the number of the fault and its name, ended by LF
abbrev pub refusal_text : EditFault → List ℕ
refusal_text fault = codes "refused " ++ name_of fault ++ line_feed ∷ []
