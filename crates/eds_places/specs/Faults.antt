-- How many entries a device may have.
use Rattle.std.specs.Prelude.{ℕ, Bool, true, false, nat_lt, if◌then◌else◌, List, length, Result, Ok, Err}
use Rattle.eds_places.specs.declared.fault.DeviceFault.{DeviceFault}
use Rattle.eds_places.specs.declared.fault.DeviceFault.TheVariants.{Memory, Range, Limit, BadByte}

-- the fault that memory was refused
abbrev pub is_memory : DeviceFault → Bool
is_memory Memory = true
is_memory Range = false
is_memory Limit = false
is_memory BadByte = false

-- own choice: the most entries that a device may have
abbrev pub most_entries : ℕ
most_entries = 4096

-- what reading gives, unless there are too many entries
abbrev pub unless_too_many : {X : Type 0} → List (ℕ × ℕ) → X → Result X DeviceFault
unless_too_many places x = if nat_lt most_entries (length places) then Err Limit else Ok x
