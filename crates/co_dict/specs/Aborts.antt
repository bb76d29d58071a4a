-- The SDO abort codes that cobench uses (CiA 301).
use Rattle.co_dict.specs.declared.abort.Abort.{Abort}

abbrev pub toggle_not_alternated : Abort
toggle_not_alternated = record { 0 = 0x05030000 }

abbrev pub timed_out : Abort
timed_out = record { 0 = 0x05040000 }

-- the client or server command specifier is not valid or unknown
abbrev pub unknown_command : Abort
unknown_command = record { 0 = 0x05040001 }

abbrev pub unsupported_access : Abort
unsupported_access = record { 0 = 0x06010000 }

-- an attempt to read a write only object
abbrev pub write_only : Abort
write_only = record { 0 = 0x06010001 }

-- an attempt to write a read only object
abbrev pub read_only : Abort
read_only = record { 0 = 0x06010002 }

-- the object does not exist in the object dictionary
abbrev pub no_object : Abort
no_object = record { 0 = 0x06020000 }

-- the object cannot be mapped to the PDO
abbrev pub cannot_be_mapped : Abort
cannot_be_mapped = record { 0 = 0x06040041 }

-- the number and length of the objects to be mapped would exceed the PDO length
abbrev pub pdo_length_exceeded : Abort
pdo_length_exceeded = record { 0 = 0x06040042 }

-- the data type does not match: the length of the service parameter does not match
abbrev pub length_does_not_match : Abort
length_does_not_match = record { 0 = 0x06070010 }

-- the data type does not match: the length of the service parameter is too high
abbrev pub length_too_high : Abort
length_too_high = record { 0 = 0x06070012 }

-- the sub-index does not exist
abbrev pub no_sub_index : Abort
no_sub_index = record { 0 = 0x06090011 }

-- an invalid value for the parameter
abbrev pub invalid_value : Abort
invalid_value = record { 0 = 0x06090030 }

-- the value of the parameter written is too high
abbrev pub value_too_high : Abort
value_too_high = record { 0 = 0x06090031 }

-- the value of the parameter written is too low
abbrev pub value_too_low : Abort
value_too_low = record { 0 = 0x06090032 }
