-- PDOs and an object dictionary (CiA 301): their objects, and which entries they can carry.
use Rattle.std.specs.Prelude.{◌&&◌, Bool, true, false, is_some}
use Rattle.co_values.specs.Types.{width_bits}
use Rattle.co_dict.specs.declared.access.Access.{Access}
use Rattle.co_dict.specs.declared.access.Access.TheVariants.{ReadOnly, WriteOnly, ReadWrite, ReadWriteOnInput}
use Rattle.co_dict.specs.declared.access.Access.TheVariants.{ReadWriteOnOutput, Constant}
use Rattle.co_dict.specs.declared.direction.Direction.{Direction}
use Rattle.co_dict.specs.declared.direction.Direction.TheVariants.{Transmit, Receive}
use Rattle.co_dict.specs.declared.entry.Entry.{Entry}

-- the access with which a TPDO can carry an entry (own)
abbrev pub is_sendable : Access → Bool
is_sendable ReadOnly = true
is_sendable WriteOnly = false
is_sendable ReadWrite = true
is_sendable ReadWriteOnInput = true
is_sendable ReadWriteOnOutput = false
is_sendable Constant = true

-- the access with which an RPDO can (own)
abbrev pub is_receivable : Access → Bool
is_receivable ReadOnly = false
is_receivable WriteOnly = true
is_receivable ReadWrite = true
is_receivable ReadWriteOnInput = false
is_receivable ReadWriteOnOutput = true
is_receivable Constant = false

abbrev pub has_access_for : Direction → Access → Bool
has_access_for Transmit access = is_sendable access
has_access_for Receive access = is_receivable access

-- an entry that a PDO of this direction can map: PDOMapping says so, its type has a fixed width, and its access fits
abbrev pub is_mappable : Direction → Entry → Bool
is_mappable direction entry = entry.mappable && is_some (width_bits entry.kind) && has_access_for direction entry.access
