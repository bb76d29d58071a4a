-- What becomes of a frame that an RPDO receives (CiA 301).
use Rattle.std.specs.Prelude.{ℕ, nat_lt, Option, Some, if◌then◌else◌}
use Rattle.pdo_rules.specs.declared.receipt.Receipt.{Receipt}
use Rattle.pdo_rules.specs.declared.receipt.Receipt.TheVariants.{Short, Kept, AtOnce, Ignored}
use Rattle.cia301.specs.declared.transmission_type.TransmissionType.{TransmissionType}
use Rattle.cia301.specs.declared.transmission_type.TransmissionType.TheVariants.{Acyclic, Cyclic, EventDriven}

-- by the transmission type: a synchronous one has it wait for the next SYNC, an event-driven one takes it at once
abbrev pub receipt_by_type : Option TransmissionType → Receipt
receipt_by_type (Some Acyclic) = Kept
receipt_by_type (Some (Cyclic n)) = Kept
receipt_by_type (Some EventDriven) = AtOnce
receipt_by_type other = Ignored

-- A FRAME OF A WORKING RPDO: one with fewer bytes than the mapping begins is short, whatever the transmission type
unfoldable pub frame_receipt : Option TransmissionType → ℕ → ℕ → Receipt
frame_receipt transmission mapped count = if nat_lt count mapped then Short else receipt_by_type transmission
