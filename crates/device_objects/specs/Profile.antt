-- The objects of the communication profile area that a device goes by (CiA 301): 1001h error register, 1005h COB-ID
-- SYNC, 1017h producer heartbeat time, 1019h synchronous counter overflow value.
use Rattle.std.specs.Prelude.{ℕ, ◌*◌, ◌/◌, ◌%◌, ◌-◌, bit_and, bit_or, [], ◌∷◌, Option, if◌then◌else◌}
use Rattle.std.specs.FinMap.{insert}
use Rattle.can_frame.specs.Frames.{BaseFrame}
use Rattle.can_frame.specs.Identifiers.{emergency_id, sync_id}
use Rattle.cia301.specs.CobIds.{identifier_in}
use Rattle.co_dict.specs.PdoChecks.{has_type, is_unsigned8, is_unsigned16, is_unsigned32}
use Rattle.co_dict.specs.Shapes.{Shaped}
use Rattle.co_dict.specs.Values.{Values, number_at}
use Rattle.base.specs.Moments.{moment_after}
use Rattle.device_objects.specs.declared.learnt.Learnt.{Learnt}

-- what a device learns of its entries at power-on and at each reset: which of these objects are there with their types
unfoldable pub learnt_of : Shaped → Learnt
learnt_of shape = record {
  has_error_register = has_type is_unsigned8 shape (0x1001, 0);
  has_sync_cob_id = has_type is_unsigned32 shape (0x1005, 0);
  has_producer_time = has_type is_unsigned16 shape (0x1017, 0);
  has_counter_overflow = has_type is_unsigned8 shape (0x1019, 0);
}

-- ---- object 1005h: COB-ID SYNC

-- the identifier of SYNC messages: bits 0 to 10; 080h where the device has none
unfoldable pub sync_identifier : Learnt → Values → ℕ
sync_identifier learnt values =
    if learnt.has_sync_cob_id then identifier_in (number_at 4 values (0x1005, 0)) else sync_id

-- ---- object 1019h: synchronous counter overflow value

-- 0 is none: the device doesn't count SYNCs
unfoldable pub counter_overflow : Learnt → Values → ℕ
counter_overflow learnt values = if learnt.has_counter_overflow then number_at 1 values (0x1019, 0) else 0

-- ---- object 1017h: producer heartbeat time

-- in milliseconds; 0 is off
abbrev pub producer_heartbeat_time : Learnt → Values → ℕ
producer_heartbeat_time learnt values = if learnt.has_producer_time then number_at 2 values (0x1017, 0) else 0

-- a period from now
unfoldable pub next_heartbeat : ℕ → Learnt → Values → Option ℕ
next_heartbeat t learnt values = moment_after t (1000 * producer_heartbeat_time learnt values)

-- ---- object 1001h: error register

unfoldable pub error_register : Learnt → Values → ℕ
error_register learnt values = if learnt.has_error_register then number_at 1 values (0x1001, 0) else 0

-- bit 0, generic error, and bit 4, communication error
abbrev pub error_bits : ℕ
error_bits = 0x11

abbrev pub with_register : Learnt → ℕ → Values → Values
with_register learnt register values = if learnt.has_error_register then insert values (0x1001, 0) (register ∷ [])
    else values

-- both bits are set
unfoldable pub with_error_bits : Learnt → Values → Values
with_error_bits learnt values = with_register learnt (bit_or (error_register learnt values) error_bits) values

-- both are cleared
unfoldable pub without_error_bits : Learnt → Values → Values
without_error_bits learnt values = with_register learnt (bit_and (error_register learnt values)
    (0xFF - error_bits)) values

-- ---- the emergency object of a node

-- an error code, the error register, and five bytes that no manufacturer uses
unfoldable pub emergency_frame : ℕ → ℕ → ℕ → BaseFrame
emergency_frame number code register = record {
  id = emergency_id number;
  bytes = code % 0x100 ∷ code / 0x100 ∷ register ∷ 0 ∷ 0 ∷ 0 ∷ 0 ∷ 0 ∷ [];
}
