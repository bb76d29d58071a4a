-- The RPDOs of a device at a moment (CiA 301), by number.
use Rattle.std.specs.Prelude.{ℕ, ◌==◌, Bool, false, List, [], length, map, slice_index_or, slice_set, Option, Some}
use Rattle.std.specs.Prelude.{None, if◌then◌else◌}
use Rattle.std.specs.List.{list_any}
use Rattle.can_frame.specs.Frames.{BaseFrame}
use Rattle.co_dict.specs.Mappings.{mapping_bits}
use Rattle.co_dict.specs.Shapes.{Shaped}
use Rattle.co_dict.specs.Values.{Values}
use Rattle.pdo_rules.specs.Packing.{bytes_begun}
use Rattle.pdo_rules.specs.Configured.{configuration_of}
use Rattle.pdo_rules.specs.Rpdo.{frame_receipt}
use Rattle.cia301.specs.PdoObjects.{rpdo_object, number_of_object}
use Rattle.pdo_rules.specs.declared.configuration.Configuration.{Configuration}
use Rattle.pdo_rules.specs.declared.receipt.Receipt.{Receipt}
use Rattle.pdo_rules.specs.declared.receipt.Receipt.TheVariants as receipt
use Rattle.device_pdos.specs.Objects.{numbers_of}
use Rattle.device_pdos.specs.declared.rpdo_state.RpdoState.{RpdoState}

-- ---- as its entries say

-- an RPDO that keeps no frame
abbrev pub rpdo : Shaped → Values → ℕ → RpdoState
rpdo shape values number = record {
  number = number;
  configuration = configuration_of shape values (rpdo_object number);
  kept = None;
}

-- all of a device
unfoldable pub rpdos_of : Shaped → Values → List RpdoState
rpdos_of shape values = map (rpdo shape values) (numbers_of rpdo_object shape)

-- an entry of an object was written: the RPDO that it is of is judged anew, and keeps no frame
abbrev pub rpdo_after_write : Shaped → Values → ℕ → RpdoState → RpdoState
rpdo_after_write shape values index p = if p.number == number_of_object index then rpdo shape values p.number else p

unfoldable pub rpdos_after_write : Shaped → Values → ℕ → List RpdoState → List RpdoState
rpdos_after_write shape values index rpdos = map (rpdo_after_write shape values index) rpdos

-- the frames that they keep are dropped
abbrev pub without_kept_frame : RpdoState → RpdoState
without_kept_frame p = record p { kept = None }

unfoldable pub without_kept_frames : List RpdoState → List RpdoState
without_kept_frames rpdos = map without_kept_frame rpdos

-- ---- one of them

abbrev pub no_rpdo : RpdoState
no_rpdo = record { number = 0; configuration = None; kept = None }

abbrev pub rpdo_at : List RpdoState → ℕ → RpdoState
rpdo_at rpdos i = slice_index_or rpdos i no_rpdo

-- it keeps this frame, or none
unfoldable pub with_kept : List RpdoState → ℕ → Option BaseFrame → List RpdoState
with_kept rpdos i frame = slice_set rpdos i (record (rpdo_at rpdos i) { kept = frame })

-- what becomes of a frame at it: nothing where it doesn't work, or has another identifier
unfoldable pub receipt_of : BaseFrame → Option Configuration → Receipt
receipt_of frame None = receipt.Ignored
receipt_of frame (Some c) =
    if c.identifier == frame.id
    then frame_receipt c.communication.transmission_type (bytes_begun (mapping_bits c.mapping)) (length frame.bytes)
    else receipt.Ignored

-- it works, and its frames have this identifier
abbrev pub has_identifier : ℕ → Option Configuration → Bool
has_identifier id None = false
has_identifier id (Some c) = c.identifier == id

-- one of them
unfoldable pub any_has_identifier : ℕ → List RpdoState → Bool
any_has_identifier id rpdos = list_any (λ p. has_identifier id p.configuration) rpdos

-- its mapping entries; none where it doesn't work
abbrev pub mapping_of_rpdo : Option Configuration → List ℕ
mapping_of_rpdo None = []
mapping_of_rpdo (Some c) = c.mapping
