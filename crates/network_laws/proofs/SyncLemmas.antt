-- The SYNC of an instant stays, whatever the frames that RPDOs keep bring about at it.
use Rattle.std.proofs.Common.{◌≡◌, ℕ, ◌+◌, ◌==◌, Bool, true, false, List, [], ◌∷◌, Option, Some, None, refl}
use Rattle.image_parts.specs.Asking.{outcome}
use Rattle.can_frame.specs.Frames.{BaseFrame}
use Rattle.co_dict.specs.Mappings.{mapped_length, mapped_place}
use Rattle.co_dict.specs.Shapes.{Shaped}
use Rattle.pdo_rules.specs.Packing.{after_entries, bits_for, frame_bits, takes, with_bits}
use Rattle.image_parts.specs.Contents.{Image, shape_of}
use Rattle.image_parts.specs.declared.part.Part.TheVariants.{Shape}
use Rattle.pdo_rules.specs.Sync.{sync_message}
use Rattle.pdo_rules.specs.declared.sync.SyncMessage.{SyncMessage}
use Rattle.device_objects.specs.Consumers.{consumers_after_write, is_last_failure_over}
use Rattle.cia301.specs.PdoObjects.{is_of_tpdos, is_of_rpdos}
use Rattle.device_pdos.specs.Rpdos.{mapping_of_rpdo, rpdo_at, with_kept}
use Rattle.co_device.specs.Device.{Device, after_own_write, after_write, after_write_of_consumer, is_in}
use Rattle.co_device.specs.Device.{is_producer_time, without_error_if}
use Rattle.co_device.specs.Receiving.{after_entry, after_kept_frame, after_mapping, after_sync, after_sync_at}
use Rattle.co_device.specs.Receiving.{rpdo_places}
use Rattle.cia301.specs.declared.nmt_state.NmtState.TheVariants.{Operational}
use Rattle.device_agenda.proofs.CaseLemmas.{one_of, walk_keeps}

module _ (image : Image) (t : ℕ) (sync : Option SyncMessage) where
  -- this is the SYNC of the instant
  abbrev Has : Device → Type 0
  Has d = d.synced ≡ sync

  cleared : (b : Bool) (d : Device) → Has d → Has (without_error_if b d)
  cleared true d h = h
  cleared false d h = h

  consumer_has : (sub : ℕ) (d : Device) → Has d → Has (after_write_of_consumer sub d)
  unfolding after_write_of_consumer
  consumer_has sub d h = cleared (is_last_failure_over d.consumers (consumers_after_write sub d.values d.consumers)) _ h

  own_has : (place : ℕ × ℕ) (d : Device) → Has d → Has (after_own_write t place d)
  unfolding after_own_write
  own_has place d h = one_of Has (is_producer_time place) _ _ h
      (one_of Has (place.0 == 0x1016) _ _ (consumer_has place.1 d h) h)

  write_has : (shape : Shaped) (place : ℕ × ℕ) (d : Device) → Has d → Has (after_write t shape place d)
  unfolding after_write
  write_has shape place d h = one_of Has (is_of_rpdos place.0) _ _ h
      (one_of Has (is_of_tpdos place.0) _ _ h (own_has place d h))

  entry_has : (shape : Shaped) (entry : ℕ) (bits : List ℕ) (d : Device) → Has d → Has (after_entry t shape entry bits d)
  unfolding after_entry
  entry_has shape entry bits d h = one_of Has (takes shape entry bits d.values) _ d
      (write_has shape (mapped_place entry) (record d { values = with_bits shape entry bits d.values }) h) h

  entries_have : (shape : Shaped) (position : ℕ) (mapping bits : List ℕ) (d : Device) → Has d
      → Has (after_entries (after_entry t shape) position mapping bits d)
  entries_have shape position [] bits d h = h
  entries_have shape position (entry ∷ mapping) bits d h =
      entries_have shape (position + mapped_length entry) mapping bits _
      (entry_has shape entry (bits_for entry position bits) d h)

  applied_has : (mapping : List ℕ) (frame : BaseFrame) (d : Device) → Has d
      → Has (outcome (after_mapping t mapping frame d) image)
  unfolding after_mapping
  applied_has mapping frame d h = entries_have (shape_of (image (Shape d.number))) 0 mapping (frame_bits frame.bytes) d h

  stored_has : (frame : Option BaseFrame) (i : ℕ) (d : Device) → Has d
      → Has (outcome (after_kept_frame t frame i d) image)
  unfolding after_kept_frame
  stored_has None i d h = h
  stored_has (Some frame) i d h = applied_has (mapping_of_rpdo (rpdo_at d.rpdos i).configuration) frame
      (record d { rpdos = with_kept d.rpdos i None }) h

  synced_has : (i : ℕ) (d : Device) → Has d → Has (outcome (after_sync_at t i d) image)
  unfolding after_sync_at
  synced_has i d h = stored_has (rpdo_at d.rpdos i).kept i d h

pub a_sync_is_kept : (image : Image) (t : ℕ) (bytes : List ℕ) (d : Device) → is_in Operational d ≡ true
    → (outcome (after_sync t bytes d) image).synced ≡ Some (sync_message bytes)
unfolding after_sync
a_sync_is_kept image t bytes d on =
    let sync : Option SyncMessage = Some (sync_message bytes) in
    rw on (walk_keeps image (Has image t sync) (after_sync_at t) (synced_has image t sync) (rpdo_places d)
    (record d { synced = sync }) refl)
