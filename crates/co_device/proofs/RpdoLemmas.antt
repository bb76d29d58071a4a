-- The number of RPDOs.
use Rattle.std.proofs.Common.{◌≡◌, ℕ, ◌+◌, ◌==◌, Bool, true, false, List, [], ◌∷◌, Option, Some, None, refl, ◌∙◌}
use Rattle.std.proofs.Common.{length}
use Rattle.std.specs.Prelude.{if◌then◌else◌}
use Rattle.std.proofs.lemmas.List.{length-map, length-set}
use Rattle.image_parts.specs.Asking.{outcome}
use Rattle.can_frame.specs.Frames.{BaseFrame}
use Rattle.co_dict.specs.Mappings.{mapped_length, mapped_place}
use Rattle.co_dict.specs.Shapes.{Shaped}
use Rattle.pdo_rules.specs.Packing.{after_entries, bits_for, frame_bits, takes, with_bits}
use Rattle.image_parts.specs.Contents.{Image, shape_of}
use Rattle.image_parts.specs.declared.part.Part.TheVariants.{Shape}
use Rattle.pdo_rules.specs.declared.receipt.Receipt.{Receipt}
use Rattle.pdo_rules.specs.declared.receipt.Receipt.TheVariants.{Short, Kept, AtOnce, Ignored}
use Rattle.cia301.specs.PdoObjects.{is_of_tpdos, is_of_rpdos}
use Rattle.device_pdos.specs.Rpdos.{receipt_of, rpdo_at, rpdos_after_write, with_kept}
use Rattle.co_device.specs.Device.{Device, after_own_write, after_write, after_write_of_consumer, is_in}
use Rattle.co_device.specs.Device.{is_producer_time, with_emergency, without_error_if}
use Rattle.co_device.specs.Receiving.{after_mapping, after_entry, after_kept_frame, after_rpdo, after_sync_at}
use Rattle.co_device.specs.Receiving.{after_receipt}
use Rattle.cia301.specs.declared.nmt_state.NmtState.TheVariants.{Stopped}

-- ---- as many RPDOs as before

abbrev AsMany : Device → Device → Type 0
AsMany d e = length e.rpdos ≡ length d.rpdos

one_of : (b : Bool) (d e f : Device) → AsMany d e → AsMany d f → AsMany d (if b then e else f)
one_of true d e f h k = h
one_of false d e f h k = k

without_many : (b : Bool) (d : Device) → AsMany d (without_error_if b d)
without_many true d = refl
without_many false d = refl

consumer_many : (sub : ℕ) (d : Device) → AsMany d (after_write_of_consumer sub d)
unfolding after_write_of_consumer
consumer_many sub d = without_many _ _

own_many : (t : ℕ) (place : ℕ × ℕ) (d : Device) → AsMany d (after_own_write t place d)
unfolding after_own_write
own_many t place d =
    one_of (is_producer_time place) d _ _ refl (one_of (place.0 == 0x1016) d _ _ (consumer_many place.1 d) refl)

write_many : (t : ℕ) (shape : Shaped) (place : ℕ × ℕ) (d : Device) → AsMany d (after_write t shape place d)
unfolding after_write rpdos_after_write
write_many t shape place d =
    one_of (is_of_rpdos place.0) d _ _ (length-map d.rpdos _)
    (one_of (is_of_tpdos place.0) d _ _ refl (own_many t place d))

entry_many : (t : ℕ) (shape : Shaped) (entry : ℕ) (bits : List ℕ) (d : Device)
    → AsMany d (after_entry t shape entry bits d)
unfolding after_entry
entry_many t shape entry bits d =
    one_of (takes shape entry bits d.values) d _ d (write_many t shape (mapped_place entry)
    (record d { values = with_bits shape entry bits d.values })) refl

entries_many : (t : ℕ) (shape : Shaped) (position : ℕ) (mapping bits : List ℕ) (d : Device)
    → AsMany d (after_entries (after_entry t shape) position mapping bits d)
entries_many t shape position [] bits d = refl
entries_many t shape position (entry ∷ mapping) bits d =
    entries_many t shape (position + mapped_length entry) mapping bits _
    ∙ entry_many t shape entry (bits_for entry position bits) d

emergency_many : (code : ℕ) (d : Device) → AsMany d (with_emergency code d)
unfolding with_emergency
emergency_many code d = one_of (is_in Stopped d) d d _ refl refl

kept_many : (i : ℕ) (frame : Option BaseFrame) (d : Device) → AsMany d (record d { rpdos = with_kept d.rpdos i frame })
unfolding with_kept
kept_many i frame d = length-set d.rpdos i _

module _ (image : Image) (t : ℕ) (d : Device) where
  applied_many : (mapping : List ℕ) (frame : BaseFrame) → AsMany d (outcome (after_mapping t mapping frame d) image)
  unfolding after_mapping
  applied_many mapping frame = entries_many t (shape_of (image (Shape d.number))) 0 mapping (frame_bits frame.bytes) d

  taken_many : (receipt : Receipt) (frame : BaseFrame) (i : ℕ)
      → AsMany d (outcome (after_receipt receipt t frame i d) image)
  unfolding after_receipt
  taken_many Short frame i = emergency_many 0x8210 d
  taken_many Kept frame i = kept_many i (Some frame) d
  taken_many AtOnce frame i = applied_many _ frame
  taken_many Ignored frame i = refl

  pub received_many : (frame : BaseFrame) (i : ℕ) → AsMany d (outcome (after_rpdo t frame i d) image)
  unfolding after_rpdo
  received_many frame i = taken_many (receipt_of frame (rpdo_at d.rpdos i).configuration) frame i

kept_applied_many : (image : Image) (t : ℕ) (frame : Option BaseFrame) (i : ℕ) (d : Device)
    → AsMany d (outcome (after_kept_frame t frame i d) image)
unfolding after_kept_frame
kept_applied_many image t None i d = refl
kept_applied_many image t (Some frame) i d =
    applied_many image t (record d { rpdos = with_kept d.rpdos i None }) _ frame ∙ kept_many i None d

pub synced_many : (image : Image) (t i : ℕ) (d : Device) → AsMany d (outcome (after_sync_at t i d) image)
unfolding after_sync_at
synced_many image t i d = kept_applied_many image t (rpdo_at d.rpdos i).kept i d
