-- The writes of a device's rules, in their order, as the rules themselves make them under an image.
use Rattle.std.specs.Prelude.{ℕ, ◌+◌, List, [], ◌∷◌, ◌++◌, Bool, Option, Some, None, if◌then◌else◌}
use Rattle.image_parts.specs.Asking.{Asking, outcome}
use Rattle.can_frame.specs.Frames.{BaseFrame}
use Rattle.co_dict.specs.Mappings.{mapped_length, mapped_place}
use Rattle.co_dict.specs.Shapes.{Shaped}
use Rattle.co_dict.specs.Values.{Values, bytes_at}
use Rattle.co_device.specs.Device.{Device, is_in}
use Rattle.co_device.specs.Receiving.{after_entry, after_rpdo, after_sync_at, rpdo_places, reception}
use Rattle.cia301.specs.declared.nmt_state.NmtState.TheVariants.{Operational, Stopped}
use Rattle.pdo_rules.specs.Packing.{bits_for, frame_bits, takes, value_of_bits}
use Rattle.image_parts.specs.Contents.{Content, Image, shape_of}
use Rattle.image_parts.specs.declared.part.Part.{Part}
use Rattle.image_parts.specs.declared.part.Part.TheVariants.{Shape}
use Rattle.pdo_rules.specs.Sync.{sync_message}
use Rattle.pdo_rules.specs.declared.receipt.Receipt.{Receipt}
use Rattle.pdo_rules.specs.declared.receipt.Receipt.TheVariants.{AtOnce, Ignored, Kept, Short}
use Rattle.co_sdo.specs.Server.{AfterRequest, server_answer}
use Rattle.device_objects.specs.declared.reception.Reception.{Reception}
use Rattle.device_objects.specs.declared.reception.Reception.TheVariants.{Nothing, NmtService, Sync, SdoRequest}
use Rattle.device_objects.specs.declared.reception.Reception.TheVariants.{ErrorControl, Pdo}
use Rattle.device_pdos.specs.Rpdos.{mapping_of_rpdo, receipt_of, rpdo_at, with_kept}
use Rattle.network_laws.specs.Written.{EntryValue, Event, Rpdo, Sdo, Written, written_by}

-- ---- the application sets an entry

unfoldable pub writes_of_set : ℕ × ℕ → List ℕ → Device → List Written
writes_of_set place bytes d =
    if d.has_power then written_by Event d.number (record { place = place; bytes = bytes } ∷ []) else []

-- ---- RPDOs: the entries of a mapping of which the device takes the bits, each judged by what stands in its turn

abbrev pub entry_if : Bool → ℕ × ℕ → List ℕ → List EntryValue
entry_if is_taken place bytes = if is_taken then record { place = place; bytes = bytes } ∷ [] else []

unfoldable pub entries_taken : ℕ → Shaped → ℕ → List ℕ → List ℕ → Device → List EntryValue
entries_taken t shape position [] bits d = []
entries_taken t shape position (entry ∷ mapping) bits d =
    entry_if (takes shape entry (bits_for entry position bits) d.values) (mapped_place entry)
    (value_of_bits (bits_for entry position bits))
    ++ entries_taken t shape (position + mapped_length entry) mapping bits
    (after_entry t shape entry (bits_for entry position bits) d)

-- of a frame by a mapping
abbrev pub entries_of_mapping : Image → ℕ → List ℕ → BaseFrame → Device → List EntryValue
entries_of_mapping image t mapping frame d =
    entries_taken t (shape_of (image (Shape d.number))) 0 mapping (frame_bits frame.bytes) d

-- of a frame that comes to the RPDO at a place
abbrev pub entries_of_receipt : Receipt → Image → ℕ → BaseFrame → ℕ → Device → List EntryValue
entries_of_receipt Short image t frame i d = []
entries_of_receipt Kept image t frame i d = []
entries_of_receipt AtOnce image t frame i d =
    entries_of_mapping image t (mapping_of_rpdo (rpdo_at d.rpdos i).configuration) frame d
entries_of_receipt Ignored image t frame i d = []

unfoldable pub entries_of_rpdo : Image → ℕ → BaseFrame → ℕ → Device → List EntryValue
entries_of_rpdo image t frame i d =
    entries_of_receipt (receipt_of frame (rpdo_at d.rpdos i).configuration) image t frame i d

-- of the frame that it keeps, at a SYNC
abbrev pub entries_of_kept : Option BaseFrame → Image → ℕ → ℕ → Device → List EntryValue
entries_of_kept None image t i d = []
entries_of_kept (Some frame) image t i d =
    entries_of_mapping image t (mapping_of_rpdo (rpdo_at d.rpdos i).configuration) frame
    (record d { rpdos = with_kept d.rpdos i None })

unfoldable pub entries_at_sync : Image → ℕ → ℕ → Device → List EntryValue
entries_at_sync image t i d = entries_of_kept (rpdo_at d.rpdos i).kept image t i d

-- of all steps of a walk over a device, each on what the last one left
abbrev pub entries_of_walk : {X : Type 0} → Image → (X → Device → Asking Part Content Device)
    → (X → Device → List EntryValue) → List X → Device → List EntryValue
entries_of_walk image step entries [] d = []
entries_of_walk image step entries (x ∷ xs) d =
    entries x d ++ entries_of_walk image step entries xs (outcome (step x d) image)

unfoldable pub writes_of_pdo : Image → ℕ → BaseFrame → Device → List Written
writes_of_pdo image t frame d =
    if is_in Operational d
    then written_by Rpdo d.number (entries_of_walk image (after_rpdo t frame) (entries_of_rpdo image t frame)
    (rpdo_places d) d)
    else []

unfoldable pub writes_of_sync : Image → ℕ → List ℕ → Device → List Written
writes_of_sync image t bytes d =
    if is_in Operational d
    then written_by Rpdo d.number (entries_of_walk image (after_sync_at t) (entries_at_sync image t)
    (rpdo_places d) (record d { synced = Some (sync_message bytes) }))
    else []

-- ---- the SDO server

-- the entry that the server tells, with the bytes that it left there
abbrev pub writes_told : ℕ → Values → Option (ℕ × ℕ) → List Written
writes_told number values None = []
writes_told number values (Some place) =
    written_by Sdo number (record { place = place; bytes = bytes_at values place } ∷ [])

abbrev pub writes_of_answer : ℕ → AfterRequest → List Written
writes_of_answer number s = writes_told number s.values s.wrote

unfoldable pub writes_of_request : Image → List ℕ → Device → List Written
writes_of_request image request d =
    if is_in Stopped d then []
    else writes_of_answer d.number (server_answer (shape_of (image (Shape d.number))) d.values d.transfer request)

-- ---- THE WRITES OF A FRAME that a device receives, as what it is to it

unfoldable pub writes_of_reception : Reception → Image → ℕ → BaseFrame → Device → List Written
writes_of_reception Nothing image t frame d = []
writes_of_reception (NmtService service) image t frame d = []
writes_of_reception Sync image t frame d = writes_of_sync image t frame.bytes d
writes_of_reception SdoRequest image t frame d = writes_of_request image frame.bytes d
writes_of_reception (ErrorControl producer) image t frame d = []
writes_of_reception Pdo image t frame d = writes_of_pdo image t frame d

unfoldable pub writes_of_frame : Image → ℕ → BaseFrame → Device → List Written
writes_of_frame image t frame d = writes_of_reception (reception frame d) image t frame d
