-- The frames that a device receives (CiA 301): each is taken by the first that fits.
use Rattle.std.specs.Prelude.{ℕ, not, ◌&&◌, Bool, true, false, List, [], ◌∷◌, length, Option, Some, None}
use Rattle.std.specs.Prelude.{if◌then◌else◌}
use Rattle.std.specs.List.{range_with_len}
use Rattle.image_parts.specs.Asking.{Asking, Answer, Ask, bind}
use Rattle.can_frame.specs.Frames.{BaseFrame}
use Rattle.co_dict.specs.Mappings.{mapped_place}
use Rattle.co_dict.specs.Shapes.{Shaped}
use Rattle.pdo_rules.specs.Packing.{after_entries, frame_bits, takes, with_bits}
use Rattle.image_parts.specs.Contents.{Content, shape_of}
use Rattle.image_parts.specs.declared.part.Part.{Part}
use Rattle.image_parts.specs.declared.part.Part.TheVariants.{Shape}
use Rattle.pdo_rules.specs.Sync.{sync_message}
use Rattle.pdo_rules.specs.declared.receipt.Receipt.{Receipt}
use Rattle.pdo_rules.specs.declared.receipt.Receipt.TheVariants.{Short, Kept, AtOnce, Ignored}
use Rattle.device_objects.specs.Consumers.{any_expects}
use Rattle.device_objects.specs.Profile.{sync_identifier}
use Rattle.device_objects.specs.Reception.{reception_with_power}
use Rattle.device_objects.specs.declared.reception.Reception.{Reception}
use Rattle.device_objects.specs.declared.reception.Reception.TheVariants.{Nothing, NmtService, Sync, SdoRequest}
use Rattle.device_objects.specs.declared.reception.Reception.TheVariants.{ErrorControl, Pdo}
use Rattle.co_scenario.specs.Commands.{command_of}
use Rattle.device_pdos.specs.Rpdos.{any_has_identifier, mapping_of_rpdo, receipt_of, rpdo_at, with_kept}
use Rattle.co_device.specs.Device.{Device, after_write, after_error_control, is_in, nmt_service, after_sdo_request}
use Rattle.co_device.specs.Device.{with_emergency}
use Rattle.cia301.specs.declared.nmt_state.NmtState.TheVariants.{Operational, Stopped}

-- ---- a list of steps over one device, each on what the last one left

abbrev pub walk : {X : Type 0} → (X → Device → Asking Part Content Device) → List X → Device
    → Asking Part Content Device
walk step [] d = Answer d
walk step (x ∷ xs) d = bind (step x d) (walk step xs)

-- ---- RPDOs: the values of a frame go to the mapped entries

-- one entry: where the device takes its bits they are written, with what that brings about
unfoldable pub after_entry : ℕ → Shaped → ℕ → List ℕ → Device → Device
after_entry t shape entry bits d =
    if takes shape entry bits d.values then after_write t shape (mapped_place entry)
    (record d { values = with_bits shape entry bits d.values })
    else d

-- those of a mapping, each judged by what stands in its turn
abbrev pub device_after_entries : ℕ → Shaped → List ℕ → List ℕ → Device → Device
device_after_entries t shape mapping bytes d = after_entries (after_entry t shape) 0 mapping (frame_bits bytes) d

-- a frame by a mapping, as that is now
unfoldable pub after_mapping : ℕ → List ℕ → BaseFrame → Device → Asking Part Content Device
after_mapping t mapping frame d = Ask (Shape d.number)
    (λ w. Answer (device_after_entries t (shape_of w) mapping frame.bytes d))

-- what becomes of a frame at the RPDO at a place
unfoldable pub after_receipt : Receipt → ℕ → BaseFrame → ℕ → Device → Asking Part Content Device
after_receipt Short t frame i d = Answer (with_emergency 0x8210 d)
after_receipt Kept t frame i d = Answer (record d { rpdos = with_kept d.rpdos i (Some frame) })
after_receipt AtOnce t frame i d = after_mapping t (mapping_of_rpdo (rpdo_at d.rpdos i).configuration) frame d
after_receipt Ignored t frame i d = Answer d

-- judged by what stands in its turn
unfoldable pub after_rpdo : ℕ → BaseFrame → ℕ → Device → Asking Part Content Device
after_rpdo t frame i d = after_receipt (receipt_of frame (rpdo_at d.rpdos i).configuration) t frame i d

-- the places of all of them, by number
abbrev pub rpdo_places : Device → List ℕ
rpdo_places d = range_with_len 0 (length d.rpdos)

-- PDOs are received in Operational alone, by each RPDO with the identifier in its turn
unfoldable pub after_pdo : ℕ → BaseFrame → Device → Asking Part Content Device
after_pdo t frame d = if is_in Operational d then walk (after_rpdo t frame) (rpdo_places d) d else Answer d

-- ---- SYNC: the frames that RPDOs keep are applied, by number; the TPDOs come later in the instant

unfoldable pub after_kept_frame : ℕ → Option BaseFrame → ℕ → Device → Asking Part Content Device
after_kept_frame t None i d = Answer d
after_kept_frame t (Some frame) i d =
    after_mapping t (mapping_of_rpdo (rpdo_at d.rpdos i).configuration) frame
    (record d { rpdos = with_kept d.rpdos i None })

unfoldable pub after_sync_at : ℕ → ℕ → Device → Asking Part Content Device
after_sync_at t i d = after_kept_frame t (rpdo_at d.rpdos i).kept i d

unfoldable pub after_sync : ℕ → List ℕ → Device → Asking Part Content Device
after_sync t bytes d =
    if is_in Operational d
    then walk (after_sync_at t) (rpdo_places d) (record d { synced = Some (sync_message bytes) })
    else Answer d

-- ---- WHAT A FRAME IS TO A DEVICE: without power nothing

unfoldable pub reception : BaseFrame → Device → Reception
reception frame d =
    if d.has_power then reception_with_power d.number (sync_identifier d.learnt d.values) frame else Nothing

-- ---- RECEIVED FRAMES, each taken as what it is to the device

unfoldable pub after_reception : Reception → ℕ → BaseFrame → Device → Asking Part Content Device
after_reception Nothing t frame d = Answer d
after_reception (NmtService service) t frame d = nmt_service (command_of service) t d
after_reception Sync t frame d = after_sync t frame.bytes d
after_reception SdoRequest t frame d = after_sdo_request t frame.bytes d
after_reception (ErrorControl producer) t frame d = Answer (after_error_control t producer d)
after_reception Pdo t frame d = after_pdo t frame d

unfoldable pub after_frame : ℕ → BaseFrame → Device → Asking Part Content Device
after_frame t frame d = after_reception (reception frame d) t frame d

-- ---- FRAMES OF WHICH THE DEVICE TAKES NOTHING: those that are nothing to it, that its NMT state doesn't let it take,
-- or that no consumer and no RPDO expects

unfoldable pub is_ignored_as : Reception → BaseFrame → Device → Bool
is_ignored_as Nothing frame d = true
is_ignored_as (NmtService service) frame d = false
is_ignored_as Sync frame d = not (is_in Operational d)
is_ignored_as SdoRequest frame d = is_in Stopped d
is_ignored_as (ErrorControl producer) frame d = not (any_expects producer d.consumers)
is_ignored_as Pdo frame d = not (is_in Operational d && any_has_identifier frame.id d.rpdos)

unfoldable pub is_ignored : BaseFrame → Device → Bool
is_ignored frame d = is_ignored_as (reception frame d) frame d
