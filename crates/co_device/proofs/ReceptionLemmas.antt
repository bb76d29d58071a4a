-- What its reception says of a frame.
use Rattle.std.proofs.Common.{◌≡◌, ℕ, ◌-◌, ◌==◌, ◌&&◌, Bool, true, false, refl, subst}
use Rattle.std.specs.Prelude.{⊤, if◌then◌else◌, length, slice_index_or}
use Rattle.std.proofs.lemmas.Bool.{eqb-true}
use Rattle.can_frame.specs.Frames.{BaseFrame}
use Rattle.can_frame.specs.Identifiers.{error_control_id, nmt_id, sdo_request_id}
use Rattle.device_objects.specs.Profile.{sync_identifier}
use Rattle.device_objects.specs.Reception.{error_control_reception, is_addressed, is_error_control, nmt_reception}
use Rattle.device_objects.specs.Reception.{reception_with_power}
use Rattle.device_objects.specs.declared.reception.Reception.{Reception}
use Rattle.device_objects.specs.declared.reception.Reception.TheVariants.{Nothing, NmtService, Sync, SdoRequest}
use Rattle.device_objects.specs.declared.reception.Reception.TheVariants.{ErrorControl, Pdo}
use Rattle.co_device.specs.Device.{Device}
use Rattle.co_device.specs.Receiving.{reception}

-- ---- the tests that a frame has passed

pub record IsService (service : ℕ) (frame : BaseFrame) (d : Device) : Type 0 where
  pub has_power : d.has_power ≡ true
  pub is_command : frame.id ≡ nmt_id
  pub is_addressed_to : is_addressed d.number frame.bytes ≡ true
  pub is_service : service ≡ slice_index_or frame.bytes 0 0

pub record IsSync (frame : BaseFrame) (d : Device) : Type 0 where
  pub has_power : d.has_power ≡ true
  pub is_sync : frame.id ≡ sync_identifier d.learnt d.values

pub record IsRequest (frame : BaseFrame) (d : Device) : Type 0 where
  pub has_power : d.has_power ≡ true
  pub is_request : frame.id ≡ sdo_request_id d.number
  pub is_whole : length frame.bytes ≡ 8

pub record IsControl (producer : ℕ) (frame : BaseFrame) (d : Device) : Type 0 where
  pub has_power : d.has_power ≡ true
  pub is_control : is_error_control frame ≡ true
  pub is_producer : producer ≡ frame.id - error_control_id 0

abbrev pub Says : Reception → BaseFrame → Device → Type 0
Says Nothing frame d = ⊤
Says (NmtService service) frame d = IsService service frame d
Says Sync frame d = IsSync frame d
Says SdoRequest frame d = IsRequest frame d
Says (ErrorControl producer) frame d = IsControl producer frame d
Says Pdo frame d = d.has_power ≡ true

-- one of two, with what the test gave
either : (P : Reception → Type 0) (b : Bool) (r s : Reception) → (b ≡ true → P r) → (b ≡ false → P s)
    → P (if b then r else s)
either P true r s p q = p refl
either P false r s p q = q refl

both_hold : (a b : Bool) → (a && b) ≡ true → (a ≡ true) × (b ≡ true)
both_hold true b h = (refl, h)
both_hold false b h = absurd cc

module _ (frame : BaseFrame) (d : Device) where
  abbrev Fits : Reception → Type 0
  Fits r = Says r frame d

  message_says : d.has_power ≡ true → frame.id ≡ nmt_id → Fits (nmt_reception d.number frame.bytes)
  message_says on command = either Fits (is_addressed d.number frame.bytes) _ _
      (λ to. record { has_power = on; is_command = command; is_addressed_to = to; is_service = refl }) (λ other. tt)

  request_says : d.has_power ≡ true → ((frame.id == sdo_request_id d.number) && (length frame.bytes == 8)) ≡ true
      → IsRequest frame d
  request_says on e =
      let both = both_hold (frame.id == sdo_request_id d.number) (length frame.bytes == 8) e in
      record {
        has_power = on;
        is_request = eqb-true frame.id (sdo_request_id d.number) both.0;
        is_whole = eqb-true (length frame.bytes) 8 both.1;
      }

  control_says : d.has_power ≡ true → is_error_control frame ≡ true
      → Fits (error_control_reception d.number (frame.id - error_control_id 0))
  control_says on e = either Fits ((frame.id - error_control_id 0) == d.number) _ _ (λ own. tt)
      (λ other. record { has_power = on; is_control = e; is_producer = refl })

  powered_says : d.has_power ≡ true
      → Fits (reception_with_power d.number (sync_identifier d.learnt d.values) frame)
  unfolding reception_with_power
  powered_says on =
      either Fits (frame.id == nmt_id) _ _ (λ e. message_says on (eqb-true frame.id nmt_id e))
      (λ other. either Fits (frame.id == sync_identifier d.learnt d.values) _ _
      (λ e. record { has_power = on; is_sync = eqb-true frame.id (sync_identifier d.learnt d.values) e })
      (λ other. either Fits ((frame.id == sdo_request_id d.number) && (length frame.bytes == 8)) _ _ (request_says on)
      (λ other. either Fits (is_error_control frame) _ _ (control_says on) (λ other. on))))

  pub reception_says : Says (reception frame d) frame d
  unfolding reception
  reception_says = either Fits d.has_power _ _ powered_says (λ off. tt)

  pub request_is_whole : reception frame d ≡ SdoRequest → length frame.bytes ≡ 8
  request_is_whole is =
      let request : IsRequest frame d = subst Fits is reception_says in
      request.is_whole
