-- The values after a reset, and the heartbeat after a write.
use Rattle.std.proofs.Common.{◌≡◌, ◌≢◌, ℕ, ◌==◌, Bool, true, false, ◌&&◌, List, ◌++◌, Option, Some, None, refl, ap}
use Rattle.std.proofs.Common.{arith}
use Rattle.std.specs.Prelude.{if◌then◌else◌}
use Rattle.std.specs.FinMap as map
use Rattle.std.proofs.lemmas.Bool.Decides.{nat_tests}
use Rattle.image_parts.specs.Asking.{outcome}
use Rattle.base.specs.Ranges.{is_between}
use Rattle.co_dict.proofs.RestoredLemmas.{restored_at}
use Rattle.co_dict.specs.Mappings.{mapped_place}
use Rattle.co_dict.specs.Shapes.{Shaped}
use Rattle.pdo_rules.specs.Packing.{takes, with_bits}
use Rattle.image_parts.specs.Contents.{Image, shape_of, values_of}
use Rattle.image_parts.specs.declared.part.Part.TheVariants.{Defaults, Shape}
use Rattle.device_objects.specs.Profile.{next_heartbeat}
use Rattle.co_sdo.specs.Server.{AfterRequest, server_answer}
use Rattle.cia301.specs.PdoObjects.{is_of_tpdos, is_of_rpdos}
use Rattle.co_device.specs.Device.{Device, after_own_write, after_write, after_server_write, answer_frames}
use Rattle.co_device.specs.Device.{after_write_of_consumer, after_initialisation, is_in, is_producer_time}
use Rattle.co_device.specs.Device.{reset_communication, after_reset_node, after_sdo_request, after_set}
use Rattle.co_device.specs.Device.{without_error_if}
use Rattle.co_device.specs.Receiving.{after_entry}
use Rattle.cia301.specs.declared.nmt_state.NmtState.TheVariants.{Stopped}
use Rattle.device_agenda.proofs.CaseLemmas.{either, not_both, one_of, picked}

module _ (image : Image) (t : ℕ) (d : Device) where
  pub node_values : (outcome (after_reset_node t d) image).values ≡ values_of (image (Defaults d.number))
  unfolding after_reset_node after_initialisation
  node_values = refl

  pub communication_values : (place : ℕ × ℕ) → map.get (outcome (reset_communication t d) image).values place
      ≡ (if is_between 0x1000 0x1FFF place.0 then map.get (values_of (image (Defaults d.number))) place
      else map.get d.values place)
  unfolding reset_communication after_initialisation
  communication_values place = restored_at 0x1000 0x1FFF (values_of (image (Defaults d.number))) d.values place

-- ---- what a write starts

-- what the server does with a request
abbrev served : Image → List ℕ → Device → AfterRequest
served image request d = server_answer (shape_of (image (Shape d.number))) d.values d.transfer request

-- the device before what the write brings about
abbrev with_answer : AfterRequest → Device → Device
with_answer s d = record d {
  values = s.values;
  transfer = s.transfer;
  waiting = d.waiting ++ answer_frames d.number s.answer;
}

abbrev producer_time : ℕ × ℕ
producer_time = (0x1017, 0)

-- the heartbeat starts at t with the values that now stand
abbrev StartsHeartbeat : ℕ → Device → Type 0
StartsHeartbeat t d = d.heartbeat ≡ next_heartbeat t d.learnt d.values

own_starts : (t : ℕ) (d : Device) → StartsHeartbeat t (after_own_write t producer_time d)
unfolding after_own_write
own_starts t d = refl

started : (t : ℕ) (shape : Shaped) (wrote : Option (ℕ × ℕ)) (d : Device) → wrote ≡ Some producer_time
    → StartsHeartbeat t (after_server_write t shape wrote d)
unfolding after_write
started t shape wrote d e = rw e (own_starts t d)

is_1017h : (index sub : ℕ) → (index == 0x1017) && (sub == 0) ≡ true → (index, sub) ≡ producer_time
is_1017h index sub h =
    let i : index ≡ 0x1017 = grind (arith, nat_tests) in
    let j : sub ≡ 0 = grind (arith, nat_tests) in
    rw (i, j) refl

cleared_leaves : (over : Bool) (d : Device) → (without_error_if over d).heartbeat ≡ d.heartbeat
cleared_leaves true d = refl
cleared_leaves false d = refl

consumer_leaves : (sub : ℕ) (d : Device) → (after_write_of_consumer sub d).heartbeat ≡ d.heartbeat
unfolding after_write_of_consumer
consumer_leaves sub d = cleared_leaves _ _

own_leaves : (t : ℕ) (place : ℕ × ℕ) (d : Device) → place ≢ producer_time
    → (after_own_write t place d).heartbeat ≡ d.heartbeat
unfolding after_own_write
own_leaves t place d other =
    either (λ e. e.heartbeat ≡ d.heartbeat)
    (is_producer_time place) _ _ (λ e. absurd (other (is_1017h place.0 place.1 e)))
    (λ e. one_of (λ e. e.heartbeat ≡ d.heartbeat) (place.0 == 0x1016) _ d (consumer_leaves place.1 d) refl)

write_leaves : (t : ℕ) (shape : Shaped) (place : ℕ × ℕ) (d : Device) → place ≢ producer_time
    → (after_write t shape place d).heartbeat ≡ d.heartbeat
unfolding after_write
write_leaves t shape place d other =
    one_of (λ e. e.heartbeat ≡ d.heartbeat) (is_of_rpdos place.0) _ _ refl (one_of (λ e. e.heartbeat ≡ d.heartbeat)
    (is_of_tpdos place.0) _ _ refl (own_leaves t place d other))

left : (t : ℕ) (shape : Shaped) (wrote : Option (ℕ × ℕ)) (d : Device) → wrote ≢ Some producer_time
    → (after_server_write t shape wrote d).heartbeat ≡ d.heartbeat
left t shape None d other = refl
left t shape (Some place) d other = write_leaves t shape place d (λ e. other (ap Some e))

module _ (image : Image) (t : ℕ) (request : List ℕ) (d : Device) where
  pub write_starts : is_in Stopped d ≡ false → (served image request d).wrote ≡ Some producer_time
      → StartsHeartbeat t (outcome (after_sdo_request t request d) image)
  unfolding after_sdo_request
  write_starts awake wrote =
      let s : AfterRequest = served image request d in
      picked image (StartsHeartbeat t) (is_in Stopped d) _ _ (not_both _ awake)
      (λ e. started t (shape_of (image (Shape d.number))) s.wrote (with_answer s d) wrote)

  pub others_leave : (served image request d).wrote ≢ Some producer_time
      → (outcome (after_sdo_request t request d) image).heartbeat ≡ d.heartbeat
  unfolding after_sdo_request
  others_leave other =
      let s : AfterRequest = served image request d in
      picked image (λ e. e.heartbeat ≡ d.heartbeat) (is_in Stopped d) _ _ (λ e. refl)
      (λ e. left t (shape_of (image (Shape d.number))) s.wrote (with_answer s d) other)

pub set_starts : (t : ℕ) (bytes : List ℕ) (d : Device) → d.has_power ≡ true
    → (after_set t producer_time bytes d).heartbeat
    ≡ next_heartbeat t d.learnt (after_set t producer_time bytes d).values
unfolding after_set after_own_write
set_starts t bytes d on = rw on refl

pub other_sets_leave : (t : ℕ) (place : ℕ × ℕ) (bytes : List ℕ) (d : Device) → place ≢ producer_time
    → (after_set t place bytes d).heartbeat ≡ d.heartbeat
unfolding after_set
other_sets_leave t place bytes d other =
    one_of (λ e. e.heartbeat ≡ d.heartbeat) d.has_power _ d
    (own_leaves t place (record d { values = map.insert d.values place bytes }) other) refl

-- an entry of an RPDO's mapping
module _ (t : ℕ) (shape : Shaped) (entry : ℕ) (bits : List ℕ) (d : Device) where
  abbrev with_taken : Device
  with_taken = record d { values = with_bits shape entry bits d.values }

  pub entry_starts : takes shape entry bits d.values ≡ true → mapped_place entry ≡ producer_time
      → StartsHeartbeat t (after_entry t shape entry bits d)
  unfolding after_entry
  entry_starts taken is =
      rw taken (started t shape (Some (mapped_place entry)) with_taken (ap Some is))

  pub other_entries_leave : mapped_place entry ≢ producer_time
      → (after_entry t shape entry bits d).heartbeat ≡ d.heartbeat
  unfolding after_entry
  other_entries_leave other =
      one_of (λ e. e.heartbeat ≡ d.heartbeat) (takes shape entry bits d.values) _ d
      (write_leaves t shape (mapped_place entry) with_taken other) refl

  pub untaken_leaves : takes shape entry bits d.values ≡ false → after_entry t shape entry bits d ≡ d
  unfolding after_entry
  untaken_leaves untaken = rw untaken refl

pub ruleset what_entries_start = (entry_starts, other_entries_leave, untaken_leaves)
