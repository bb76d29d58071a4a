-- One device at a moment, and what it does (CiA 301). All moments are absolute, in microseconds from the power-on of
-- the network.
use Rattle.std.specs.Prelude.{ℕ, ◌==◌, not, ◌&&◌, nat_lt, Bool, true, false, List, [], ◌∷◌, ◌++◌, replicate, Option}
use Rattle.std.specs.Prelude.{Some, None, if◌then◌else◌}
use Rattle.std.specs.FinMap as map
use Rattle.image_parts.specs.Asking.{Asking, Answer, Ask}
use Rattle.can_frame.specs.Frames.{BaseFrame}
use Rattle.can_frame.specs.Identifiers.{sdo_answer_id}
use Rattle.can_frame.specs.WaitingFrames.{with_latest, waiting, without_unwanted}
use Rattle.can_frame.specs.declared.purpose.Purpose.TheVariants.{BootUp, Emergency, Heartbeat, Sdo}
use Rattle.can_frame.specs.declared.unwanted.Unwanted.TheVariants.{Emergencies, Sdos, Tpdos}
use Rattle.can_frame.specs.declared.waiting.Waiting.{Waiting}
use Rattle.cia301.specs.NmtStates.{state_byte}
use Rattle.co_dict.specs.Restored.{with_restored}
use Rattle.co_dict.specs.Shapes.{Shaped}
use Rattle.co_dict.specs.Values.{Values}
use Rattle.image_parts.specs.Contents.{Content, shape_of, values_of}
use Rattle.base.specs.Moments.{earliest, is_due, moments_of}
use Rattle.image_parts.specs.declared.part.Part.{Part}
use Rattle.image_parts.specs.declared.part.Part.TheVariants.{Defaults, Shape}
use Rattle.pdo_rules.specs.declared.sync.SyncMessage.{SyncMessage}
use Rattle.pdo_rules.specs.declared.sync_seen.SyncSeen.{SyncSeen}
use Rattle.device_objects.specs.Consumers as consumers
use Rattle.device_objects.specs.Profile.{emergency_frame, without_error_bits, error_register, with_error_bits}
use Rattle.device_objects.specs.Profile.{counter_overflow, learnt_of, next_heartbeat}
use Rattle.device_objects.specs.declared.consumer.Consumer.{Consumer}
use Rattle.device_objects.specs.declared.learnt.Learnt.{Learnt}
use Rattle.co_scenario.specs.declared.nmt_command.NmtCommand.{NmtCommand}
use Rattle.co_scenario.specs.declared.nmt_command.NmtCommand.TheVariants.{Start, Stop, EnterPreOperational, ResetNode}
use Rattle.co_scenario.specs.declared.nmt_command.NmtCommand.TheVariants.{ResetCommunication}
use Rattle.co_sdo.specs.Server.{AfterRequest, server_answer}
use Rattle.co_sdo.specs.declared.transfer.Transfer.{Transfer}
use Rattle.co_sdo.specs.declared.transfer.Transfer.TheVariants.{Idle}
use Rattle.cia301.specs.PdoObjects.{is_of_tpdos, is_of_rpdos}
use Rattle.device_pdos.specs.Rpdos.{without_kept_frames, rpdos_of, rpdos_after_write}
use Rattle.device_pdos.specs.Tpdos as tpdos
use Rattle.device_pdos.specs.Tpdos.{without_memories, tpdos_after_inhibit, tpdos_after_turns, tpdos_of}
use Rattle.device_pdos.specs.Tpdos.{tpdos_after_write, with_tpdos}
use Rattle.device_pdos.specs.declared.rpdo_state.RpdoState.{RpdoState}
use Rattle.device_pdos.specs.declared.tpdo_state.TpdoState.{TpdoState}
use Rattle.cia301.specs.declared.nmt_state.NmtState.{NmtState}
use Rattle.cia301.specs.declared.nmt_state.NmtState.TheVariants.{PreOperational, Operational, Stopped}
use Rattle.can_frame.specs.ErrorControl.{boot_up_message, error_control_frame}

-- its values by entry, its heartbeat consumers by sub-index, its PDOs by number; the SYNC of this instant, if one came;
-- the moment of its next heartbeat; the frames that wait; the open transfer of its SDO server
pub record Device : Type 0 where
  pub spent : Bool
  pub number : ℕ
  pub has_power : Bool
  pub state : NmtState
  pub learnt : Learnt
  pub values : Values
  pub consumers : List Consumer
  pub rpdos : List RpdoState
  pub tpdos : List TpdoState
  pub synced : Option SyncMessage
  pub heartbeat : Option ℕ
  pub waiting : List Waiting
  pub transfer : Transfer

abbrev pub is_in : NmtState → Device → Bool
is_in state d = state_byte d.state == state_byte state

-- a device of no entries learns that it has none
abbrev pub nothing_learnt : Learnt
nothing_learnt = record {
  has_error_register = false;
  has_sync_cob_id = false;
  has_producer_time = false;
  has_counter_overflow = false;
}

-- a device without power: nothing waits, nothing is due, nothing is open
abbrev pub without_power : Bool → ℕ → Device
without_power spent number = record {
  spent = spent;
  number = number;
  has_power = false;
  state = PreOperational;
  learnt = nothing_learnt;
  values = map.empty;
  consumers = [];
  rpdos = [];
  tpdos = [];
  synced = None;
  heartbeat = None;
  waiting = [];
  transfer = Idle;
}

-- ---- NMT state Initialisation, which ends with the boot-up message in Pre-operational

abbrev pub boot_up_frame : ℕ → Waiting
boot_up_frame number = waiting BootUp (boot_up_message number)

-- with these values; frames that waited, the open transfer, all moments, failures, and what PDOs remember and keep are
-- dropped
unfoldable pub after_initialisation : ℕ → Shaped → Values → Device → Device
after_initialisation t shape values d = record {
  spent = d.spent;
  number = d.number;
  has_power = true;
  state = PreOperational;
  learnt = learnt_of shape;
  values = values;
  consumers = consumers.consumers_of shape values;
  rpdos = rpdos_of shape values;
  tpdos = tpdos_of shape values;
  synced = None;
  heartbeat = next_heartbeat t (learnt_of shape) values;
  waiting = boot_up_frame d.number ∷ [];
  transfer = Idle;
}

-- NMT service Reset node: every entry gets its value by the EDS
unfoldable pub after_reset_node : ℕ → Device → Asking Part Content Device
after_reset_node t d =
    Ask (Defaults d.number) (λ v. Ask (Shape d.number) (λ w.
    Answer (after_initialisation t (shape_of w) (values_of v) d)))

-- NMT service Reset communication: those of the communication profile area alone
unfoldable pub reset_communication : ℕ → Device → Asking Part Content Device
reset_communication t d =
    Ask (Defaults d.number) (λ v. Ask (Shape d.number) (λ w.
    Answer (after_initialisation t (shape_of w) (with_restored 0x1000 0x1FFF (values_of v) d.values) d)))

-- ---- power: where it is as it was, nothing changes

unfoldable pub after_power : Bool → ℕ → Device → Asking Part Content Device
after_power on t d =
    if on then (if d.has_power then Answer d else after_reset_node t d)
    else Answer (if d.has_power then without_power d.spent d.number else d)

-- ---- the other NMT services

-- leaving Operational drops the TPDOs that wait, and what PDOs remember and keep
unfoldable pub out_of_operational : Device → Device
out_of_operational d =
    if is_in Operational d then record d {
      waiting = without_unwanted Tpdos d.waiting;
      rpdos = without_kept_frames d.rpdos;
      tpdos = without_memories d.tpdos;
    }
    else d

abbrev pub start_remote_node : Device → Device
start_remote_node d = record d { state = Operational }

abbrev pub enter_pre_operational : Device → Device
enter_pre_operational d = record (out_of_operational d) { state = PreOperational }

-- SDO answers and emergency objects that wait, and the open transfer, are dropped
abbrev pub without_answers : Device → Device
without_answers d = record d {
  waiting = without_unwanted Emergencies (without_unwanted Sdos d.waiting);
  transfer = Idle;
}

-- entering Stopped leaves Operational too
abbrev pub stop_remote_node : Device → Device
stop_remote_node d = if is_in Stopped d then d else record (without_answers (out_of_operational d)) { state = Stopped }

unfoldable pub nmt_service : Option NmtCommand → ℕ → Device → Asking Part Content Device
nmt_service None t d = Answer d
nmt_service (Some Start) t d = Answer (start_remote_node d)
nmt_service (Some Stop) t d = Answer (stop_remote_node d)
nmt_service (Some EnterPreOperational) t d = Answer (enter_pre_operational d)
nmt_service (Some ResetNode) t d = after_reset_node t d
nmt_service (Some ResetCommunication) t d = reset_communication t d

-- ---- emergency objects

-- one of an error code waits; in Stopped none is sent
unfoldable pub with_emergency : ℕ → Device → Device
with_emergency code d =
    if is_in Stopped d then d
    else record d {
      waiting = d.waiting
          ++ waiting Emergency (emergency_frame d.number code (error_register d.learnt d.values)) ∷ [];
    }

-- ---- what the write of an entry brings about

-- 1017h:00: the heartbeat starts anew, also with an equal value
abbrev pub is_producer_time : ℕ × ℕ → Bool
is_producer_time place = (place.0 == 0x1017) && (place.1 == 0)

abbrev pub with_heartbeat_start : ℕ → Device → Device
with_heartbeat_start t d = record d { heartbeat = next_heartbeat t d.learnt d.values }

-- the error bits of the register are cleared where the last failure has ended
abbrev pub without_error_if : Bool → Device → Device
without_error_if is_over d = if is_over then record d { values = without_error_bits d.learnt d.values } else d

-- 1016h: the consumer's moment and failure are forgotten, without an emergency object
unfoldable pub after_write_of_consumer : ℕ → Device → Device
after_write_of_consumer sub d =
    without_error_if (consumers.is_last_failure_over d.consumers
    (consumers.consumers_after_write sub d.values d.consumers))
    (record d { consumers = consumers.consumers_after_write sub d.values d.consumers })

-- of an entry that is none of a PDO's objects
unfoldable pub after_own_write : ℕ → ℕ × ℕ → Device → Device
after_own_write t place d =
    if is_producer_time place then with_heartbeat_start t d
    else if place.0 == 0x1016 then after_write_of_consumer place.1 d
    else d

-- of any entry: the PDO that it is of is judged anew, keeps no frame and remembers nothing
unfoldable pub after_write : ℕ → Shaped → ℕ × ℕ → Device → Device
after_write t shape place d =
    if is_of_rpdos place.0 then record d { rpdos = rpdos_after_write shape d.values place.0 d.rpdos }
    else if is_of_tpdos place.0 then record d { tpdos = tpdos_after_write shape d.values place.0 d.tpdos }
    else after_own_write t place d

-- ---- the application of a device with power sets an entry, whatever its access and limits

unfoldable pub after_set : ℕ → ℕ × ℕ → List ℕ → Device → Device
after_set t place bytes d = if d.has_power
    then after_own_write t place (record d { values = map.insert d.values place bytes }) else d

-- ---- the SDO server, which is silent in Stopped

abbrev pub after_server_write : ℕ → Shaped → Option (ℕ × ℕ) → Device → Device
after_server_write t shape None d = d
after_server_write t shape (Some place) d = after_write t shape place d

abbrev pub answer_frames : ℕ → Option (List ℕ) → List Waiting
answer_frames number None = []
answer_frames number (Some bytes) = waiting (Sdo number) (record { id = sdo_answer_id number; bytes = bytes }) ∷ []

-- what the server did stands in the device, and its answer waits
abbrev pub after_request : ℕ → Shaped → AfterRequest → Device → Device
after_request t shape s d =
    after_server_write t shape s.wrote (record d {
      values = s.values;
      transfer = s.transfer;
      waiting = d.waiting ++ answer_frames d.number s.answer;
    })

unfoldable pub after_sdo_request : ℕ → List ℕ → Device → Asking Part Content Device
after_sdo_request t request d =
    if is_in Stopped d then Answer d
    else Ask (Shape d.number)
    (λ w. Answer (after_request t (shape_of w) (server_answer (shape_of w) d.values d.transfer request) d))

-- ---- error control: heartbeat and boot-up of other nodes

-- consumers that expect the node start or go on; with the end of the last failure the error bits are cleared, and an
-- emergency object tells it
unfoldable pub after_error_control : ℕ → ℕ → Device → Device
after_error_control t producer d =
    let after = consumers.consumers_after_heartbeat t producer d.consumers in
    if consumers.is_last_failure_over d.consumers after
    then with_emergency 0x0000 (without_error_if true (record d { consumers = after }))
    else record d { consumers = after }

-- ---- the timers of a moment: consumers by sub-index, and then the heartbeat

-- so many emergency objects of an error code wait
abbrev pub with_emergencies : ℕ → ℕ → Device → Device
with_emergencies count code d =
    if is_in Stopped d then d
    else record d {
      waiting = d.waiting
          ++ replicate count (waiting Emergency (emergency_frame d.number code (error_register d.learnt d.values)));
    }

-- each that fails sets the error bits and has an emergency object sent; the device falls to Pre-operational if it is
-- Operational
abbrev pub after_failures : ℕ → ℕ → Device → Device
after_failures t count d =
    let told = with_emergencies count 0x8130 (record d {
      consumers = consumers.consumers_after_time t d.consumers;
      values = with_error_bits d.learnt d.values;
    }) in
    if is_in Operational told then enter_pre_operational told else told

unfoldable pub after_consumers : ℕ → Device → Device
after_consumers t d = if nat_lt 0 (consumers.failures_at t d.consumers)
    then after_failures t (consumers.failures_at t d.consumers) d else d

abbrev pub heartbeat_frame : ℕ → NmtState → BaseFrame
heartbeat_frame number state = error_control_frame number (state_byte state)

-- a heartbeat takes the place of one that still waits, and the next is due a period later
unfoldable pub after_heartbeat : ℕ → Device → Device
after_heartbeat t d =
    if is_due t d.heartbeat
    then record (with_heartbeat_start t d) {
      waiting =
          with_latest Heartbeat (heartbeat_frame d.number d.state) d.waiting;
    }
    else d

unfoldable pub after_timers : ℕ → Device → Device
after_timers t d = after_heartbeat t (after_consumers t d)

-- ---- the TPDOs of a moment: in Operational each is looked at, by number; an inhibit moment that has come is
-- forgotten in any state, and so is the SYNC of the instant

-- the SYNC of the instant as the TPDOs find it: the device counts SYNCs where its synchronous counter overflow value
-- isn't 0 then
abbrev pub sync_seen : Learnt → Values → Option SyncMessage → Option SyncSeen
sync_seen learnt values None = None
sync_seen learnt values (Some sync) =
    Some (record { counter = sync.counter; is_counted = not (counter_overflow learnt values == 0) })

unfoldable pub after_tpdos : ℕ → Device → Device
after_tpdos t d =
    if is_in Operational d
    then record d {
      synced = None;
      tpdos = tpdos_after_turns t (sync_seen d.learnt d.values d.synced) d.values d.tpdos;
      waiting = with_tpdos t (sync_seen d.learnt d.values d.synced) d.values d.tpdos d.waiting;
    }
    else record d { synced = None; tpdos = tpdos_after_inhibit t d.tpdos }

-- WHAT A DEVICE DOES OF ITSELF AT A MOMENT: its timers, and then its TPDOs
unfoldable pub after_instant : ℕ → Device → Device
after_instant t d = after_tpdos t (after_timers t d)

-- ---- the moments at which the device is due

abbrev pub moments : Device → List ℕ
moments d = moments_of d.heartbeat ++ consumers.moments d.consumers ++ tpdos.moments (is_in Operational d) d.tpdos

-- the first of them
unfoldable pub next_due : Device → Option ℕ
next_due d = earliest (moments d)
