-- What a device does leaves each frame that waits at it its own.
use Rattle.std.proofs.Common.{◌≡◌, ℕ, ◌+◌, ◌==◌, Bool, true, false, List, [], ◌∷◌, ◌++◌, Option, Some, None}
use Rattle.std.proofs.Common.{refl}
use Rattle.std.specs.FinMap.{insert}
use Rattle.std.specs.Prelude.{nat_lt, remove}
use Rattle.std.proofs.lemmas.List.Elements.{All-nil}
use Rattle.image_parts.specs.Asking.{outcome}
use Rattle.can_frame.specs.Frames.{BaseFrame}
use Rattle.can_frame.specs.WaitingFrames.{without_unwanted}
use Rattle.can_frame.specs.declared.purpose.Purpose.TheVariants as purpose
use Rattle.can_frame.specs.declared.unwanted.Unwanted.TheVariants.{Emergencies, Sdos, Tpdos}
use Rattle.can_frame.specs.declared.waiting.Waiting.{Waiting}
use Rattle.base.specs.Moments.{is_due}
use Rattle.co_dict.specs.Mappings.{mapped_length, mapped_place}
use Rattle.co_dict.specs.Shapes.{Shaped}
use Rattle.co_dict.specs.Values.{Values}
use Rattle.pdo_rules.specs.Packing.{after_entries, bits_for, frame_bits, takes, with_bits}
use Rattle.image_parts.specs.Contents.{Image, shape_of}
use Rattle.image_parts.specs.declared.part.Part.TheVariants.{Shape}
use Rattle.pdo_rules.specs.Sync.{sync_message}
use Rattle.pdo_rules.specs.declared.receipt.Receipt.{Receipt}
use Rattle.pdo_rules.specs.declared.receipt.Receipt.TheVariants.{Short, Kept, AtOnce, Ignored}
use Rattle.device_objects.specs.Consumers.{consumers_after_heartbeat, consumers_after_time, consumers_after_write}
use Rattle.device_objects.specs.Consumers.{failures_at, is_last_failure_over}
use Rattle.device_objects.specs.Profile.{emergency_frame, error_register, with_error_bits}
use Rattle.device_objects.specs.declared.reception.Reception.{Reception}
use Rattle.device_objects.specs.declared.reception.Reception.TheVariants.{Nothing, NmtService, Sync, SdoRequest}
use Rattle.device_objects.specs.declared.reception.Reception.TheVariants.{ErrorControl, Pdo}
use Rattle.co_scenario.specs.Commands.{command_of}
use Rattle.co_scenario.specs.declared.nmt_command.NmtCommand.{NmtCommand}
use Rattle.co_scenario.specs.declared.nmt_command.NmtCommand.TheVariants.{Start, Stop, EnterPreOperational, ResetNode}
use Rattle.co_scenario.specs.declared.nmt_command.NmtCommand.TheVariants.{ResetCommunication}
use Rattle.co_sdo.specs.Server.{AfterRequest, server_answer}
use Rattle.co_sdo.specs.declared.transfer.Transfer.TheVariants.{Idle}
use Rattle.cia301.specs.PdoObjects.{is_of_tpdos, is_of_rpdos}
use Rattle.device_pdos.specs.Rpdos.{mapping_of_rpdo, receipt_of, rpdo_at, with_kept}
use Rattle.co_device.specs.Device.{Device, after_consumers, after_error_control, after_failures, after_heartbeat}
use Rattle.co_device.specs.Device.{after_initialisation, after_instant, after_own_write, after_power}
use Rattle.co_device.specs.Device.{after_reset_node, after_sdo_request, after_server_write, after_set, after_timers}
use Rattle.co_device.specs.Device.{after_tpdos, after_write, after_write_of_consumer, answer_frames, boot_up_frame}
use Rattle.co_device.specs.Device.{enter_pre_operational, is_in, is_producer_time, heartbeat_frame, nmt_service}
use Rattle.co_device.specs.Device.{out_of_operational, reset_communication, sync_seen, with_emergencies}
use Rattle.co_device.specs.Device.{with_emergency, without_error_if, without_power}
use Rattle.co_device.specs.Receiving.{after_entry, after_frame, after_kept_frame, after_mapping, after_pdo}
use Rattle.co_device.specs.Receiving.{after_receipt, after_rpdo, after_sync, after_sync_at, rpdo_places}
use Rattle.co_device.specs.Receiving.{after_reception, reception}
use Rattle.cia301.specs.declared.nmt_state.NmtState.TheVariants.{Operational, Stopped}
use Rattle.device_agenda.proofs.CaseLemmas.{one_of, picked, walk_keeps}
use Rattle.network_laws.specs.Own.{HasOwnFrames, IsOwnFrame}
use Rattle.network_laws.proofs.FrameLemmas.{AreOwn, free_after_inhibit, free_after_turns, free_after_write}
use Rattle.network_laws.proofs.FrameLemmas.{free_forgotten, free_of, own_added, own_after_turns, own_alone}
use Rattle.network_laws.proofs.FrameLemmas.{own_heartbeat, own_left, own_removed, own_replaced, own_replicated}

-- ---- changes elsewhere, and more frames

-- with the same number, frames and TPDOs
same : (d e : Device) → e.number ≡ d.number → e.waiting ≡ d.waiting → e.tpdos ≡ d.tpdos → HasOwnFrames d
    → HasOwnFrames e
same d e number frames tpdos h = record {
  frames = rw (number, frames) h.frames;
  tpdos = rw tpdos h.tpdos;
}

added : (d : Device) (more : List Waiting) → AreOwn d.number more → HasOwnFrames d
    → HasOwnFrames (record d { waiting = d.waiting ++ more })
added d more own h = record { frames = own_added d.number d.waiting more h.frames own; tpdos = h.tpdos }

own_emergency : (number code : ℕ) (register : ℕ)
    → IsOwnFrame number purpose.Emergency (emergency_frame number code register)
unfolding emergency_frame
own_emergency number code register = refl

-- ---- Initialisation, and power

pub dark_owns : (spent : Bool) (number : ℕ) → HasOwnFrames (without_power spent number)
dark_owns spent number = record { frames = All-nil _; tpdos = All-nil _ }

begun : (t : ℕ) (shape : Shaped) (values : Values) (d : Device)
    → HasOwnFrames (after_initialisation t shape values d)
unfolding after_initialisation
begun t shape values d = record {
  frames = own_alone d.number (boot_up_frame d.number) refl;
  tpdos = free_of shape values;
}

module _ (image : Image) (t : ℕ) (d : Device) where
  node_owns : HasOwnFrames (outcome (after_reset_node t d) image)
  unfolding after_reset_node
  node_owns = begun t _ _ d

  communication_owns : HasOwnFrames (outcome (reset_communication t d) image)
  unfolding reset_communication
  communication_owns = begun t _ _ d

  pub power_owns : (on : Bool) → HasOwnFrames d → HasOwnFrames (outcome (after_power on t d) image)
  unfolding after_power
  power_owns true h = picked image HasOwnFrames d.has_power _ _ (λ e. h) (λ e. node_owns)
  power_owns false h = one_of HasOwnFrames d.has_power _ d (dark_owns d.spent d.number) h

-- ---- the other NMT services

out_owns : (d : Device) → HasOwnFrames d → HasOwnFrames (out_of_operational d)
unfolding out_of_operational
out_owns d h = one_of HasOwnFrames (is_in Operational d) _ d (record {
  frames = own_left d.number Tpdos d.waiting h.frames;
  tpdos = free_forgotten d.tpdos h.tpdos;
}) h

entered_owns : (d : Device) → HasOwnFrames d → HasOwnFrames (enter_pre_operational d)
entered_owns d h = same (out_of_operational d) _ refl refl refl (out_owns d h)

stopped_owns : (d : Device) → HasOwnFrames d → HasOwnFrames (record d {
  state = Stopped;
  waiting = without_unwanted Emergencies (without_unwanted Sdos d.waiting);
  transfer = Idle;
})
stopped_owns d h = record {
  frames = own_left d.number Emergencies (without_unwanted Sdos d.waiting) (own_left d.number Sdos d.waiting h.frames);
  tpdos = h.tpdos;
}

service_owns : (image : Image) (t : ℕ) (command : Option NmtCommand) (d : Device) → HasOwnFrames d
    → HasOwnFrames (outcome (nmt_service command t d) image)
unfolding nmt_service
service_owns image t None d h = h
service_owns image t (Some Start) d h = same d _ refl refl refl h
service_owns image t (Some Stop) d h = one_of HasOwnFrames (is_in Stopped d) d _ h
    (stopped_owns (out_of_operational d) (out_owns d h))
service_owns image t (Some EnterPreOperational) d h = entered_owns d h
service_owns image t (Some ResetNode) d h = node_owns image t d
service_owns image t (Some ResetCommunication) d h = communication_owns image t d

-- ---- emergency objects

told_owns : (code : ℕ) (d : Device) → HasOwnFrames d → HasOwnFrames (with_emergency code d)
unfolding with_emergency
told_owns code d h = one_of HasOwnFrames (is_in Stopped d) d _ h
    (added d _ (own_alone d.number _ (own_emergency d.number code (error_register d.learnt d.values))) h)

cleared_owns : (is_over : Bool) (d : Device) → HasOwnFrames d → HasOwnFrames (without_error_if is_over d)
cleared_owns true d h = same d _ refl refl refl h
cleared_owns false d h = h

-- ---- writes

module _ (t : ℕ) where
  consumer_owns : (sub : ℕ) (d : Device) → HasOwnFrames d → HasOwnFrames (after_write_of_consumer sub d)
  unfolding after_write_of_consumer
  consumer_owns sub d h =
      cleared_owns (is_last_failure_over d.consumers (consumers_after_write sub d.values d.consumers)) _
      (same d (record d { consumers = consumers_after_write sub d.values d.consumers }) refl refl refl h)

  own_write_owns : (place : ℕ × ℕ) (d : Device) → HasOwnFrames d → HasOwnFrames (after_own_write t place d)
  unfolding after_own_write
  own_write_owns place d h = one_of HasOwnFrames (is_producer_time place) _ _ (same d _ refl refl refl h)
      (one_of HasOwnFrames (place.0 == 0x1016) _ d (consumer_owns place.1 d h) h)

  pub set_owns : (place : ℕ × ℕ) (bytes : List ℕ) (d : Device) → HasOwnFrames d
      → HasOwnFrames (after_set t place bytes d)
  unfolding after_set
  set_owns place bytes d h = one_of HasOwnFrames d.has_power _ d
      (own_write_owns place (record d { values = insert d.values place bytes }) (same d _ refl refl refl h)) h

  write_owns : (shape : Shaped) (place : ℕ × ℕ) (d : Device) → HasOwnFrames d
      → HasOwnFrames (after_write t shape place d)
  unfolding after_write
  write_owns shape place d h =
      one_of HasOwnFrames (is_of_rpdos place.0) _ _ (same d _ refl refl refl h)
      (one_of HasOwnFrames (is_of_tpdos place.0) _ _ (record {
        frames = h.frames;
        tpdos = free_after_write shape d.values place.0 d.tpdos h.tpdos;
      })
      (own_write_owns place d h))

  wrote_owns : (shape : Shaped) (wrote : Option (ℕ × ℕ)) (d : Device) → HasOwnFrames d
      → HasOwnFrames (after_server_write t shape wrote d)
  wrote_owns shape None d h = h
  wrote_owns shape (Some place) d h = write_owns shape place d h

  -- ---- frames

  own_answer : (number : ℕ) (answer : Option (List ℕ)) → AreOwn number (answer_frames number answer)
  own_answer number None = All-nil _
  own_answer number (Some bytes) = own_alone number _ refl

  control_owns : (producer : ℕ) (d : Device) → HasOwnFrames d → HasOwnFrames (after_error_control t producer d)
  unfolding after_error_control
  control_owns producer d h =
      let after : Device = record d { consumers = consumers_after_heartbeat t producer d.consumers } in
      let heard : HasOwnFrames after = same d after refl refl refl h in
      one_of HasOwnFrames (is_last_failure_over d.consumers after.consumers) _ after
      (told_owns 0x0000 _ (cleared_owns true after heard)) heard

  entry_owns : (shape : Shaped) (entry : ℕ) (bits : List ℕ) (d : Device) → HasOwnFrames d
      → HasOwnFrames (after_entry t shape entry bits d)
  unfolding after_entry
  entry_owns shape entry bits d h =
      one_of HasOwnFrames (takes shape entry bits d.values) _ d
      (write_owns shape (mapped_place entry) (record d { values = with_bits shape entry bits d.values })
      (same d _ refl refl refl h)) h

  entries_own : (shape : Shaped) (position : ℕ) (mapping bits : List ℕ) (d : Device) → HasOwnFrames d
      → HasOwnFrames (after_entries (after_entry t shape) position mapping bits d)
  entries_own shape position [] bits d h = h
  entries_own shape position (entry ∷ mapping) bits d h =
      entries_own shape (position + mapped_length entry) mapping bits _
      (entry_owns shape entry (bits_for entry position bits) d h)

  module _ (image : Image) where
    request_owns : (request : List ℕ) (d : Device) → HasOwnFrames d
        → HasOwnFrames (outcome (after_sdo_request t request d) image)
    unfolding after_sdo_request
    request_owns request d h =
        let s : AfterRequest = server_answer (shape_of (image (Shape d.number))) d.values d.transfer request in
        picked image HasOwnFrames (is_in Stopped d) _ _ (λ e. h)
        (λ e. wrote_owns (shape_of (image (Shape d.number))) s.wrote (record d {
          values = s.values;
          transfer = s.transfer;
          waiting = d.waiting ++ answer_frames d.number s.answer;
        }) (record {
          frames = own_added d.number d.waiting _ h.frames (own_answer d.number s.answer);
          tpdos = h.tpdos;
        }))

    applied_owns : (mapping : List ℕ) (frame : BaseFrame) (d : Device) → HasOwnFrames d
        → HasOwnFrames (outcome (after_mapping t mapping frame d) image)
    unfolding after_mapping
    applied_owns mapping frame d h =
        entries_own (shape_of (image (Shape d.number))) 0 mapping (frame_bits frame.bytes) d h

    taken_owns : (receipt : Receipt) (frame : BaseFrame) (i : ℕ) (d : Device) → HasOwnFrames d
        → HasOwnFrames (outcome (after_receipt receipt t frame i d) image)
    unfolding after_receipt
    taken_owns Short frame i d h = told_owns 0x8210 d h
    taken_owns Kept frame i d h = same d _ refl refl refl h
    taken_owns AtOnce frame i d h = applied_owns (mapping_of_rpdo (rpdo_at d.rpdos i).configuration) frame d h
    taken_owns Ignored frame i d h = h

    rpdo_owns : (frame : BaseFrame) (i : ℕ) (d : Device) → HasOwnFrames d
        → HasOwnFrames (outcome (after_rpdo t frame i d) image)
    unfolding after_rpdo
    rpdo_owns frame i d h = taken_owns (receipt_of frame (rpdo_at d.rpdos i).configuration) frame i d h

    pdo_owns : (frame : BaseFrame) (d : Device) → HasOwnFrames d
        → HasOwnFrames (outcome (after_pdo t frame d) image)
    unfolding after_pdo
    pdo_owns frame d h = picked image HasOwnFrames (is_in Operational d) _ _
        (λ e. walk_keeps image HasOwnFrames (after_rpdo t frame) (rpdo_owns frame) (rpdo_places d) d h) (λ e. h)

    stored_owns : (frame : Option BaseFrame) (i : ℕ) (d : Device) → HasOwnFrames d
        → HasOwnFrames (outcome (after_kept_frame t frame i d) image)
    unfolding after_kept_frame
    stored_owns None i d h = h
    stored_owns (Some frame) i d h =
        applied_owns (mapping_of_rpdo (rpdo_at d.rpdos i).configuration) frame
        (record d { rpdos = with_kept d.rpdos i None }) (same d _ refl refl refl h)

    synced_owns : (i : ℕ) (d : Device) → HasOwnFrames d → HasOwnFrames (outcome (after_sync_at t i d) image)
    unfolding after_sync_at
    synced_owns i d h = stored_owns (rpdo_at d.rpdos i).kept i d h

    sync_owns : (bytes : List ℕ) (d : Device) → HasOwnFrames d → HasOwnFrames (outcome (after_sync t bytes d) image)
    unfolding after_sync
    sync_owns bytes d h = picked image HasOwnFrames (is_in Operational d) _ _
        (λ e. walk_keeps image HasOwnFrames (after_sync_at t) synced_owns (rpdo_places d)
        (record d { synced = Some (sync_message bytes) }) (same d _ refl refl refl h)) (λ e. h)

    received_owns : (r : Reception) (frame : BaseFrame) (d : Device) → HasOwnFrames d
        → HasOwnFrames (outcome (after_reception r t frame d) image)
    unfolding after_reception
    received_owns Nothing frame d h = h
    received_owns (NmtService service) frame d h = service_owns image t (command_of service) d h
    received_owns Sync frame d h = sync_owns frame.bytes d h
    received_owns SdoRequest frame d h = request_owns frame.bytes d h
    received_owns (ErrorControl producer) frame d h = control_owns producer d h
    received_owns Pdo frame d h = pdo_owns frame d h

    pub frame_owns : (frame : BaseFrame) (d : Device) → HasOwnFrames d
        → HasOwnFrames (outcome (after_frame t frame d) image)
    unfolding after_frame
    frame_owns frame d h = received_owns (reception frame d) frame d h

  -- ---- what a device does of itself

  failed_owns : (count : ℕ) (d : Device) → HasOwnFrames d → HasOwnFrames (after_failures t count d)
  failed_owns count d h =
      let failed : Device = record d {
        consumers = consumers_after_time t d.consumers;
        values = with_error_bits d.learnt d.values;
      } in
      let before : HasOwnFrames failed = same d failed refl refl refl h in
      let told : Device = with_emergencies count 0x8130 failed in
      let now : HasOwnFrames told = one_of HasOwnFrames (is_in Stopped failed) failed _ before
      (added failed _ (own_replicated d.number count _
      (own_emergency d.number 0x8130 (error_register failed.learnt failed.values))) before) in
      one_of HasOwnFrames (is_in Operational told) _ told (entered_owns told now) now

  consumers_own : (d : Device) → HasOwnFrames d → HasOwnFrames (after_consumers t d)
  unfolding after_consumers
  consumers_own d h = one_of HasOwnFrames (nat_lt 0 (failures_at t d.consumers)) _ d
      (failed_owns (failures_at t d.consumers) d h) h

  heartbeat_owns : (d : Device) → HasOwnFrames d → HasOwnFrames (after_heartbeat t d)
  unfolding after_heartbeat
  heartbeat_owns d h = one_of HasOwnFrames (is_due t d.heartbeat) _ d (record {
    frames = own_replaced d.number purpose.Heartbeat (heartbeat_frame d.number d.state) d.waiting
        (own_heartbeat d.number d.state) h.frames;
    tpdos = h.tpdos;
  }) h

  tpdos_own : (d : Device) → HasOwnFrames d → HasOwnFrames (after_tpdos t d)
  unfolding after_tpdos
  tpdos_own d h = one_of HasOwnFrames (is_in Operational d) _ _ (record {
    frames = own_after_turns t (sync_seen d.learnt d.values d.synced) d.values d.number d.tpdos d.waiting h.tpdos
        h.frames;
    tpdos = free_after_turns t (sync_seen d.learnt d.values d.synced) d.values d.tpdos h.tpdos;
  }) (record { frames = h.frames; tpdos = free_after_inhibit t d.tpdos h.tpdos })

  pub instant_owns : (d : Device) → HasOwnFrames d → HasOwnFrames (after_instant t d)
  unfolding after_instant after_timers
  instant_owns d h = tpdos_own (after_heartbeat t (after_consumers t d))
      (heartbeat_owns (after_consumers t d) (consumers_own d h))

-- ---- a frame starts its slot

pub sent_owns : (place : ℕ) (d : Device) → HasOwnFrames d
    → HasOwnFrames (record d { waiting = remove d.waiting place })
sent_owns place d h = record { frames = own_removed d.number place d.waiting h.frames; tpdos = h.tpdos }
