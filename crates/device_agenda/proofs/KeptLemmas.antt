-- What frames and writes keep, but for the NMT services.
use Rattle.std.proofs.Common.{◌≡◌, ℕ, ◌+◌, ◌==◌, Bool, true, false, List, [], ◌∷◌, ◌++◌, Option, Some, None}
use Rattle.image_parts.specs.Asking.{outcome}
use Rattle.can_frame.specs.Frames.{BaseFrame}
use Rattle.can_frame.specs.declared.waiting.Waiting.{Waiting}
use Rattle.co_dict.specs.Mappings.{mapped_length, mapped_place}
use Rattle.co_dict.specs.Shapes.{Shaped}
use Rattle.co_dict.specs.Values.{Values}
use Rattle.pdo_rules.specs.Packing.{after_entries, bits_for, frame_bits, takes, with_bits}
use Rattle.image_parts.specs.Contents.{Image, shape_of}
use Rattle.image_parts.specs.declared.part.Part.TheVariants.{Shape}
use Rattle.pdo_rules.specs.declared.receipt.Receipt.{Receipt}
use Rattle.pdo_rules.specs.declared.receipt.Receipt.TheVariants.{Short, Kept, AtOnce, Ignored}
use Rattle.device_objects.specs.Consumers.{consumers_after_heartbeat, consumers_after_write, is_last_failure_over}
use Rattle.pdo_rules.specs.Sync.{sync_message}
use Rattle.pdo_rules.specs.declared.sync.SyncMessage.{SyncMessage}
use Rattle.device_objects.specs.declared.reception.Reception.{Reception}
use Rattle.device_objects.specs.declared.reception.Reception.TheVariants.{Nothing, NmtService, Sync, SdoRequest}
use Rattle.device_objects.specs.declared.reception.Reception.TheVariants.{ErrorControl, Pdo}
use Rattle.co_scenario.specs.Commands.{command_of}
use Rattle.co_scenario.specs.declared.nmt_command.NmtCommand.{NmtCommand}
use Rattle.co_sdo.specs.Server.{AfterRequest, server_answer}
use Rattle.co_sdo.specs.declared.transfer.Transfer.{Transfer}
use Rattle.cia301.specs.PdoObjects.{is_of_tpdos, is_of_rpdos}
use Rattle.device_pdos.specs.Rpdos.{mapping_of_rpdo, receipt_of, rpdo_at, with_kept}
use Rattle.device_pdos.specs.declared.rpdo_state.RpdoState.{RpdoState}
use Rattle.device_pdos.specs.declared.tpdo_state.TpdoState.{TpdoState}
use Rattle.co_device.specs.Device.{Device, after_own_write, after_write, after_server_write, answer_frames}
use Rattle.co_device.specs.Device.{after_write_of_consumer, after_error_control, with_heartbeat_start, is_in}
use Rattle.co_device.specs.Device.{is_producer_time, nmt_service, after_sdo_request, after_set, with_emergency}
use Rattle.co_device.specs.Device.{without_error_if}
use Rattle.co_device.specs.Receiving.{after_mapping, after_entry, after_kept_frame, after_pdo, rpdo_places}
use Rattle.co_device.specs.Receiving.{after_frame, after_rpdo, after_sync_at, after_sync, after_receipt}
use Rattle.co_device.specs.Receiving.{after_reception, reception}
use Rattle.co_device.proofs.ReceptionLemmas.{Says, reception_says}
use Rattle.cia301.specs.declared.nmt_state.NmtState.TheVariants.{Operational, Stopped}
use Rattle.device_agenda.proofs.CaseLemmas.{one_of, picked, walk_keeps}

-- it holds whatever the values, the PDOs, the frames that wait and the transfer are, and is kept where the heartbeat
-- starts at t, a consumer is forgotten, and consumers hear a node at t
pub record IsKept (t : ℕ) (P : Device → Type 0) : Type 0 where
  pub others : (d : Device) (values : Values) (rpdos : List RpdoState) (tpdos : List TpdoState)
      (synced : Option SyncMessage) (frames : List Waiting) (transfer : Transfer)
      → P d → P (record d {
        values = values;
        rpdos = rpdos;
        tpdos = tpdos;
        synced = synced;
        waiting = frames;
        transfer = transfer;
      })
  pub started : (d : Device) → P d → P (with_heartbeat_start t d)
  pub forgotten : (d : Device) (sub : ℕ) → P d
      → P (record d { consumers = consumers_after_write sub d.values d.consumers })
  pub heard : (d : Device) (producer : ℕ) → P d
      → P (record d { consumers = consumers_after_heartbeat t producer d.consumers })

module _ (t : ℕ) (P : Device → Type 0) (k : IsKept t P) where
  with_values : (d : Device) (values : Values) → P d → P (record d { values = values })
  with_values d values h = k.others d values d.rpdos d.tpdos d.synced d.waiting d.transfer h

  with_rpdos : (d : Device) (rpdos : List RpdoState) → P d → P (record d { rpdos = rpdos })
  with_rpdos d rpdos h = k.others d d.values rpdos d.tpdos d.synced d.waiting d.transfer h

  with_tpdos : (d : Device) (tpdos : List TpdoState) → P d → P (record d { tpdos = tpdos })
  with_tpdos d tpdos h = k.others d d.values d.rpdos tpdos d.synced d.waiting d.transfer h

  with_frames : (d : Device) (frames : List Waiting) → P d → P (record d { waiting = frames })
  with_frames d frames h = k.others d d.values d.rpdos d.tpdos d.synced frames d.transfer h

  with_sync : (d : Device) (synced : Option SyncMessage) → P d → P (record d { synced = synced })
  with_sync d synced h = k.others d d.values d.rpdos d.tpdos synced d.waiting d.transfer h

  -- ---- writes

  cleared : (b : Bool) (d : Device) → P d → P (without_error_if b d)
  cleared true d h = with_values d _ h
  cleared false d h = h

  consumer_kept : (sub : ℕ) (d : Device) → P d → P (after_write_of_consumer sub d)
  unfolding after_write_of_consumer
  consumer_kept sub d h = cleared (is_last_failure_over d.consumers (consumers_after_write sub d.values d.consumers)) _
      (k.forgotten d sub h)

  own_kept : (place : ℕ × ℕ) (d : Device) → P d → P (after_own_write t place d)
  unfolding after_own_write
  own_kept place d h = one_of P (is_producer_time place) _ _ (k.started d h)
      (one_of P (place.0 == 0x1016) _ _ (consumer_kept place.1 d h) h)

  pub set_kept : (place : ℕ × ℕ) (bytes : List ℕ) (d : Device) → P d → P (after_set t place bytes d)
  unfolding after_set
  set_kept place bytes d h = one_of P d.has_power _ _ (own_kept place _ (with_values d _ h)) h

  write_kept : (shape : Shaped) (place : ℕ × ℕ) (d : Device) → P d → P (after_write t shape place d)
  unfolding after_write
  write_kept shape place d h =
      one_of P (is_of_rpdos place.0) _ _ (with_rpdos d _ h)
      (one_of P (is_of_tpdos place.0) _ _ (with_tpdos d _ h) (own_kept place d h))

  pub wrote_kept : (shape : Shaped) (wrote : Option (ℕ × ℕ)) (d : Device) → P d → P (after_server_write t shape wrote d)
  wrote_kept shape None d h = h
  wrote_kept shape (Some place) d h = write_kept shape place d h

  -- ---- frames

  emergency_kept : (code : ℕ) (d : Device) → P d → P (with_emergency code d)
  unfolding with_emergency
  emergency_kept code d h = one_of P (is_in Stopped d) _ _ h (with_frames d _ h)

  pub control_kept : (producer : ℕ) (d : Device) → P d → P (after_error_control t producer d)
  unfolding after_error_control
  control_kept producer d h =
      let after : Device = record d { consumers = consumers_after_heartbeat t producer d.consumers } in
      one_of P (is_last_failure_over d.consumers after.consumers) _ after
      (emergency_kept 0x0000 _ (cleared true after (k.heard d producer h))) (k.heard d producer h)

  entry_kept : (shape : Shaped) (entry : ℕ) (bits : List ℕ) (d : Device) → P d → P (after_entry t shape entry bits d)
  unfolding after_entry
  entry_kept shape entry bits d h =
      one_of P (takes shape entry bits d.values) _ d
      (write_kept shape (mapped_place entry) _ (with_values d (with_bits shape entry bits d.values) h)) h

  entries_kept : (shape : Shaped) (position : ℕ) (mapping bits : List ℕ) (d : Device) → P d
      → P (after_entries (after_entry t shape) position mapping bits d)
  entries_kept shape position [] bits d h = h
  entries_kept shape position (entry ∷ mapping) bits d h =
      entries_kept shape (position + mapped_length entry) mapping bits _
      (entry_kept shape entry (bits_for entry position bits) d h)

  module _ (image : Image) where
    pub request_kept : (request : List ℕ) (d : Device) → P d → P (outcome (after_sdo_request t request d) image)
    unfolding after_sdo_request
    request_kept request d h =
        let s : AfterRequest = server_answer (shape_of (image (Shape d.number))) d.values d.transfer request in
        picked image P (is_in Stopped d) _ _ (λ e. h)
        (λ e. wrote_kept (shape_of (image (Shape d.number))) s.wrote _
        (k.others d s.values d.rpdos d.tpdos d.synced (d.waiting ++ answer_frames d.number s.answer) s.transfer h))

    applied_kept : (mapping : List ℕ) (frame : BaseFrame) (d : Device) → P d
        → P (outcome (after_mapping t mapping frame d) image)
    unfolding after_mapping
    applied_kept mapping frame d h = entries_kept (shape_of (image (Shape d.number))) 0 mapping (frame_bits frame.bytes)
        d h

    taken_kept : (receipt : Receipt) (frame : BaseFrame) (i : ℕ) (d : Device) → P d
        → P (outcome (after_receipt receipt t frame i d) image)
    unfolding after_receipt
    taken_kept Short frame i d h = emergency_kept 0x8210 d h
    taken_kept Kept frame i d h = with_rpdos d _ h
    taken_kept AtOnce frame i d h = applied_kept (mapping_of_rpdo (rpdo_at d.rpdos i).configuration) frame d h
    taken_kept Ignored frame i d h = h

    pub rpdo_kept : (frame : BaseFrame) (i : ℕ) (d : Device) → P d → P (outcome (after_rpdo t frame i d) image)
    unfolding after_rpdo
    rpdo_kept frame i d h = taken_kept (receipt_of frame (rpdo_at d.rpdos i).configuration) frame i d h

    pub pdo_kept : (frame : BaseFrame) (d : Device) → P d → P (outcome (after_pdo t frame d) image)
    unfolding after_pdo
    pdo_kept frame d h = picked image P (is_in Operational d) _ _ (λ e. walk_keeps image P (after_rpdo t frame)
        (rpdo_kept frame) (rpdo_places d) d h) (λ e. h)

    stored_kept : (frame : Option BaseFrame) (i : ℕ) (d : Device) → P d
        → P (outcome (after_kept_frame t frame i d) image)
    unfolding after_kept_frame
    stored_kept None i d h = h
    stored_kept (Some frame) i d h =
        applied_kept (mapping_of_rpdo (rpdo_at d.rpdos i).configuration) frame _
        (with_rpdos d (with_kept d.rpdos i None) h)

    pub synced_kept : (i : ℕ) (d : Device) → P d → P (outcome (after_sync_at t i d) image)
    unfolding after_sync_at
    synced_kept i d h = stored_kept (rpdo_at d.rpdos i).kept i d h

    pub sync_kept : (bytes : List ℕ) (d : Device) → P d → P (outcome (after_sync t bytes d) image)
    unfolding after_sync
    sync_kept bytes d h =
        picked image P (is_in Operational d) _ _
        (λ e. walk_keeps image P (after_sync_at t) synced_kept (rpdo_places d) _
        (with_sync d (Some (sync_message bytes)) h)) (λ e. h)

    received_kept : (r : Reception) (frame : BaseFrame) (d : Device) → Says r frame d
        → ((command : Option NmtCommand) → d.has_power ≡ true → P (outcome (nmt_service command t d) image)) → P d
        → P (outcome (after_reception r t frame d) image)
    unfolding after_reception
    received_kept Nothing frame d said service h = h
    received_kept (NmtService number) frame d said service h = service (command_of number) said.has_power
    received_kept Sync frame d said service h = sync_kept frame.bytes d h
    received_kept SdoRequest frame d said service h = request_kept frame.bytes d h
    received_kept (ErrorControl producer) frame d said service h = control_kept producer d h
    received_kept Pdo frame d said service h = pdo_kept frame d h

    -- what the NMT services keep of a device with power, each frame does
    pub frame_kept : (frame : BaseFrame) (d : Device)
        → ((command : Option NmtCommand) → d.has_power ≡ true → P (outcome (nmt_service command t d) image)) → P d
        → P (outcome (after_frame t frame d) image)
    unfolding after_frame
    frame_kept frame d service h = received_kept (reception frame d) frame d (reception_says frame d) service h
