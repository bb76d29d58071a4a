-- Which parts a device reads.
use Rattle.std.proofs.Common.{◌≡◌, ℕ, zero, suc, inl, inr, Bool, true, false, List, [], ◌∷◌, All, Option, Some, None}
use Rattle.std.proofs.Common.{refl, sym, subst, arith}
use Rattle.std.specs.Prelude.{if◌then◌else◌}
use Rattle.std.proofs.lemmas.List.Elements.{All-append}
use Rattle.image_parts.specs.Asking.{Asking, outcome, reads}
use Rattle.image_parts.proofs.QuestionLemmas.{reads_bind}
use Rattle.can_frame.specs.Frames.{BaseFrame}
use Rattle.image_parts.specs.Contents.{Content, Image}
use Rattle.image_parts.specs.declared.part.Part.{Part}
use Rattle.image_parts.specs.declared.part.Part.TheVariants.{Defaults, Shape}
use Rattle.pdo_rules.specs.declared.receipt.Receipt.{Receipt}
use Rattle.pdo_rules.specs.declared.receipt.Receipt.TheVariants.{Short, Kept, AtOnce, Ignored}
use Rattle.pdo_rules.specs.Sync.{sync_message}
use Rattle.device_objects.specs.declared.reception.Reception.{Reception}
use Rattle.device_objects.specs.declared.reception.Reception.TheVariants.{Nothing, NmtService, Sync, SdoRequest}
use Rattle.device_objects.specs.declared.reception.Reception.TheVariants.{ErrorControl, Pdo}
use Rattle.co_scenario.specs.Commands.{command_of}
use Rattle.co_scenario.specs.declared.nmt_command.NmtCommand.{NmtCommand}
use Rattle.co_scenario.specs.declared.nmt_command.NmtCommand.TheVariants.{Start, Stop, EnterPreOperational, ResetNode}
use Rattle.co_scenario.specs.declared.nmt_command.NmtCommand.TheVariants.{ResetCommunication}
use Rattle.device_pdos.specs.Rpdos.{mapping_of_rpdo, receipt_of, rpdo_at, with_kept}
use Rattle.co_device.specs.Device.{Device, is_in, nmt_service, after_power, reset_communication, after_reset_node}
use Rattle.co_device.specs.Device.{after_sdo_request}
use Rattle.co_device.specs.Receiving.{after_mapping, after_kept_frame, after_pdo, rpdo_places, after_frame}
use Rattle.co_device.specs.Receiving.{after_rpdo, after_sync_at, after_sync, after_receipt, walk, after_reception}
use Rattle.co_device.specs.Receiving.{reception}
use Rattle.cia301.specs.declared.nmt_state.NmtState.TheVariants.{Operational, Stopped}
use Rattle.network_laws.specs.Reads.{IsOwnPart}
use Rattle.device_agenda.proofs.KeptLemmas.{rpdo_kept, synced_kept}
use Rattle.device_agenda.proofs.SelfLemmas.{HasNumber, number_kept}

-- one of two trees
picked : (image : Image) (P : List (Part × Content) → Type 0) (b : Bool) (m n : Asking Part Content Device)
    → P (reads m image) → P (reads n image) → P (reads (if b then m else n) image)
picked image P true m n p q = p
picked image P false m n p q = q

module _ (image : Image) (t number : ℕ) where
  abbrev AreOwn : List (Part × Content) → Type 0
  AreOwn = All (λ (r : Part × Content). IsOwnPart number r.0)

  none_read : AreOwn []
  none_read k r h = absurd (omega (arith, h))

  one_read : AreOwn ((Shape number, image (Shape number)) ∷ [])
  one_read zero r h = inr refl
  one_read (suc k) r h = absurd (omega (arith, h))

  both_read : AreOwn ((Defaults number, image (Defaults number)) ∷ (Shape number, image (Shape number)) ∷ [])
  both_read zero r h = inl refl
  both_read (suc k) r h = one_read k r (omega (arith, h))

  one_of : (n : ℕ) → n ≡ number → AreOwn ((Shape n, image (Shape n)) ∷ [])
  one_of n is = subst (λ m. AreOwn ((Shape m, image (Shape m)) ∷ [])) (sym is) one_read

  both_of : (n : ℕ) → n ≡ number → AreOwn ((Defaults n, image (Defaults n)) ∷ (Shape n, image (Shape n)) ∷ [])
  both_of n is = subst (λ m. AreOwn ((Defaults m, image (Defaults m)) ∷ (Shape m, image (Shape m)) ∷ []))
      (sym is) both_read

  -- what each step of a walk over devices of this number reads, and what it keeps
  walk_reads : {X : Type 0} (step : X → Device → Asking Part Content Device)
      → ((x : X) (d : Device) → HasNumber number d → AreOwn (reads (step x d) image))
      → ((x : X) (d : Device) → HasNumber number d → HasNumber number (outcome (step x d) image))
      → (xs : List X) (d : Device) → HasNumber number d → AreOwn (reads (walk step xs d) image)
  walk_reads step own keeps [] d is = none_read
  walk_reads step own keeps (x ∷ xs) d is =
      rw (reads_bind (step x d) (walk step xs) image)
      (All-append (λ (r : Part × Content). IsOwnPart number r.0) (reads (step x d) image)
      (reads (walk step xs (outcome (step x d) image)) image) (own x d is)
      (walk_reads step own keeps xs (outcome (step x d) image) (keeps x d is)))

  node_reads : (d : Device) → HasNumber number d → AreOwn (reads (after_reset_node t d) image)
  unfolding after_reset_node
  node_reads d is = both_of d.number is

  communication_reads : (d : Device) → HasNumber number d → AreOwn (reads (reset_communication t d) image)
  unfolding reset_communication
  communication_reads d is = both_of d.number is

  service_reads : (command : Option NmtCommand) (d : Device) → HasNumber number d
      → AreOwn (reads (nmt_service command t d) image)
  unfolding nmt_service
  service_reads None d is = none_read
  service_reads (Some Start) d is = none_read
  service_reads (Some Stop) d is = none_read
  service_reads (Some EnterPreOperational) d is = none_read
  service_reads (Some ResetNode) d is = node_reads d is
  service_reads (Some ResetCommunication) d is = communication_reads d is

  request_reads : (request : List ℕ) (d : Device) → HasNumber number d
      → AreOwn (reads (after_sdo_request t request d) image)
  unfolding after_sdo_request
  request_reads request d is = picked image AreOwn (is_in Stopped d) _ _ none_read (one_of d.number is)

  applied_reads : (mapping : List ℕ) (frame : BaseFrame) (d : Device) → HasNumber number d
      → AreOwn (reads (after_mapping t mapping frame d) image)
  unfolding after_mapping
  applied_reads mapping frame d is = one_of d.number is

  taken_reads : (receipt : Receipt) (frame : BaseFrame) (i : ℕ) (d : Device) → HasNumber number d
      → AreOwn (reads (after_receipt receipt t frame i d) image)
  unfolding after_receipt
  taken_reads Short frame i d is = none_read
  taken_reads Kept frame i d is = none_read
  taken_reads AtOnce frame i d is = applied_reads (mapping_of_rpdo (rpdo_at d.rpdos i).configuration) frame d is
  taken_reads Ignored frame i d is = none_read

  rpdo_reads : (frame : BaseFrame) (i : ℕ) (d : Device) → HasNumber number d
      → AreOwn (reads (after_rpdo t frame i d) image)
  unfolding after_rpdo
  rpdo_reads frame i d is = taken_reads (receipt_of frame (rpdo_at d.rpdos i).configuration) frame i d is

  pdo_reads : (frame : BaseFrame) (d : Device) → HasNumber number d → AreOwn (reads (after_pdo t frame d) image)
  unfolding after_pdo
  pdo_reads frame d is =
      picked image AreOwn (is_in Operational d) _ _
      (walk_reads (after_rpdo t frame) (rpdo_reads frame)
      (rpdo_kept t (HasNumber number) (number_kept t number) image frame) (rpdo_places d) d is) none_read

  stored_reads : (frame : Option BaseFrame) (i : ℕ) (d : Device) → HasNumber number d
      → AreOwn (reads (after_kept_frame t frame i d) image)
  unfolding after_kept_frame
  stored_reads None i d is = none_read
  stored_reads (Some frame) i d is =
      applied_reads (mapping_of_rpdo (rpdo_at d.rpdos i).configuration) frame
      (record d { rpdos = with_kept d.rpdos i None }) is

  synced_reads : (i : ℕ) (d : Device) → HasNumber number d → AreOwn (reads (after_sync_at t i d) image)
  unfolding after_sync_at
  synced_reads i d is = stored_reads (rpdo_at d.rpdos i).kept i d is

  sync_reads : (bytes : List ℕ) (d : Device) → HasNumber number d → AreOwn (reads (after_sync t bytes d) image)
  unfolding after_sync
  sync_reads bytes d is =
      picked image AreOwn (is_in Operational d) _ _
      (walk_reads (after_sync_at t) synced_reads (synced_kept t (HasNumber number) (number_kept t number) image)
      (rpdo_places d) (record d { synced = Some (sync_message bytes) }) is) none_read

  received_reads : (r : Reception) (frame : BaseFrame) (d : Device) → HasNumber number d
      → AreOwn (reads (after_reception r t frame d) image)
  unfolding after_reception
  received_reads Nothing frame d is = none_read
  received_reads (NmtService service) frame d is = service_reads (command_of service) d is
  received_reads Sync frame d is = sync_reads frame.bytes d is
  received_reads SdoRequest frame d is = request_reads frame.bytes d is
  received_reads (ErrorControl producer) frame d is = none_read
  received_reads Pdo frame d is = pdo_reads frame d is

pub frame_reads : (image : Image) (t : ℕ) (frame : BaseFrame) (d : Device)
    → All (λ (r : Part × Content). IsOwnPart d.number r.0) (reads (after_frame t frame d) image)
unfolding after_frame
frame_reads image t frame d = received_reads image t d.number (reception frame d) frame d refl

pub power_reads : (image : Image) (t : ℕ) (on : Bool) (d : Device)
    → All (λ (r : Part × Content). IsOwnPart d.number r.0) (reads (after_power on t d) image)
unfolding after_power
power_reads image t on d =
    picked image (AreOwn image t d.number) on _ _
    (picked image (AreOwn image t d.number) d.has_power _ _ (none_read image t d.number)
    (node_reads image t d.number d refl)) (none_read image t d.number)
