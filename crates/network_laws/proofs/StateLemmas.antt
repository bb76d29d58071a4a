-- What holds of a device in an NMT state.
use Rattle.std.proofs.Common.{◌≡◌, ℕ, suc, ◌==◌, inl, inr, ◌⊎◌, Bool, true, false, not, List, [], ◌∷◌, Option}
use Rattle.std.proofs.Common.{Some, None, All, refl, ◌∙◌, arith}
use Rattle.std.specs.Prelude.{if◌then◌else◌, nat_lt, remove, take, drop, ◌||◌, map}
use Rattle.std.specs.FinMap.{insert}
use Rattle.std.specs.List.{AllByRecursion}
use Rattle.std.proofs.lemmas.Bool.Decides.{nat_tests}
use Rattle.std.proofs.lemmas.List.Elements.{All-append, All-cons, All-drop, All-take, filter_passes}
use Rattle.image_parts.specs.Asking.{outcome, reads}
use Rattle.can_frame.specs.Frames.{BaseFrame}
use Rattle.can_frame.specs.WaitingFrames.{is_same, is_unwanted, with_latest, waiting, without_unwanted}
use Rattle.can_frame.specs.declared.purpose.Purpose.{Purpose}
use Rattle.can_frame.specs.declared.purpose.Purpose.TheVariants.{Heartbeat}
use Rattle.can_frame.specs.declared.unwanted.Unwanted.{Unwanted}
use Rattle.can_frame.specs.declared.unwanted.Unwanted.TheVariants.{Emergencies, Sdos, Tpdos}
use Rattle.can_frame.specs.declared.waiting.Waiting.{Waiting}
use Rattle.image_parts.specs.Contents.{Image}
use Rattle.image_parts.specs.declared.part.Part.TheVariants.{Shape}
use Rattle.base.specs.Moments.{is_due}
use Rattle.pdo_rules.specs.Tpdo.{remembering_nothing}
use Rattle.pdo_rules.specs.declared.receipt.Receipt.TheVariants.{Kept, AtOnce}
use Rattle.device_objects.specs.Consumers.{consumers_after_time, consumers_after_heartbeat, consumers_after_write}
use Rattle.device_objects.specs.Consumers.{failures_at, is_last_failure_over}
use Rattle.device_objects.specs.Profile.{with_error_bits}
use Rattle.device_objects.specs.declared.reception.Reception.{Reception}
use Rattle.device_objects.specs.declared.reception.Reception.TheVariants.{Nothing, NmtService, Sync, SdoRequest}
use Rattle.device_objects.specs.declared.reception.Reception.TheVariants.{ErrorControl, Pdo}
use Rattle.device_objects.specs.Reception.{reception_with_power}
use Rattle.co_scenario.specs.Commands.{command_of}
use Rattle.co_scenario.specs.declared.nmt_command.NmtCommand.{NmtCommand}
use Rattle.co_scenario.specs.declared.nmt_command.NmtCommand.TheVariants.{Start, Stop, EnterPreOperational, ResetNode}
use Rattle.co_scenario.specs.declared.nmt_command.NmtCommand.TheVariants.{ResetCommunication}
use Rattle.co_sdo.specs.declared.transfer.Transfer.TheVariants.{Idle}
use Rattle.device_pdos.specs.Rpdos.{without_kept_frame, receipt_of, rpdo_at, without_kept_frames}
use Rattle.device_pdos.specs.Tpdos.{without_memory, without_memories}
use Rattle.device_pdos.specs.declared.rpdo_state.RpdoState.{RpdoState}
use Rattle.device_pdos.specs.declared.tpdo_state.TpdoState.{TpdoState}
use Rattle.co_device.specs.Device.{Device, after_failures, after_own_write, after_write_of_consumer, after_consumers}
use Rattle.co_device.specs.Device.{enter_pre_operational, after_error_control, after_heartbeat, after_initialisation}
use Rattle.co_device.specs.Device.{is_in, is_producer_time, nmt_service, out_of_operational, after_power}
use Rattle.co_device.specs.Device.{after_instant, reset_communication, after_reset_node, after_sdo_request}
use Rattle.co_device.specs.Device.{stop_remote_node, after_timers, after_tpdos, after_set, with_emergencies}
use Rattle.co_device.specs.Device.{with_emergency, without_error_if}
use Rattle.co_device.specs.Receiving.{after_mapping, after_pdo, after_frame, after_rpdo, after_sync, after_receipt}
use Rattle.co_device.specs.Receiving.{after_reception, reception}
use Rattle.cia301.specs.NmtStates.{state_byte}
use Rattle.cia301.specs.declared.nmt_state.NmtState.{NmtState}
use Rattle.cia301.specs.declared.nmt_state.NmtState.TheVariants.{Operational, PreOperational, Stopped}
use Rattle.network_laws.specs.States.{HasBooted, HasNoPdo, IsSilent, SaysNothing}
use Rattle.can_frame.specs.NmtMessages.{nmt_message}
use Rattle.device_agenda.proofs.CaseLemmas.{either, not_both, one_of, picked}
use Rattle.device_agenda.proofs.KeptLemmas.{IsKept, pdo_kept, request_kept, sync_kept}

-- ---- after a reset

module _ (image : Image) (t : ℕ) (d : Device) where
  pub node_boots : HasBooted d.number (outcome (after_reset_node t d) image)
  unfolding after_reset_node after_initialisation
  node_boots = record { has_power = refl; in_state = refl; waits = refl; closed = refl }

  pub communication_boots : HasBooted d.number (outcome (reset_communication t d) image)
  unfolding reset_communication after_initialisation
  communication_boots = record { has_power = refl; in_state = refl; waits = refl; closed = refl }

  pub power_boots : d.has_power ≡ false → HasBooted d.number (outcome (after_power true t d) image)
  unfolding after_power
  power_boots off = picked image (HasBooted d.number) d.has_power _ _ (not_both _ off) (λ e. node_boots)

-- ---- frames that wait

unturned : (b : Bool) → not b ≡ true → b ≡ false
unturned true h = absurd cc
unturned false h = refl

-- no frame of a kind waits in a list
abbrev NoneOf : Unwanted → List Waiting → Type 0
NoneOf unwanted ws = All (λ w. is_unwanted unwanted w.purpose ≡ false) ws

dropped : (unwanted : Unwanted) (ws : List Waiting) → NoneOf unwanted (without_unwanted unwanted ws)
dropped unwanted ws k w h = unturned _ (filter_passes (λ w. not (is_unwanted unwanted w.purpose)) ws k w h)

behind : (P : Waiting → Type 0) (w : Waiting) (ws : List Waiting) → All P (w ∷ ws) → All P ws
behind P w ws h k v less = h (suc k) v (omega (arith, less))

-- what all have, those that are left have
still : (P : Waiting → Type 0) (unwanted : Unwanted) (ws : List Waiting) → All P ws
    → All P (without_unwanted unwanted ws)
still P unwanted [] h = h
still P unwanted (w ∷ ws) h = by (not (is_unwanted unwanted w.purpose)) (still P unwanted ws (behind P w ws h))
    (h 0 w (omega arith))
  where
    by : (test : Bool) → All P (without_unwanted unwanted ws) → P w
        → All P (if test then w ∷ without_unwanted unwanted ws else without_unwanted unwanted ws)
    by true rest first = All-cons P w (without_unwanted unwanted ws) first rest
    by false rest first = rest

replaced_all : (P : Waiting → Type 0) (purpose : Purpose) (frame : BaseFrame) (ws : List Waiting)
    → P (waiting purpose frame) → All P ws → All P (with_latest purpose frame ws)
replaced_all P purpose frame [] new h = All-cons P (waiting purpose frame) [] new h
replaced_all P purpose frame (w ∷ ws) new h = one (is_same w.purpose purpose)
    (replaced_all P purpose frame ws new (behind P w ws h)) (behind P w ws h) (h 0 w (omega arith))
  where
    one : (b : Bool) → All P (with_latest purpose frame ws) → All P ws → P w
        → All P (if b then waiting purpose frame ∷ ws else w ∷ with_latest purpose frame ws)
    one true after rest first = All-cons P (waiting purpose frame) ws new rest
    one false after rest first = All-cons P w (with_latest purpose frame ws) first after

-- ---- Stopped is entered

stopped_says_nothing : (d : Device)
    → SaysNothing (record d {
      state = Stopped;
      waiting = without_unwanted Emergencies (without_unwanted Sdos d.waiting);
      transfer = Idle;
    })
stopped_says_nothing d = record {
  no_answer = still (λ w. is_unwanted Sdos w.purpose ≡ false) Emergencies (without_unwanted Sdos d.waiting)
      (dropped Sdos d.waiting);
  no_emergency = dropped Emergencies (without_unwanted Sdos d.waiting);
  closed = refl;
}

pub stop_says_nothing : (d : Device) → is_in Stopped d ≡ false → SaysNothing (stop_remote_node d)
stop_says_nothing d e = either SaysNothing (is_in Stopped d) d _ (not_both _ e)
    (λ awake. stopped_says_nothing (out_of_operational d))

stop_is_silent : (d : Device) → IsSilent d → IsSilent (stop_remote_node d)
stop_is_silent d h = either IsSilent (is_in Stopped d) d _ (λ e. h) (λ e s. stopped_says_nothing (out_of_operational d))

-- ---- in Stopped

-- it says as little where the same frames wait, with the same transfer
as_little : (d e : Device) → e.waiting ≡ d.waiting → e.transfer ≡ d.transfer → SaysNothing d → SaysNothing e
as_little d e frames transfer h = record {
  no_answer = rw frames h.no_answer;
  no_emergency = rw frames h.no_emergency;
  closed = transfer ∙ h.closed;
}

-- in another state nothing is asked of a device
elsewhere : (d e : Device) → e.state ≡ d.state → is_in Stopped d ≡ false → IsSilent e
elsewhere d e same awake s = not_both _ awake (rw (← same) s)

booted_is_silent : (number : ℕ) (d : Device) → HasBooted number d → IsSilent d
booted_is_silent number d h s = not_both (is_in Stopped d) (rw h.in_state refl) s

-- in this state
abbrev InState : NmtState → Device → Type 0
InState state d = d.state ≡ state

state_kept : (t : ℕ) (state : NmtState) → IsKept t (InState state)
state_kept t state = record {
  others = λ d values rpdos tpdos synced frames transfer h. h;
  started = λ d h. h;
  forgotten = λ d sub h. h;
  heard = λ d producer h. h;
}

not_operational : (state : NmtState) → (state_byte state == 4) ≡ true → (state_byte state == 5) ≡ false
not_operational PreOperational h = refl
not_operational Operational h = absurd cc
not_operational Stopped h = refl

not_stopped : (state : NmtState) → (state_byte state == 5) ≡ true → (state_byte state == 4) ≡ false
not_stopped PreOperational h = refl
not_stopped Operational h = refl
not_stopped Stopped h = absurd cc

-- the same waits, with the same transfer
unchanged : (d e : Device) → e.state ≡ d.state → e.waiting ≡ d.waiting → e.transfer ≡ d.transfer → IsSilent d
    → IsSilent e
unchanged d e state frames transfer h s = as_little d e frames transfer (h (rw (← state) s))

told_silent : (code : ℕ) (d : Device) → IsSilent d → IsSilent (with_emergency code d)
unfolding with_emergency
told_silent code d h = either IsSilent (is_in Stopped d) d _ (λ b. h) (λ b. elsewhere d _ refl b)

cleared_silent : (over : Bool) (d : Device) → IsSilent d → IsSilent (without_error_if over d)
cleared_silent true d h = unchanged d _ refl refl refl h
cleared_silent false d h = h

-- ---- the writes of the application

consumer_silent : (sub : ℕ) (d : Device) → IsSilent d → IsSilent (after_write_of_consumer sub d)
unfolding after_write_of_consumer
consumer_silent sub d h =
    cleared_silent _ _ (unchanged d (record d { consumers = consumers_after_write sub d.values d.consumers }) refl refl
    refl h)

own_silent : (t : ℕ) (place : ℕ × ℕ) (d : Device) → IsSilent d → IsSilent (after_own_write t place d)
unfolding after_own_write
own_silent t place d h = one_of IsSilent (is_producer_time place) _ _ (unchanged d _ refl refl refl h)
    (one_of IsSilent (place.0 == 0x1016) _ d (consumer_silent place.1 d h) h)

pub set_is_silent : (t : ℕ) (place : ℕ × ℕ) (bytes : List ℕ) (d : Device) → IsSilent d
    → IsSilent (after_set t place bytes d)
unfolding after_set
set_is_silent t place bytes d h =
    one_of IsSilent d.has_power _ d (own_silent t place (record d { values = insert d.values place bytes })
    (unchanged d _ refl refl refl h)) h

-- ---- frames

control_silent : (t producer : ℕ) (d : Device) → IsSilent d → IsSilent (after_error_control t producer d)
unfolding after_error_control
control_silent t producer d h =
    let after : Device = record d { consumers = consumers_after_heartbeat t producer d.consumers } in
    let now : IsSilent after = unchanged d after refl refl refl h in
    one_of IsSilent (is_last_failure_over d.consumers after.consumers) _ after
    (told_silent 0x0000 (without_error_if true after) (cleared_silent true after now)) now

module _ (image : Image) (t : ℕ) where
  pub sync_ignored : (bytes : List ℕ) (d : Device) → is_in Operational d ≡ false
      → outcome (after_sync t bytes d) image ≡ d
  unfolding after_sync
  sync_ignored bytes d e = rw e refl

  pub sync_unread : (bytes : List ℕ) (d : Device) → is_in Operational d ≡ false
      → reads (after_sync t bytes d) image ≡ []
  unfolding after_sync
  sync_unread bytes d e = rw e refl

  pub pdo_ignored : (frame : BaseFrame) (d : Device) → is_in Operational d ≡ false
      → outcome (after_pdo t frame d) image ≡ d
  unfolding after_pdo
  pdo_ignored frame d e = rw e refl

  pub pdo_unread : (frame : BaseFrame) (d : Device) → is_in Operational d ≡ false
      → reads (after_pdo t frame d) image ≡ []
  unfolding after_pdo
  pdo_unread frame d e = rw e refl

  pub not_taken : (request : List ℕ) (d : Device) → is_in Stopped d ≡ true
      → outcome (after_sdo_request t request d) image ≡ d
  unfolding after_sdo_request
  not_taken request d asleep = rw asleep refl

  pub nothing_read : (request : List ℕ) (d : Device) → is_in Stopped d ≡ true
      → reads (after_sdo_request t request d) image ≡ []
  unfolding after_sdo_request
  nothing_read request d asleep = rw asleep refl

  pub request_reads : (request : List ℕ) (d : Device) → is_in Stopped d ≡ false
      → reads (after_sdo_request t request d) image ≡ (Shape d.number, image (Shape d.number)) ∷ []
  unfolding after_sdo_request
  request_reads request d on = rw on refl

  -- what is the same device in Stopped, and keeps the state else
  silent_by : (d e : Device) (b : Bool) → is_in Stopped d ≡ b → (is_in Stopped d ≡ true → e ≡ d) → e.state ≡ d.state
      → IsSilent d → IsSilent e
  silent_by d e true s same state h = rw (same s) h
  silent_by d e false s same state h = elsewhere d e state s

  sync_silent : (bytes : List ℕ) (d : Device) → IsSilent d → IsSilent (outcome (after_sync t bytes d) image)
  sync_silent bytes d h = silent_by d _ (is_in Stopped d) refl (λ s. sync_ignored bytes d (not_operational d.state s))
      (sync_kept t (InState d.state) (state_kept t d.state) image bytes d refl) h

  pdo_silent : (frame : BaseFrame) (d : Device) → IsSilent d → IsSilent (outcome (after_pdo t frame d) image)
  pdo_silent frame d h = silent_by d _ (is_in Stopped d) refl (λ s. pdo_ignored frame d (not_operational d.state s))
      (pdo_kept t (InState d.state) (state_kept t d.state) image frame d refl) h

  request_silent : (request : List ℕ) (d : Device) → IsSilent d
      → IsSilent (outcome (after_sdo_request t request d) image)
  request_silent request d h = silent_by d _ (is_in Stopped d) refl (λ s. not_taken request d s)
      (request_kept t (InState d.state) (state_kept t d.state) image request d refl) h

  service_silent : (command : Option NmtCommand) (d : Device) → IsSilent d
      → IsSilent (outcome (nmt_service command t d) image)
  unfolding nmt_service
  service_silent None d h = h
  service_silent (Some Start) d h = λ s. not_both false refl s
  service_silent (Some Stop) d h = stop_is_silent d h
  service_silent (Some EnterPreOperational) d h = λ s. not_both false refl s
  service_silent (Some ResetNode) d h = booted_is_silent d.number _ (node_boots image t d)
  service_silent (Some ResetCommunication) d h = booted_is_silent d.number _ (communication_boots image t d)

  received_silent : (r : Reception) (frame : BaseFrame) (d : Device) → IsSilent d
      → IsSilent (outcome (after_reception r t frame d) image)
  unfolding after_reception
  received_silent Nothing frame d h = h
  received_silent (NmtService service) frame d h = service_silent (command_of service) d h
  received_silent Sync frame d h = sync_silent frame.bytes d h
  received_silent SdoRequest frame d h = request_silent frame.bytes d h
  received_silent (ErrorControl producer) frame d h = control_silent t producer d h
  received_silent Pdo frame d h = pdo_silent frame d h

  pub frame_is_silent : (frame : BaseFrame) (d : Device) → IsSilent d → IsSilent (outcome (after_frame t frame d) image)
  unfolding after_frame
  frame_is_silent frame d h = received_silent (reception frame d) frame d h

  pub power_is_silent : (on : Bool) (d : Device) → IsSilent d → IsSilent (outcome (after_power on t d) image)
  unfolding after_power
  power_is_silent on d h =
      picked image IsSilent on _ _
      (λ e. picked image IsSilent d.has_power _ _ (λ e. h) (λ e. booted_is_silent d.number _ (node_boots image t d)))
      (λ e. either IsSilent d.has_power _ d (λ e s. not_both false refl s) (λ e. h))

-- ---- what a device does of itself

all_told_silent : (count code : ℕ) (d : Device) → IsSilent d → IsSilent (with_emergencies count code d)
all_told_silent count code d h = either IsSilent (is_in Stopped d) d _ (λ b. h) (λ b. elsewhere d _ refl b)

failed_silent : (t count : ℕ) (d : Device) → IsSilent d → IsSilent (after_failures t count d)
failed_silent t count d h =
    let failed : Device = record d {
      consumers = consumers_after_time t d.consumers;
      values = with_error_bits d.learnt d.values;
    } in
    let told : Device = with_emergencies count 0x8130 failed in
    one_of IsSilent (is_in Operational told) _ told (λ s. not_both false refl s)
    (all_told_silent count 0x8130 failed (unchanged d failed refl refl refl h))

consumers_silent : (t : ℕ) (d : Device) → IsSilent d → IsSilent (after_consumers t d)
unfolding after_consumers
consumers_silent t d h =
    one_of IsSilent (nat_lt 0 (failures_at t d.consumers)) _ d (failed_silent t (failures_at t d.consumers) d h) h

heartbeat_silent : (t : ℕ) (d : Device) → IsSilent d → IsSilent (after_heartbeat t d)
unfolding after_heartbeat
heartbeat_silent t d h =
    one_of IsSilent (is_due t d.heartbeat) _ d
    (λ s. record {
      no_answer = replaced_all (λ w. is_unwanted Sdos w.purpose ≡ false) Heartbeat _ d.waiting refl (h s).no_answer;
      no_emergency = replaced_all (λ w. is_unwanted Emergencies w.purpose
          ≡ false) Heartbeat _ d.waiting refl (h s).no_emergency;
      closed = (h s).closed;
    }) h

tpdos_silent : (t : ℕ) (d : Device) → IsSilent d → IsSilent (after_tpdos t d)
unfolding after_tpdos
tpdos_silent t d h = either IsSilent (is_in Operational d) _ _ (λ b. elsewhere d _ refl (not_stopped d.state b))
    (λ b. unchanged d _ refl refl refl h)

pub instant_is_silent : (t : ℕ) (d : Device) → IsSilent d → IsSilent (after_instant t d)
unfolding after_instant after_timers
instant_is_silent t d h = tpdos_silent t _ (heartbeat_silent t _ (consumers_silent t d h))

pub sending_is_silent : (place : ℕ) (d : Device) → IsSilent d → IsSilent (record d { waiting = remove d.waiting place })
sending_is_silent place d h s = record {
  no_answer = fewer (λ w. is_unwanted Sdos w.purpose ≡ false) d.waiting (h s).no_answer;
  no_emergency = fewer (λ w. is_unwanted Emergencies w.purpose ≡ false) d.waiting (h s).no_emergency;
  closed = (h s).closed;
}
  where
    fewer : (P : Waiting → Type 0) (ws : List Waiting) → All P ws → All P (remove ws place)
    fewer P ws all = All-append P (take place ws) (drop (suc place) ws) (All-take P place ws all)
        (All-drop P (suc place) ws all)

-- ---- the services of a reset, by their messages

addressed : (number node : ℕ) → (node ≡ 0) ⊎ (node ≡ number) → (node == 0) || (node == number) ≡ true
addressed number node (inl e) = grind (arith, nat_tests)
addressed number node (inr e) = grind (arith, nat_tests)

message_is : (image : Image) (t command node : ℕ) (d : Device) → d.has_power ≡ true → (node ≡ 0) ⊎ (node ≡ d.number)
    → outcome (after_frame t (nmt_message command node) d) image ≡ outcome (nmt_service (command_of command) t d) image
unfolding after_frame after_reception reception reception_with_power
message_is image t command node d on to = rw (on, addressed d.number node to) refl

module _ (image : Image) (t node : ℕ) (d : Device) (on : d.has_power ≡ true) (to : (node ≡ 0) ⊎ (node ≡ d.number)) where
  pub reset_node_boots : HasBooted d.number (outcome (after_frame t (nmt_message 129 node) d) image)
  unfolding nmt_service
  reset_node_boots = rw (message_is image t 129 node d on to) (node_boots image t d)

  pub reset_communication_boots : HasBooted d.number (outcome (after_frame t (nmt_message 130 node) d) image)
  unfolding nmt_service
  reset_communication_boots = rw (message_is image t 130 node d on to) (communication_boots image t d)

-- ---- Operational is left

all_forgotten : (tpdos : List TpdoState)
    → AllByRecursion (λ p. p.remembered ≡ remembering_nothing) (map without_memory tpdos)
all_forgotten [] = tt
all_forgotten (p ∷ tpdos) = (refl, all_forgotten tpdos)

all_emptied : (rpdos : List RpdoState) → AllByRecursion (λ p. p.kept ≡ None) (map without_kept_frame rpdos)
all_emptied [] = tt
all_emptied (p ∷ rpdos) = (refl, all_emptied rpdos)

leaving : (d : Device) → is_in Operational d ≡ true → HasNoPdo (out_of_operational d)
unfolding out_of_operational without_memories without_kept_frames
leaving d e =
    either HasNoPdo (is_in Operational d) _ d (λ b. record {
      no_tpdo = dropped Tpdos d.waiting;
      nothing_remembered = all_forgotten d.tpdos;
      nothing_kept = all_emptied d.rpdos;
    }) (λ b. not_both _ b e)

pub entering_leaves_no_pdo : (d : Device) → is_in Operational d ≡ true → HasNoPdo (enter_pre_operational d)
entering_leaves_no_pdo d e = let left = leaving d e
    in record { no_tpdo = left.no_tpdo; nothing_remembered = left.nothing_remembered; nothing_kept = left.nothing_kept }

pub stopping_leaves_no_pdo : (d : Device) → is_in Operational d ≡ true → HasNoPdo (stop_remote_node d)
stopping_leaves_no_pdo d e =
    let left = leaving d e in
    let none = still (λ w. is_unwanted Tpdos w.purpose ≡ false) in
    either HasNoPdo (is_in Stopped d) d _ (λ s. not_both _ (not_stopped d.state e) s)
    (λ s. record {
      no_tpdo = none Emergencies _ (none Sdos _ left.no_tpdo);
      nothing_remembered = left.nothing_remembered;
      nothing_kept = left.nothing_kept;
    })

-- ---- a consumer fails

pub a_failure_in_stopped : (t : ℕ) (d : Device) → is_in Stopped d ≡ true → nat_lt 0 (failures_at t d.consumers) ≡ true
    → ((after_consumers t d).waiting ≡ d.waiting) × ((after_consumers t d).values ≡ with_error_bits d.learnt d.values)
unfolding after_consumers
a_failure_in_stopped t d asleep some = rw (some, asleep, not_operational d.state asleep) (refl, refl)

pub a_failure_leaves_operational : (t : ℕ) (d : Device) → nat_lt 0 (failures_at t d.consumers) ≡ true
    → is_in Operational (after_consumers t d) ≡ false
unfolding after_consumers
a_failure_leaves_operational t d some =
    let failed : Device = record d {
      consumers = consumers_after_time t d.consumers;
      values = with_error_bits d.learnt d.values;
    } in
    let told : Device = with_emergencies (failures_at t d.consumers) 0x8130 failed in
    either (λ e. is_in Operational e ≡ false) (nat_lt 0 (failures_at t d.consumers)) _ d
    (λ e. either (λ e. is_in Operational e ≡ false) (is_in Operational told) _ told (λ b. refl) (λ b. b))
    (λ e. not_both _ e some)

pub no_sync_is_left : (t : ℕ) (d : Device) → (after_instant t d).synced ≡ None
unfolding after_instant after_tpdos
no_sync_is_left t d = one_of (λ e. e.synced ≡ None) (is_in Operational (after_timers t d)) _ _ refl refl

-- ---- what an RPDO reads

module _ (image : Image) (t : ℕ) (frame : BaseFrame) (i : ℕ) (d : Device) where
  pub a_keeper_reads_nothing : receipt_of frame (rpdo_at d.rpdos i).configuration ≡ Kept
      → reads (after_rpdo t frame i d) image ≡ []
  unfolding after_rpdo after_receipt
  a_keeper_reads_nothing e = rw e refl

  pub an_application_reads_entries_once : receipt_of frame (rpdo_at d.rpdos i).configuration ≡ AtOnce
      → reads (after_rpdo t frame i d) image ≡ (Shape d.number, image (Shape d.number)) ∷ []
  unfolding after_rpdo after_receipt after_mapping
  an_application_reads_entries_once e = rw e refl
