-- What the device holds that the manager runs in: its writes, through all that is done to one device.
use Rattle.std.proofs.Common.{◌≡◌, ◌≢◌, ℕ, ◌+◌, ◌<◌, Bool, true, false, List, [], Option, Some, None}
use Rattle.std.proofs.Common.{◌⊎◌, inl, inr, refl, sym, ap, ◌∙◌, subst, arith}
use Rattle.std.specs.Prelude.{◌==◌, ◌&&◌, ◌-◌, if◌then◌else◌, length, slice_index_or}
use Rattle.std.specs.FinMap.{get}
use Rattle.std.proofs.lemmas.Bool.{eqb-true, false≢true}
use Rattle.std.proofs.lemmas.List.Elements.{All-nil}
use Rattle.base.specs.Ranges.{is_between}
use Rattle.can_bus.specs.Bus.{delivered_of}
use Rattle.can_bus.specs.declared.slot.Slot.{Slot}
use Rattle.can_frame.specs.Frames.{BaseFrame}
use Rattle.can_frame.specs.Identifiers.{error_control_id, nmt_id, sdo_request_id, sync_id, time_id}
use Rattle.can_frame.specs.Senders.{device_sender, manager_sender}
use Rattle.can_frame.specs.declared.purpose.Purpose.{Purpose}
use Rattle.can_frame.specs.declared.purpose.Purpose.TheVariants.{BootUp, Emergency, Heartbeat, Nmt, Sdo, Sync, Time, Tpdo}
use Rattle.cia301.specs.CobIds.{is_restricted}
use Rattle.cia301.specs.Limits.{IsNodeNumber}
use Rattle.co_device.proofs.ReceptionLemmas.{Says, reception_says}
use Rattle.co_device.specs.Device.{Device, after_error_control, after_instant, after_power, after_reset_node, after_set}
use Rattle.co_device.specs.Device.{after_initialisation, enter_pre_operational, nmt_service, reset_communication}
use Rattle.co_device.specs.Device.{start_remote_node, stop_remote_node, without_power}
use Rattle.co_device.specs.Receiving.{after_frame, after_pdo, after_reception, after_sync, reception}
use Rattle.co_dict.specs.Values.{Values}
use Rattle.co_scenario.specs.Commands.{command_of}
use Rattle.co_scenario.specs.declared.nmt_command.NmtCommand.{NmtCommand}
use Rattle.co_scenario.specs.declared.nmt_command.NmtCommand.TheVariants.{Start, Stop, EnterPreOperational, ResetNode}
use Rattle.co_scenario.specs.declared.nmt_command.NmtCommand.TheVariants.{ResetCommunication}
use Rattle.device_agenda.specs.Agenda.{hears}
use Rattle.device_objects.specs.Profile.{sync_identifier}
use Rattle.device_objects.specs.Reception.{is_addressed, is_error_control, reception_with_power}
use Rattle.device_objects.specs.declared.reception.Reception.{Reception}
use Rattle.device_objects.specs.declared.reception.Reception.TheVariants.{Nothing, NmtService, SdoRequest}
use Rattle.device_objects.specs.declared.reception.Reception.TheVariants.{ErrorControl, Pdo}
use Rattle.device_objects.specs.declared.reception.Reception.TheVariants as received
use Rattle.image_parts.specs.Asking.{Answer, outcome}
use Rattle.image_parts.specs.Configured.{Configures, HoldsItsWrites, producer_time}
use Rattle.image_parts.specs.Contents.{Image, values_of}
use Rattle.image_parts.specs.declared.part.Part.TheVariants.{Defaults}
use Rattle.image_parts.specs.declared.roster.Roster.{Roster}
use Rattle.network_laws.specs.Files.{HasData, IsExcepted}
use Rattle.network_laws.specs.Leaves.{LeavesServer}
use Rattle.network_laws.specs.Marks.{written_by_frame}
use Rattle.network_laws.specs.Own.{IsOwnFrame}
use Rattle.network_laws.specs.Requests.{AreOthers, IsManagersFrame}
use Rattle.network_laws.specs.Since.{is_restored_by, restores}
use Rattle.network_laws.specs.Writes.{writes_of_frame, writes_of_pdo, writes_of_reception, writes_of_set, writes_of_sync}
use Rattle.network_laws.specs.Written.{AreOf, AreStored, NoneBySdo, Written, error_register}
use Rattle.network_laws.proofs.LeaveLemmas.{control_left, entered_left, left_alone, left_itself, settled, stopped_left}
use Rattle.network_laws.proofs.ListLemmas.{place_or_not}
use Rattle.network_laws.proofs.MarkLemmas.{IsWritten, stays_marked, told, written_is_marked}
use Rattle.network_laws.proofs.Others.{frame_writes_own, instant_leaves, set_leaves, set_writes_own}
use Rattle.network_laws.proofs.ResetLemmas.{communication_values, node_values}
use Rattle.network_laws.proofs.RosterLemmas.{IsItsAnswer, IsItsBootUp, IsNone, IsSent, IsToIt, Kind, kind_of, two_senders}
use Rattle.network_laws.proofs.RpdoWrites.{pdo_leaves, sync_leaves}
use Rattle.network_laws.proofs.StateLemmas.{communication_boots, node_boots}
use Rattle.network_laws.proofs.ValueLemmas.{changed_by}
use Rattle.network_laws.proofs.WaitingLemmas.{number_differs, number_other}

-- the device has power, and holds at each entry of its writes the data of the last one: the producer heartbeat time and
-- the exceptions aside
pub record Holds (image : Image) (node : ℕ) (marks : ℕ × ℕ → Bool) (d : Device) : Type 0 where
  pub has_power : d.has_power ≡ true
  pub entries : (place : ℕ × ℕ) (bytes : List ℕ) → place ≢ producer_time → Configures image node place bytes
      → IsExcepted marks place ⊎ HasData d.values place bytes

-- ---- a frame that has its entries take their defaults again

-- as what the frame is to the device
abbrev restored_as : Reception → ℕ × ℕ → Bool
restored_as Nothing place = false
restored_as (NmtService service) place = is_restored_by (command_of service) place
restored_as received.Sync place = false
restored_as SdoRequest place = false
restored_as (ErrorControl producer) place = false
restored_as Pdo place = false

by_tests : (a b c e f g : Bool) (service producer : ℕ) (place : ℕ × ℕ)
    → (a && (b && is_restored_by (command_of service) place))
    ≡ restored_as (if a then (if b then NmtService service else Nothing)
    else if c then received.Sync
    else if e then SdoRequest
    else if f then (if g then Nothing else ErrorControl producer)
    else Pdo) place
by_tests true true c e f g service producer place = refl
by_tests true false c e f g service producer place = refl
by_tests false b true e f g service producer place = refl
by_tests false b false true f g service producer place = refl
by_tests false b false false true true service producer place = refl
by_tests false b false false true false service producer place = refl
by_tests false b false false false g service producer place = refl

restores_as : (frame : BaseFrame) (d : Device) → d.has_power ≡ true → (place : ℕ × ℕ)
    → restores d.number place frame ≡ restored_as (reception frame d) place
unfolding reception reception_with_power
restores_as frame d on place =
    by_tests (frame.id == nmt_id) (is_addressed d.number frame.bytes) (frame.id == sync_identifier d.learnt d.values)
    ((frame.id == sdo_request_id d.number) && (length frame.bytes == 8)) (is_error_control frame)
    ((frame.id - error_control_id 0) == d.number) (slice_index_or frame.bytes 0 0) (frame.id - error_control_id 0)
    place
    ∙ ap (λ (b : Bool). restored_as
    (if b then reception_with_power d.number (sync_identifier d.learnt d.values) frame else Nothing) place) (sym on)

-- none but a command does
none_restored : (node : ℕ) (place : ℕ × ℕ) (frame : BaseFrame) → frame.id ≢ nmt_id → restores node place frame ≡ false
none_restored node place frame other =
    ap (λ (b : Bool). b && (is_addressed node frame.bytes
    && is_restored_by (command_of (slice_index_or frame.bytes 0 0)) place)) (number_other frame.id nmt_id other)

-- ---- what a device sends, and what the manager sends to its own node

above : (base k id : ℕ) → id ≡ base + k → 0 < base → id ≢ 0
above base k id e more zero_is = omega (arith, e, more, zero_is)

command_restricted : is_restricted nmt_id ≡ true
unfolding is_restricted
command_restricted = refl

commands_nothing : (k : ℕ) (p : Purpose) (frame : BaseFrame) → IsOwnFrame k p frame → frame.id ≢ nmt_id
commands_nothing k BootUp frame h =
    above 0x700 k frame.id (ap (λ (x : BaseFrame). x.id) h) (omega arith)
commands_nothing k Heartbeat frame h = above 0x700 k frame.id h.0 (omega arith)
commands_nothing k (Tpdo number) frame h = λ e. false≢true (sym h ∙ ap is_restricted e ∙ command_restricted)
commands_nothing k (Sdo node) frame h = above 0x580 k frame.id h (omega arith)
commands_nothing k Emergency frame h = above 0x080 k frame.id h (omega arith)
commands_nothing k Sync frame h = absurd h
commands_nothing k Time frame h = absurd h
commands_nothing k Nmt frame h = absurd h

own_commands_nothing : (roster : Roster) (node : ℕ) (slot : Slot) → IsSent roster slot
    → slot.sender ≡ device_sender node → slot.frame.id ≢ nmt_id
own_commands_nothing roster node slot (inl sent) e = absurd (two_senders node roster.manager (sym e ∙ sent.0))
own_commands_nothing roster node slot (inr sent) e = commands_nothing sent.0 sent.1.1.1.0 slot.frame sent.1.1.1.1

-- the manager asks its own node nothing
unasked : (manager : ℕ) (nodes : List ℕ) (p : Purpose) (frame : BaseFrame) → IsManagersFrame manager nodes p frame
    → frame.id ≢ sdo_request_id manager
unasked manager nodes BootUp frame h e = control h.0.0 e
  where
    control : frame.id ≡ error_control_id manager → frame.id ≡ sdo_request_id manager → ⊥
    control x y = omega (arith, x, y)
unasked manager nodes Heartbeat frame h e = control h.0 e
  where
    control : frame.id ≡ error_control_id manager → frame.id ≡ sdo_request_id manager → ⊥
    control x y = omega (arith, x, y)
unasked manager nodes (Tpdo number) frame h e = absurd h
unasked manager nodes (Sdo node) frame h e = h.1.0 (same h.1.1 e)
  where
    same : frame.id ≡ sdo_request_id node → frame.id ≡ sdo_request_id manager → node ≡ manager
    same x y = omega (arith, x, y)
unasked manager nodes Emergency frame h e = absurd h
unasked manager nodes Sync frame h e = low h e
  where
    low : frame.id ≡ sync_id → frame.id ≡ sdo_request_id manager → ⊥
    low x y = omega (arith, x, y)
unasked manager nodes Time frame h e = low h e
  where
    low : frame.id ≡ time_id → frame.id ≡ sdo_request_id manager → ⊥
    low x y = omega (arith, x, y)
unasked manager nodes Nmt frame h e = low h e
  where
    low : frame.id ≡ nmt_id → frame.id ≡ sdo_request_id manager → ⊥
    low x y = omega (arith, x, y)

module _ (roster : Roster) (slot : Slot) (is : IsNodeNumber roster.manager) where
  unasked_by : IsSent roster slot → slot.sender ≡ manager_sender roster.manager
      → slot.frame.id ≢ sdo_request_id roster.manager
  unasked_by (inl sent) from = unasked roster.manager roster.nodes sent.1.0 slot.frame sent.1.1
  unasked_by (inr sent) from = absurd (two_senders sent.0 roster.manager (sym sent.1.0 ∙ from))

  by_kind : IsSent roster slot → slot.sender ≢ device_sender roster.manager → Kind roster roster.manager is slot
      → slot.frame.id ≢ sdo_request_id roster.manager
  by_kind sent other (IsItsBootUp from_node b) = absurd (other from_node)
  by_kind sent other (IsItsAnswer from_node id) = absurd (other from_node)
  by_kind sent other (IsToIt apart from_manager id) = unasked_by sent from_manager
  by_kind sent other (IsNone foreign) = foreign.no_request

  -- what the device hears is no request
  hears_no_request : (AreOthers roster.manager roster.nodes → roster.manager ≢ roster.manager) → IsSent roster slot
      → slot.sender ≢ device_sender roster.manager → slot.frame.id ≢ sdo_request_id roster.manager
  hears_no_request others sent other =
      by_kind sent other (kind_of roster roster.manager is others slot is sent)

-- ---- one device

module _ (image : Image) (node : ℕ) where
  abbrev Is : (ℕ × ℕ → Bool) → Values → ℕ × ℕ → List ℕ → Type 0
  Is marks values place bytes = IsExcepted marks place ⊎ HasData values place bytes

  nothing_of : AreOf node []
  nothing_of = All-nil (λ (w : Written). w.node ≡ node)

  -- where others than the SDO server write, an entry that changes is marked
  module _ (marks after : ℕ × ℕ → Bool) (before left : Values) (writes : List Written)
      (stored : AreStored writes before left) (none : NoneBySdo writes) (own : AreOf node writes) (place : ℕ × ℕ)
      (bytes : List ℕ) (now : after place ≡ told (marks place) writes node place) where
    changed : HasData before place bytes → (get left place ≡ get before place) ⊎ IsWritten place writes
        → Is after left place bytes
    changed held (inl same) = inr (same ∙ held)
    changed held (inr written) =
        inl (inr (now ∙ written_is_marked node place writes none own written (marks place)))

    by_place : (place ≡ error_register) ⊎ (place ≢ error_register) → Is marks before place bytes
        → Is after left place bytes
    by_place (inl e) h = inl (inl e)
    by_place (inr apart) (inl (inl e)) = inl (inl e)
    by_place (inr apart) (inl (inr e)) =
        inl (inr (now ∙ ap (λ (b : Bool). told b writes node place) e ∙ stays_marked node place writes none))
    by_place (inr apart) (inr held) = changed held (changed_by writes before left stored place apart)

    entry_left : Is marks before place bytes → Is after left place bytes
    entry_left h = by_place (place_or_not place error_register) h

  left_holds : (marks after : ℕ × ℕ → Bool) (d e : Device) (writes : List Written)
      → ((place : ℕ × ℕ) → after place ≡ told (marks place) writes node place) → AreOf node writes
      → LeavesServer writes d e → Holds image node marks d → Holds image node after e
  left_holds marks after d e writes now own l h = record {
    has_power = l.has_power ∙ h.has_power;
    entries = λ place bytes apart c.
        entry_left marks after d.values e.values writes l.values l.by_others own place bytes (now place)
        (h.entries place bytes apart c);
  }

  -- ---- the application sets an entry, and the device goes on by itself

  pub set_holds : (t : ℕ) (marks after : ℕ × ℕ → Bool) (place : ℕ × ℕ) (bytes : List ℕ) (d : Device) → d.number ≡ node
      → ((q : ℕ × ℕ) → after q ≡ told (marks q) (writes_of_set place bytes d) node q) → Holds image node marks d
      → Holds image node after (after_set t place bytes d)
  set_holds t marks after place bytes d of_node now h =
      left_holds marks after d (after_set t place bytes d) (writes_of_set place bytes d) now
      (subst (λ k. AreOf k (writes_of_set place bytes d)) of_node (set_writes_own place bytes d))
      (set_leaves t place bytes d) h

  pub same_holds : (marks after : ℕ × ℕ → Bool) (d : Device) → ((place : ℕ × ℕ) → after place ≡ marks place)
      → Holds image node marks d → Holds image node after d
  same_holds marks after d now h = left_holds marks after d d [] now nothing_of (left_itself d) h

  pub instant_holds : (t : ℕ) (marks : ℕ × ℕ → Bool) (d : Device) → Holds image node marks d
      → Holds image node marks (after_instant t d)
  instant_holds t marks d h =
      left_holds marks marks d (after_instant t d) [] (λ place. refl) nothing_of (instant_leaves t d) h

  -- ---- a frame that the device hears

  module _ (holding : HoldsItsWrites image node) (marks after : ℕ × ℕ → Bool) (t : ℕ) (d : Device)
      (of_node : d.number ≡ node) (h : Holds image node marks d) where
    default_is : (place : ℕ × ℕ) (bytes : List ℕ) → place ≢ producer_time → Configures image node place bytes
        → get (values_of (image (Defaults d.number))) place ≡ Some bytes
    default_is place bytes apart c =
        ap (λ (k : ℕ). get (values_of (image (Defaults k))) place) of_node ∙ holding.written place bytes apart c

    by_area : (place : ℕ × ℕ) (bytes : List ℕ) (values : Values) (b : Bool)
        → get values place
        ≡ (if b then get (values_of (image (Defaults d.number))) place else get d.values place)
        → after place ≡ (if b then false else marks place)
        → get (values_of (image (Defaults d.number))) place ≡ Some bytes → Is marks d.values place bytes
        → Is after values place bytes
    by_area place bytes values true same now default before = inr (same ∙ default)
    by_area place bytes values false same now default (inl (inl e)) = inl (inl e)
    by_area place bytes values false same now default (inl (inr e)) = inl (inr (now ∙ e))
    by_area place bytes values false same now default (inr held) = inr (same ∙ held)

    nothing_left : (e : Device) → LeavesServer [] d e → ((place : ℕ × ℕ) → after place ≡ marks place)
        → Holds image node after e
    nothing_left e l now = left_holds marks after d e [] now nothing_of l h

    service_holds : (command : Option NmtCommand)
        → ((place : ℕ × ℕ) → after place ≡ (if is_restored_by command place then false else marks place))
        → Holds image node after (outcome (nmt_service command t d) image)
    unfolding nmt_service
    service_holds None now = nothing_left d (left_itself d) now
    service_holds (Some Start) now =
        nothing_left (start_remote_node d)
        (left_alone d (start_remote_node d) (settled d (start_remote_node d) refl refl refl refl)) now
    service_holds (Some Stop) now = nothing_left (stop_remote_node d) (stopped_left d) now
    service_holds (Some EnterPreOperational) now = nothing_left (enter_pre_operational d) (entered_left d) now
    service_holds (Some ResetNode) now =
        let booted = node_boots image t d in
        record {
          has_power = booted.has_power;
          entries = λ place bytes apart c.
              inr (ap (λ (values : Values). get values place) (node_values image t d)
              ∙ default_is place bytes apart c);
        }
    service_holds (Some ResetCommunication) now =
        let booted = communication_boots image t d in
        record {
          has_power = booted.has_power;
          entries = λ place bytes apart c.
              by_area place bytes (outcome (reset_communication t d) image).values (is_between 0x1000 0x1FFF place.0)
              (communication_values image t d place) (now place) (default_is place bytes apart c)
              (h.entries place bytes apart c);
        }

    module _ (frame : BaseFrame) (no_request : frame.id ≢ sdo_request_id node) where
      received_holds : (r : Reception) → Says r frame d → AreOf node (writes_of_reception r image t frame d)
          → ((place : ℕ × ℕ) → after place
          ≡ (if restored_as r place then false
          else told (marks place) (writes_of_reception r image t frame d) node place))
          → Holds image node after (outcome (after_reception r t frame d) image)
      unfolding after_reception writes_of_reception
      received_holds Nothing said own now = nothing_left d (left_itself d) now
      received_holds (NmtService service) said own now = service_holds (command_of service) now
      received_holds received.Sync said own now =
          left_holds marks after d (outcome (after_sync t frame.bytes d) image) (writes_of_sync image t frame.bytes d)
          now own (sync_leaves image t frame.bytes d) h
      received_holds SdoRequest said own now = absurd (no_request (said.is_request ∙ ap sdo_request_id of_node))
      received_holds (ErrorControl producer) said own now =
          nothing_left (after_error_control t producer d) (control_left t producer d) now
      received_holds Pdo said own now =
          left_holds marks after d (outcome (after_pdo t frame d) image) (writes_of_pdo image t frame d) now own
          (pdo_leaves image t frame d) h

      restores_so : (place : ℕ × ℕ) → restores node place frame ≡ restored_as (reception frame d) place
      restores_so place =
          ap (λ (k : ℕ). restores k place frame) (sym of_node) ∙ restores_as frame d h.has_power place

      frame_holds : ((place : ℕ × ℕ) → after place
          ≡ (if restores node place frame then false
          else told (marks place) (writes_of_frame image t frame d) node place))
          → Holds image node after (outcome (after_frame t frame d) image)
      unfolding after_frame writes_of_frame
      frame_holds now =
          received_holds (reception frame d) (reception_says frame d)
          (subst (λ k. AreOf k (writes_of_frame image t frame d)) of_node (frame_writes_own image t frame d))
          (λ place. now place
          ∙ ap (λ (b : Bool). if b then false
          else told (marks place) (writes_of_reception (reception frame d) image t frame d) node place)
          (restores_so place))

-- ---- the device that the manager runs in, and the frame whose slot ends

module _ (image : Image) (roster : Roster) (is : IsNodeNumber roster.manager)
    (holding : HoldsItsWrites image roster.manager) (slot : Slot) (sent : IsSent roster slot)
    (others : AreOthers roster.manager roster.nodes → roster.manager ≢ roster.manager) where
  pub heard_holds : (t : ℕ) (marks after : ℕ × ℕ → Bool) (d : Device) → d.number ≡ roster.manager
      → ((place : ℕ × ℕ) → after place
      ≡ (if restores roster.manager place slot.frame then false
      else told (marks place) (written_by_frame image t slot d) roster.manager place))
      → Holds image roster.manager marks d
      → Holds image roster.manager after (outcome (hears t (delivered_of slot) d) image)
  unfolding hears
  heard_holds t marks after d of_node now h = by (device_sender d.number == slot.sender) refl now
    where
      its : (device_sender d.number == slot.sender) ≡ true → slot.sender ≡ device_sender roster.manager
      its e = sym (eqb-true (device_sender d.number) slot.sender e) ∙ ap device_sender of_node

      other : (device_sender d.number == slot.sender) ≡ false → slot.sender ≢ device_sender roster.manager
      other e same = number_differs (device_sender d.number) slot.sender e (ap device_sender of_node ∙ sym same)

      by : (b : Bool) → (device_sender d.number == slot.sender) ≡ b
          → ((place : ℕ × ℕ) → after place
          ≡ (if restores roster.manager place slot.frame then false
          else told (marks place) (if b then [] else writes_of_frame image t slot.frame d) roster.manager place))
          → Holds image roster.manager after (outcome (if b then Answer d else after_frame t slot.frame d) image)
      by true e told_so =
          same_holds image roster.manager marks after d
          (λ place. told_so place
          ∙ ap (λ (b : Bool). if b then false else marks place)
          (none_restored roster.manager place slot.frame
          (own_commands_nothing roster roster.manager slot sent (its e)))) h
      by false e told_so =
          frame_holds image roster.manager holding marks after t d of_node h slot.frame
          (hears_no_request roster slot is others sent (other e)) told_so

-- ---- at the power-on

pub first_holds : (image : Image) (node : ℕ) → HoldsItsWrites image node → (marks : ℕ × ℕ → Bool) (k : ℕ)
    → (outcome (after_power true 0 (without_power false k)) image).number ≡ node
    → Holds image node marks (outcome (after_power true 0 (without_power false k)) image)
unfolding after_power after_reset_node after_initialisation
first_holds image node holding marks k e = record {
  has_power = refl;
  entries = λ place bytes apart c.
      inr (ap (λ (n : ℕ). get (values_of (image (Defaults n))) place) e ∙ holding.written place bytes apart c);
}
