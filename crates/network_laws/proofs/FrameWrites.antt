-- What frames and the switch write.
use Rattle.std.proofs.Common.{◌≡◌, ◌⊎◌, inl, inr, ℕ, Bool, true, false, List, [], ◌∷◌, ◌++◌, Option, Some, None}
use Rattle.std.proofs.Common.{refl, ap, sym, subst, ◌∙◌}
use Rattle.std.specs.Prelude.{MatchOption, Ok, if◌then◌else◌}
use Rattle.std.specs.FinMap.{empty, insert}
use Rattle.std.specs.Option.{unwrap_or}
use Rattle.std.proofs.lemmas.List.Elements.{All-map}
use Rattle.image_parts.specs.Asking.{Answer, outcome}
use Rattle.can_frame.specs.Frames.{BaseFrame}
use Rattle.can_frame.specs.Identifiers.{sdo_request_id}
use Rattle.image_parts.specs.Contents.{Image, shape_of, values_of}
use Rattle.image_parts.specs.declared.part.Part.TheVariants.{Defaults, Shape}
use Rattle.co_scenario.specs.Commands.{command_of}
use Rattle.co_scenario.specs.declared.nmt_command.NmtCommand.{NmtCommand}
use Rattle.co_scenario.specs.declared.nmt_command.NmtCommand.TheVariants.{Start, Stop, EnterPreOperational, ResetNode}
use Rattle.co_scenario.specs.declared.nmt_command.NmtCommand.TheVariants.{ResetCommunication}
use Rattle.co_dict.proofs.PlaceLemmas.{written_there}
use Rattle.co_dict.specs.Shapes.{Shaped}
use Rattle.co_dict.specs.Values.{Values, bytes_at}
use Rattle.co_dict.specs.WriteCheck.{write_check}
use Rattle.co_sdo.proofs.WroteLaws.{wrote_one}
use Rattle.co_sdo.specs.Server.{AfterRequest}
use Rattle.co_device.specs.Device.{Device, after_power, after_reset_node, after_sdo_request, after_server_write}
use Rattle.co_device.specs.Device.{answer_frames, without_power, is_in, nmt_service, start_remote_node}
use Rattle.co_device.specs.Receiving.{after_frame, after_reception, reception}
use Rattle.co_device.proofs.ReceptionLemmas.{Says, reception_says}
use Rattle.cia301.specs.declared.nmt_state.NmtState.TheVariants.{Operational, Stopped}
use Rattle.network_laws.specs.States.{HasBooted}
use Rattle.device_agenda.proofs.CaseLemmas.{either, picked}
use Rattle.network_laws.proofs.ResetLemmas.{node_values}
use Rattle.network_laws.proofs.StateLemmas.{communication_boots, node_boots}
use Rattle.device_objects.specs.declared.reception.Reception.{Reception}
use Rattle.device_objects.specs.declared.reception.Reception.TheVariants.{Nothing, NmtService, Sync, SdoRequest}
use Rattle.device_objects.specs.declared.reception.Reception.TheVariants.{ErrorControl, Pdo}
use Rattle.network_laws.specs.Leaves.{LeavesServer, ServesRequest, answer_to_request}
use Rattle.network_laws.specs.Writes.{writes_of_frame, writes_of_pdo, writes_of_request, writes_of_set}
use Rattle.network_laws.specs.Writes.{writes_of_sync, writes_of_answer, writes_told, writes_of_reception}
use Rattle.network_laws.specs.Written.{AgreeButRegister, AreOf, EntryValue, Event, Rpdo, Sdo, Writer, Written}
use Rattle.network_laws.specs.Written.{with_writes, written_by}
use Rattle.network_laws.proofs.LeaveLemmas.{control_left, entered_left, left_alone, left_itself, server_write_settles}
use Rattle.network_laws.proofs.LeaveLemmas.{settled, stopped_left}
use Rattle.network_laws.proofs.RpdoWrites.{both, pdo_leaves, sync_leaves}

-- ---- the three ways

data Took (image : Image) (frame : BaseFrame) (d : Device) (ws : List Written) (e : Device) : Type 0 where
  Booted : HasBooted d.number e → ws ≡ [] → Took image frame d ws e
  Served : ServesRequest image frame ws d e → Took image frame d ws e
  Left : LeavesServer ws d e → Took image frame d ws e

-- ---- the SDO server

-- the write that the server tells is stored
told_stored : (shape : Shaped) (number : ℕ) (wrote : Option (ℕ × ℕ)) (before after : Values)
    → MatchOption wrote (after ≡ before)
    (λ place. (bytes : List ℕ) × ((write_check shape before place bytes ≡ Ok tt)
    × (after ≡ insert before place bytes)))
    → with_writes (writes_told number after wrote) before ≡ after
told_stored shape number None before after h = sym h
told_stored shape number (Some place) before after h =
    ap (insert before place)
    (ap (λ (v : Values). bytes_at v place) h.1.1
    ∙ ap (λ (o : Option (List ℕ)). unwrap_or o []) (written_there before place h.0))
    ∙ sym h.1.1

module _ (image : Image) (t : ℕ) (frame : BaseFrame) (d : Device) where
  abbrev Ways : List Written → Device → Type 0
  Ways ws e = Took image frame d ws e

  request_serves : frame.id ≡ sdo_request_id d.number
      → ServesRequest image frame (writes_of_answer d.number (answer_to_request image frame.bytes d)) d
      (after_server_write t (shape_of (image (Shape d.number))) (answer_to_request image frame.bytes d).wrote (record d {
        values = (answer_to_request image frame.bytes d).values;
        transfer = (answer_to_request image frame.bytes d).transfer;
        waiting = d.waiting ++ answer_frames d.number (answer_to_request image frame.bytes d).answer;
      }))
  request_serves is_request =
      let s : AfterRequest = answer_to_request image frame.bytes d in
      let shape : Shaped = shape_of (image (Shape d.number)) in
      let answered : Device = record d {
        values = s.values;
        transfer = s.transfer;
        waiting = d.waiting ++ answer_frames d.number s.answer;
      } in
      let h = server_write_settles t shape s.wrote answered in
      record {
        is_request = is_request;
        has_power = h.has_power;
        written = refl;
        stored = subst (λ (v : Values). AgreeButRegister v (after_server_write t shape s.wrote answered).values)
            (sym (told_stored shape d.number s.wrote d.values s.values
            (wrote_one shape d.values d.transfer frame.bytes))) h.values;
        values = h.values;
        transfer = h.transfer;
        waits = h.waiting;
      }

  request_takes : frame.id ≡ sdo_request_id d.number
      → Ways (writes_of_request image frame.bytes d) (outcome (after_sdo_request t frame.bytes d) image)
  unfolding after_sdo_request writes_of_request
  request_takes is_request = both image (Took image frame d) (is_in Stopped d) _ _ _ _ (λ e. Left (left_itself d))
      (λ e. Served (request_serves is_request))

  -- ---- NMT services

  service_takes : (command : Option NmtCommand) → Ways [] (outcome (nmt_service command t d) image)
  unfolding nmt_service
  service_takes None = Left (left_itself d)
  service_takes (Some Start) = Left (left_alone d (start_remote_node d) (settled d (start_remote_node d) refl refl refl refl))
  service_takes (Some Stop) = Left (stopped_left d)
  service_takes (Some EnterPreOperational) = Left (entered_left d)
  service_takes (Some ResetNode) = Booted (node_boots image t d) refl
  service_takes (Some ResetCommunication) = Booted (communication_boots image t d) refl

  -- ---- all frames

  received_takes : (r : Reception) → Says r frame d
      → Ways (writes_of_reception r image t frame d) (outcome (after_reception r t frame d) image)
  unfolding after_reception writes_of_reception
  received_takes Nothing said = Left (left_itself d)
  received_takes (NmtService service) said = service_takes (command_of service)
  received_takes Sync said = Left (sync_leaves image t frame.bytes d)
  received_takes SdoRequest said = request_takes said.is_request
  received_takes (ErrorControl producer) said = Left (control_left t producer d)
  received_takes Pdo said = Left (pdo_leaves image t frame d)

  frame_takes : Ways (writes_of_frame image t frame d) (outcome (after_frame t frame d) image)
  unfolding after_frame writes_of_frame
  frame_takes = received_takes (reception frame d) (reception_says frame d)

  pub frame_in_ways : (HasBooted d.number (outcome (after_frame t frame d) image)
      × (writes_of_frame image t frame d ≡ []))
      ⊎ (ServesRequest image frame (writes_of_frame image t frame d) d (outcome (after_frame t frame d) image)
      ⊎ LeavesServer (writes_of_frame image t frame d) d (outcome (after_frame t frame d) image))
  frame_in_ways = by frame_takes
    where
      by : {ws : List Written} {e : Device} → Took image frame d ws e
          → (HasBooted d.number e × (ws ≡ [])) ⊎ (ServesRequest image frame ws d e ⊎ LeavesServer ws d e)
      by (Booted h none) = inl (h, none)
      by (Served h) = inr (inl h)
      by (Left h) = inr (inr h)

-- ---- the switch

pub power_in_ways : (image : Image) (t : ℕ) (on : Bool) (d : Device)
    → HasBooted d.number (outcome (after_power on t d) image)
    ⊎ ((outcome (after_power on t d) image ≡ d) ⊎ ((outcome (after_power on t d) image).has_power ≡ false))
unfolding after_power
power_in_ways image t true d =
    picked image (λ e. HasBooted d.number e ⊎ ((e ≡ d) ⊎ (e.has_power ≡ false))) d.has_power _ _
    (λ on. inr (inl refl)) (λ off. inl (node_boots image t d))
power_in_ways image t false d =
    either (λ e. HasBooted d.number e ⊎ ((e ≡ d) ⊎ (e.has_power ≡ false))) d.has_power _ d
    (λ on. inr (inr refl)) (λ off. inr (inl refl))

-- what stands is what stood, the defaults of a reset, or nothing without power
pub power_values : (image : Image) (t : ℕ) (on : Bool) (d : Device) → (outcome (after_power on t d) image).values
    ≡ (if on then (if d.has_power then d.values else values_of (image (Defaults d.number)))
    else (if d.has_power then empty else d.values))
unfolding after_power
power_values image t true d = by d.has_power
  where
    by : (b : Bool) → (outcome (if b then Answer d else after_reset_node t d) image).values
        ≡ (if b then d.values else values_of (image (Defaults d.number)))
    by true = refl
    by false = node_values image t d
power_values image t false d = by d.has_power
  where
    by : (b : Bool) → (if b then without_power d.spent d.number else d).values ≡ (if b then empty else d.values)
    by true = refl
    by false = refl

pub ruleset what_power_brings = (power_in_ways, power_values)

-- ---- own entries

all_of : (writer : Writer) (number : ℕ) (entries : List EntryValue) → AreOf number (written_by writer number entries)
all_of writer number entries = All-map (λ w. w.node ≡ number) _ entries (λ k entry less. refl)

if_of : (number : ℕ) (b : Bool) (ws vs : List Written) → AreOf number ws → AreOf number vs
    → AreOf number (if b then ws else vs)
if_of number true ws vs h g = h
if_of number false ws vs h g = g

told_of : (number : ℕ) (values : Values) (wrote : Option (ℕ × ℕ)) → AreOf number (writes_told number values wrote)
told_of number values None = all_of Sdo number []
told_of number values (Some place) =
    all_of Sdo number (record { place = place; bytes = bytes_at values place } ∷ [])

pub set_of : (place : ℕ × ℕ) (bytes : List ℕ) (d : Device) → AreOf d.number (writes_of_set place bytes d)
unfolding writes_of_set
set_of place bytes d =
    if_of d.number d.has_power _ _ (all_of Event d.number (record { place = place; bytes = bytes } ∷ []))
    (all_of Event d.number [])

none_of : (number : ℕ) → AreOf number []
none_of number = all_of Event number []

received_of : (r : Reception) (image : Image) (t : ℕ) (frame : BaseFrame) (d : Device)
    → AreOf d.number (writes_of_reception r image t frame d)
unfolding writes_of_reception writes_of_sync writes_of_pdo writes_of_request
received_of Nothing image t frame d = none_of d.number
received_of (NmtService service) image t frame d = none_of d.number
received_of Sync image t frame d =
    if_of d.number (is_in Operational d) _ [] (all_of Rpdo d.number _) (none_of d.number)
received_of SdoRequest image t frame d =
    if_of d.number (is_in Stopped d) [] _ (none_of d.number) (told_of d.number _ _)
received_of (ErrorControl producer) image t frame d = none_of d.number
received_of Pdo image t frame d =
    if_of d.number (is_in Operational d) _ [] (all_of Rpdo d.number _) (none_of d.number)

pub frame_of : (image : Image) (t : ℕ) (frame : BaseFrame) (d : Device) → AreOf d.number (writes_of_frame image t frame d)
unfolding writes_of_frame
frame_of image t frame d = received_of (reception frame d) image t frame d
