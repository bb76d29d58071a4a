-- What a device does of itself writes no entry.
use Rattle.std.proofs.Common.{ℕ, List, [], ◌∷◌, Option, Some, None, refl}
use Rattle.std.specs.Prelude.{nat_lt}
use Rattle.can_frame.specs.Frames.{BaseFrame}
use Rattle.can_frame.specs.declared.purpose.Purpose.TheVariants.{Heartbeat, Tpdo}
use Rattle.can_frame.specs.declared.waiting.Waiting.{Waiting}
use Rattle.base.specs.Moments.{is_due}
use Rattle.co_dict.specs.Values.{Values}
use Rattle.co_device.specs.Device.{Device, after_consumers, after_failures, after_heartbeat, after_instant, after_timers}
use Rattle.co_device.specs.Device.{after_tpdos, enter_pre_operational, is_in, sync_seen, with_emergencies}
use Rattle.cia301.specs.declared.nmt_state.NmtState.TheVariants.{Operational}
use Rattle.pdo_rules.specs.declared.sync_seen.SyncSeen.{SyncSeen}
use Rattle.device_agenda.proofs.CaseLemmas.{one_of}
use Rattle.device_objects.specs.Consumers.{consumers_after_time, failures_at}
use Rattle.device_objects.specs.Profile.{with_error_bits}
use Rattle.device_pdos.specs.Tpdos.{frame_of_turn, with_frame, with_tpdos}
use Rattle.device_pdos.specs.declared.tpdo_state.TpdoState.{TpdoState}
use Rattle.network_laws.specs.Leaves.{LeavesServer}
use Rattle.network_laws.proofs.LeaveLemmas.{all_told_left, entered_left, followed, left_alone, left_itself, left_with}
use Rattle.network_laws.proofs.LeaveLemmas.{set_bits_agree, settled}
use Rattle.network_laws.proofs.WriteListLemmas.{WaitsAlike, alike_itself, alike_then, latest_alike}

-- ---- consumers

failed_left : (t count : ℕ) (d : Device) → LeavesServer [] d (after_failures t count d)
failed_left t count d =
    let failed : Device = record d {
      consumers = consumers_after_time t d.consumers;
      values = with_error_bits d.learnt d.values;
    } in
    let told : Device = with_emergencies count 0x8130 failed in
    let now : LeavesServer [] d told = followed [] [] d failed told
    (left_with d failed refl (set_bits_agree d.learnt d.values) refl (alike_itself d.waiting))
    (all_told_left count 0x8130 failed) in
    one_of (LeavesServer [] d) (is_in Operational told) _ told
    (followed [] [] d told (enter_pre_operational told) now (entered_left told)) now

consumers_left : (t : ℕ) (d : Device) → LeavesServer [] d (after_consumers t d)
unfolding after_consumers
consumers_left t d = one_of (LeavesServer [] d) (nat_lt 0 (failures_at t d.consumers)) _ d
    (failed_left t (failures_at t d.consumers) d) (left_itself d)

-- ---- the heartbeat

heartbeat_left : (t : ℕ) (d : Device) → LeavesServer [] d (after_heartbeat t d)
unfolding after_heartbeat
heartbeat_left t d = one_of (LeavesServer [] d) (is_due t d.heartbeat) _ d
    (left_with d _ refl (λ place apart. refl) refl
    (latest_alike Heartbeat _ d.waiting (record { no_answer = refl; no_boot_up = refl }))) (left_itself d)

-- ---- TPDOs

frame_alike : (number : ℕ) (frame : Option BaseFrame) (ws : List Waiting) → WaitsAlike ws (with_frame number frame ws)
frame_alike number None ws = alike_itself ws
frame_alike number (Some frame) ws =
    latest_alike (Tpdo number) frame ws (record { no_answer = refl; no_boot_up = refl })

tpdos_alike : (t : ℕ) (seen : Option SyncSeen) (values : Values) (tpdos : List TpdoState) (ws : List Waiting)
    → WaitsAlike ws (with_tpdos t seen values tpdos ws)
unfolding with_tpdos
tpdos_alike t seen values [] ws = alike_itself ws
tpdos_alike t seen values (p ∷ tpdos) ws =
    let next : List Waiting = with_frame p.number (frame_of_turn t seen values p) ws in
    alike_then ws next (with_tpdos t seen values tpdos next) (frame_alike p.number (frame_of_turn t seen values p) ws)
    (tpdos_alike t seen values tpdos next)

tpdos_left : (t : ℕ) (d : Device) → LeavesServer [] d (after_tpdos t d)
unfolding after_tpdos
tpdos_left t d = one_of (LeavesServer [] d) (is_in Operational d) _ _
    (left_with d _ refl (λ place apart. refl) refl
    (tpdos_alike t (sync_seen d.learnt d.values d.synced) d.values d.tpdos d.waiting))
    (left_alone d _ (settled d _ refl refl refl refl))

pub instant_left : (t : ℕ) (d : Device) → LeavesServer [] d (after_instant t d)
unfolding after_instant after_timers
instant_left t d =
    let fed : Device = after_consumers t d in
    let beat : Device = after_heartbeat t fed in
    followed [] [] d beat (after_tpdos t beat)
    (followed [] [] d fed beat (consumers_left t d) (heartbeat_left t fed)) (tpdos_left t beat)
