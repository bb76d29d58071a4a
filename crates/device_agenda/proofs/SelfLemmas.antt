-- What leaves a device's number, its power and its NMT state.
use Rattle.std.proofs.Common.{◌≡◌, ℕ, Bool, true, false, List, Option, Some, None, refl, sym, ◌∙◌}
use Rattle.std.specs.Prelude.{nat_lt}
use Rattle.image_parts.specs.Asking.{outcome}
use Rattle.can_frame.specs.Frames.{BaseFrame}
use Rattle.image_parts.specs.Contents.{Image}
use Rattle.base.specs.Moments.{is_due}
use Rattle.device_objects.specs.Consumers.{consumers_after_time, failures_at}
use Rattle.device_objects.specs.Profile.{with_error_bits}
use Rattle.co_scenario.specs.declared.nmt_command.NmtCommand.{NmtCommand}
use Rattle.co_scenario.specs.declared.nmt_command.NmtCommand.TheVariants.{Start, Stop, EnterPreOperational, ResetNode}
use Rattle.co_scenario.specs.declared.nmt_command.NmtCommand.TheVariants.{ResetCommunication}
use Rattle.co_device.specs.Device.{Device, after_failures, after_consumers, enter_pre_operational, after_heartbeat}
use Rattle.co_device.specs.Device.{after_initialisation, is_in, nmt_service, out_of_operational, after_power}
use Rattle.co_device.specs.Device.{after_instant, reset_communication, after_reset_node, after_timers, after_tpdos}
use Rattle.co_device.specs.Device.{after_set, with_emergencies, without_power}
use Rattle.co_device.specs.Receiving.{after_frame}
use Rattle.cia301.specs.declared.nmt_state.NmtState.TheVariants.{Operational, Stopped}
use Rattle.device_agenda.specs.Itself.{StaysItself}
use Rattle.device_agenda.proofs.CaseLemmas.{either, one_of, picked}
use Rattle.device_agenda.proofs.KeptLemmas.{IsKept, frame_kept, set_kept}

abbrev pub HasNumber : ℕ → Device → Type 0
HasNumber number d = d.number ≡ number

pub number_kept : (t number : ℕ) → IsKept t (HasNumber number)
number_kept t number = record {
  others = λ d values rpdos tpdos synced frames transfer h. h;
  started = λ d h. h;
  forgotten = λ d sub h. h;
  heard = λ d producer h. h;
}

-- ---- number, power, and whether it is spent

same : (d e f : Device) → f.number ≡ e.number → f.has_power ≡ e.has_power → f.spent ≡ e.spent → StaysItself d e
    → StaysItself d f
same d e f number has_power spent h = record {
  number = number ∙ h.number;
  has_power = has_power ∙ h.has_power;
  spent = spent ∙ h.spent;
}

itself : (d : Device) → StaysItself d d
itself d = record { number = refl; has_power = refl; spent = refl }

self_kept : (t : ℕ) (d : Device) → IsKept t (StaysItself d)
self_kept t d = record {
  others = λ e values rpdos tpdos synced frames transfer h. same d e _ refl refl refl h;
  started = λ e h. same d e _ refl refl refl h;
  forgotten = λ e sub h. same d e _ refl refl refl h;
  heard = λ e producer h. same d e _ refl refl refl h;
}

out_stays : (d e : Device) → StaysItself d e → StaysItself d (out_of_operational e)
unfolding out_of_operational
out_stays d e h = one_of (StaysItself d) (is_in Operational e) _ e (same d e _ refl refl refl h) h

entered_stays : (d e : Device) → StaysItself d e → StaysItself d (enter_pre_operational e)
entered_stays d e h = same d (out_of_operational e) _ refl refl refl (out_stays d e h)

module _ (image : Image) (t : ℕ) (d : Device) where
  node_stays : d.has_power ≡ true → StaysItself d (outcome (after_reset_node t d) image)
  unfolding after_reset_node after_initialisation
  node_stays on = record { number = refl; has_power = sym on; spent = refl }

  communication_stays : d.has_power ≡ true → StaysItself d (outcome (reset_communication t d) image)
  unfolding reset_communication after_initialisation
  communication_stays on = record { number = refl; has_power = sym on; spent = refl }

  service_stays : (command : Option NmtCommand) → d.has_power ≡ true
      → StaysItself d (outcome (nmt_service command t d) image)
  unfolding nmt_service
  service_stays None on = itself d
  service_stays (Some Start) on = same d d _ refl refl refl (itself d)
  service_stays (Some Stop) on = one_of (StaysItself d) (is_in Stopped d) d _ (itself d)
      (same d (out_of_operational d) _ refl refl refl (out_stays d d (itself d)))
  service_stays (Some EnterPreOperational) on = entered_stays d d (itself d)
  service_stays (Some ResetNode) on = node_stays on
  service_stays (Some ResetCommunication) on = communication_stays on

  pub frame_stays : (frame : BaseFrame) → StaysItself d (outcome (after_frame t frame d) image)
  frame_stays frame = frame_kept t (StaysItself d) (self_kept t d) image frame d service_stays (itself d)

  off_switches : StaysItself (record d { has_power = false }) (without_power d.spent d.number)
  off_switches = record { number = refl; has_power = refl; spent = refl }

  node_switches : StaysItself (record d { has_power = true }) (outcome (after_reset_node t d) image)
  unfolding after_reset_node after_initialisation
  node_switches = record { number = refl; has_power = refl; spent = refl }

  pub power_switches : (on : Bool) → StaysItself (record d { has_power = on }) (outcome (after_power on t d) image)
  unfolding after_power
  power_switches true =
      picked image (StaysItself (record d { has_power = true })) d.has_power _ _ (λ b. record {
        number = refl;
        has_power = b;
        spent = refl;
      }) (λ b. node_switches)
  power_switches false = either (StaysItself (record d { has_power = false })) d.has_power _ d (λ b. off_switches)
      (λ b. record { number = refl; has_power = b; spent = refl })

pub set_stays : (t : ℕ) (place : ℕ × ℕ) (bytes : List ℕ) (d : Device) → StaysItself d (after_set t place bytes d)
set_stays t place bytes d = set_kept t (StaysItself d) (self_kept t d) place bytes d (itself d)

-- ---- what a device does of itself

told_stays : (count code : ℕ) (d e : Device) → StaysItself d e → StaysItself d (with_emergencies count code e)
told_stays count code d e h = one_of (StaysItself d) (is_in Stopped e) e _ h (same d e _ refl refl refl h)

failed_stays : (t count : ℕ) (d e : Device) → StaysItself d e → StaysItself d (after_failures t count e)
failed_stays t count d e h =
    let failed : Device = record e {
      consumers = consumers_after_time t e.consumers;
      values = with_error_bits e.learnt e.values;
    } in
    let told : Device = with_emergencies count 0x8130 failed in
    let now : StaysItself d told = told_stays count 0x8130 d failed (same d e _ refl refl refl h) in
    one_of (StaysItself d) (is_in Operational told) _ told (entered_stays d told now) now

consumers_stay : (t : ℕ) (d e : Device) → StaysItself d e → StaysItself d (after_consumers t e)
unfolding after_consumers
consumers_stay t d e h = one_of (StaysItself d)
    (nat_lt 0 (failures_at t e.consumers)) _ e (failed_stays t (failures_at t e.consumers) d e h) h

heartbeat_stays : (t : ℕ) (d e : Device) → StaysItself d e → StaysItself d (after_heartbeat t e)
unfolding after_heartbeat
heartbeat_stays t d e h = one_of (StaysItself d) (is_due t e.heartbeat) _ e (same d e _ refl refl refl h) h

tpdos_stay : (t : ℕ) (d e : Device) → StaysItself d e → StaysItself d (after_tpdos t e)
unfolding after_tpdos
tpdos_stay t d e h = one_of (StaysItself d) (is_in Operational e) _ _ (same d e _ refl refl refl h)
    (same d e _ refl refl refl h)

pub instant_stays : (t : ℕ) (d : Device) → StaysItself d (after_instant t d)
unfolding after_instant after_timers
instant_stays t d = tpdos_stay t d _ (heartbeat_stays t d _ (consumers_stay t d d (itself d)))
