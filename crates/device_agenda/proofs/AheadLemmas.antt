-- When the timers of a device are due.
use Rattle.std.proofs.Common.{◌≡◌, ℕ, zero, suc, ◌+◌, ◌*◌, ◌<◌, ◌≤◌, ◌==◌, Bool, true, false, ◌&&◌, List, [], ◌∷◌}
use Rattle.std.proofs.Common.{Option, Some, None, refl, ◌∙◌, arith}
use Rattle.std.specs.Prelude.{if◌then◌else◌, filter, length, nat_lt, map}
use Rattle.std.proofs.lemmas.Bool.Decides.{nat_tests}
use Rattle.image_parts.specs.Asking.{outcome}
use Rattle.can_frame.specs.Frames.{BaseFrame}
use Rattle.co_dict.specs.Shapes.{Shaped}
use Rattle.co_dict.specs.Values.{Values}
use Rattle.image_parts.specs.Contents.{Image}
use Rattle.base.specs.Moments.{is_due}
use Rattle.cia301.specs.ConsumerHeartbeatTimes.{consumed_node, consumer_time}
use Rattle.device_objects.specs.Consumers.{consumers_after_time, consumers_after_heartbeat, consumers_of}
use Rattle.device_objects.specs.Consumers.{consumers_after_write, expects, consumer_after_time, failures_at}
use Rattle.device_objects.specs.Consumers.{consumer_after_heartbeat, consumer_after_write}
use Rattle.device_objects.specs.Consumers.{waiting_for_start}
use Rattle.device_objects.specs.Profile.{with_error_bits, next_heartbeat, producer_heartbeat_time}
use Rattle.device_objects.specs.declared.consumer.Consumer.{Consumer}
use Rattle.device_objects.specs.declared.learnt.Learnt.{Learnt}
use Rattle.co_scenario.specs.declared.nmt_command.NmtCommand.{NmtCommand}
use Rattle.co_scenario.specs.declared.nmt_command.NmtCommand.TheVariants.{Start, Stop, EnterPreOperational, ResetNode}
use Rattle.co_scenario.specs.declared.nmt_command.NmtCommand.TheVariants.{ResetCommunication}
use Rattle.co_device.specs.Device.{Device, after_failures, after_consumers, enter_pre_operational, after_heartbeat}
use Rattle.co_device.specs.Device.{after_initialisation, is_in, nmt_service, out_of_operational, after_power}
use Rattle.co_device.specs.Device.{reset_communication, after_reset_node, stop_remote_node, after_timers, after_set}
use Rattle.co_device.specs.Device.{with_emergencies, without_power}
use Rattle.co_device.specs.Receiving.{after_frame}
use Rattle.cia301.specs.declared.nmt_state.NmtState.TheVariants.{Operational, Stopped}
use Rattle.device_agenda.specs.Ahead.{AreAhead, IsAhead, NotBefore}
use Rattle.device_agenda.proofs.CaseLemmas.{either, one_of, picked}
use Rattle.device_agenda.proofs.KeptLemmas.{IsKept, frame_kept, set_kept}

same_timers : (u : ℕ) (d e : Device) → e.heartbeat ≡ d.heartbeat → e.consumers ≡ d.consumers → IsAhead u d → IsAhead u e
same_timers u d e heartbeat consumers h =
    record { heartbeat = rw heartbeat h.heartbeat; consumers = rw consumers h.consumers }

-- ---- quiet

not_due : (t : ℕ) (moment : Option ℕ) → NotBefore (t + 1) moment → is_due t moment ≡ false
not_due t None h = refl
not_due t (Some m) h = grind (arith, nat_tests)

no_failures : (t : ℕ) (cs : List Consumer) → AreAhead (t + 1) cs → failures_at t cs ≡ 0
unfolding failures_at
no_failures t [] h = refl
no_failures t (c ∷ cs) h = rw (not_due t c.moment h.0) (no_failures t cs h.1)

pub quiet : (t : ℕ) (d : Device) → IsAhead (t + 1) d → after_timers t d ≡ d
unfolding after_timers after_heartbeat after_consumers
quiet t d h = rw (no_failures t d.consumers h.consumers, not_due t d.heartbeat h.heartbeat) refl

-- ---- what was due has run

-- a period that starts now ends later
ends_later : (t u period : ℕ) (none : Bool) → u ≤ t + 1 → (1000 * period == 0) ≡ none
    → NotBefore u (if none then None else Some (t + 1000 * period))
ends_later t u period true h e = tt
ends_later t u zero false h e = absurd (grind (arith, nat_tests))
ends_later t u (suc period) false h e = omega arith

begins_ahead : (t u : ℕ) (learnt : Learnt) (values : Values) → u ≤ t + 1 → NotBefore u (next_heartbeat t learnt values)
unfolding next_heartbeat
begins_ahead t u learnt values h = let period = producer_heartbeat_time learnt values
    in ends_later t u period (1000 * period == 0) h refl

waits_later : (t : ℕ) (moment : Option ℕ) → is_due t moment ≡ false → NotBefore t moment → NotBefore (t + 1) moment
waits_later t None e h = tt
waits_later t (Some m) e h = grind (arith, nat_tests)

one_expired : (t : ℕ) (c : Consumer) → NotBefore t c.moment → NotBefore (t + 1) (consumer_after_time t c).moment
one_expired t c h = by (is_due t c.moment) refl
  where
    by : (test : Bool) → is_due t c.moment ≡ test
        → NotBefore (t + 1) (if test then record c { moment = None; failed = true } else c).moment
    by true e = tt
    by false e = waits_later t c.moment e h

all_later : (t : ℕ) (cs : List Consumer) → AreAhead t cs → AreAhead (t + 1) (consumers_after_time t cs)
unfolding consumers_after_time
all_later t [] h = tt
all_later t (c ∷ cs) h = (one_expired t c h.0, all_later t cs h.1)

none_later : (t : ℕ) (cs : List Consumer) → failures_at t cs ≡ 0 → AreAhead t cs → AreAhead (t + 1) cs
unfolding failures_at
none_later t [] e h = tt
none_later t (c ∷ cs) e h = by (is_due t c.moment) refl e (λ f. none_later t cs f h.1)
  where
    rest : List Consumer
    rest = filter (λ c. is_due t c.moment) cs

    by : (test : Bool) → is_due t c.moment ≡ test → length (if test then c ∷ rest else rest) ≡ 0
        → (length rest ≡ 0 → AreAhead (t + 1) cs) → AreAhead (t + 1) (c ∷ cs)
    by true b f after = absurd (omega (arith, f))
    by false b f after = (waits_later t c.moment b h.0, after f)

-- the heartbeat as before, and consumers ahead
record AreLater (t : ℕ) (d e : Device) : Type 0 where
  heartbeat : e.heartbeat ≡ d.heartbeat
  consumers : AreAhead (t + 1) e.consumers

later : (t : ℕ) (d e f : Device) → f.heartbeat ≡ e.heartbeat → f.consumers ≡ e.consumers → AreLater t d e
    → AreLater t d f
later t d e f heartbeat consumers h = record {
  heartbeat = heartbeat ∙ h.heartbeat;
  consumers = rw consumers h.consumers;
}

out_later : (t : ℕ) (d e : Device) → AreLater t d e → AreLater t d (out_of_operational e)
unfolding out_of_operational
out_later t d e h = one_of (AreLater t d) (is_in Operational e) _ e (later t d e _ refl refl h) h

entered_later : (t : ℕ) (d e : Device) → AreLater t d e → AreLater t d (enter_pre_operational e)
entered_later t d e h = later t d (out_of_operational e) _ refl refl (out_later t d e h)

told_later : (t count code : ℕ) (d e : Device) → AreLater t d e → AreLater t d (with_emergencies count code e)
told_later t count code d e h = one_of (AreLater t d) (is_in Stopped e) e _ h (later t d e _ refl refl h)

failed_later : (t count : ℕ) (d : Device) → AreAhead t d.consumers → AreLater t d (after_failures t count d)
failed_later t count d h =
    let failed : Device = record d {
      consumers = consumers_after_time t d.consumers;
      values = with_error_bits d.learnt d.values;
    } in
    let told : Device = with_emergencies count 0x8130 failed in
    let now : AreLater t d told =
    told_later t count 0x8130 d failed (record { heartbeat = refl; consumers = all_later t d.consumers h }) in
    one_of (AreLater t d) (is_in Operational told) _ told (entered_later t d told now) now

not_some : (n : ℕ) → nat_lt 0 n ≡ false → n ≡ 0
not_some n e = grind (arith, nat_tests)

consumers_later : (t : ℕ) (d : Device) → AreAhead t d.consumers → AreLater t d (after_consumers t d)
unfolding after_consumers
consumers_later t d h =
    either (AreLater t d)
    (nat_lt 0 (failures_at t d.consumers)) _ d (λ e. failed_later t (failures_at t d.consumers) d h)
    (λ e. record { heartbeat = refl; consumers = none_later t d.consumers (not_some _ e) h })

heartbeat_later : (t : ℕ) (d : Device) → NotBefore t d.heartbeat → AreAhead (t + 1) d.consumers
    → IsAhead (t + 1) (after_heartbeat t d)
unfolding after_heartbeat
heartbeat_later t d h k =
    either (IsAhead (t + 1)) (is_due t d.heartbeat) _ d
    (λ e. record { heartbeat = begins_ahead t (t + 1) d.learnt d.values (omega arith); consumers = k })
    (λ e. record { heartbeat = waits_later t d.heartbeat e h; consumers = k })

pub due_later : (t : ℕ) (d : Device) → IsAhead t d → IsAhead (t + 1) (after_timers t d)
unfolding after_timers
due_later t d h =
    let run = consumers_later t d h.consumers in
    heartbeat_later t (after_consumers t d) (rw run.heartbeat h.heartbeat) run.consumers

-- ---- what comes at a moment

time_of : (producer entry : ℕ) → expects producer entry ≡ true → 0 < consumer_time entry
time_of producer entry e = by (consumed_node entry == producer) e
  where
    by : (test : Bool) → test && nat_lt 0 (consumer_time entry) ≡ true → 0 < consumer_time entry
    by true f = grind (arith, nat_tests)
    by false f = absurd cc

starts_later : (t u time : ℕ) → u ≤ t + 1 → 0 < time → u ≤ t + 1000 * time
starts_later t u time h k = omega (arith, h, k)

module _ (t u : ℕ) (now : u ≤ t + 1) where
  one_heard : (producer : ℕ) (c : Consumer) → NotBefore u c.moment
      → NotBefore u (consumer_after_heartbeat t producer c).moment
  one_heard producer c h = by (expects producer c.entry) refl
    where
      by : (test : Bool) → expects producer c.entry ≡ test
          → NotBefore u (if test then record c { moment = Some (t + 1000 * consumer_time c.entry); failed = false }
          else c).moment
      by true e = starts_later t u (consumer_time c.entry) now (time_of producer c.entry e)
      by false e = h

  heard_ahead : (producer : ℕ) (cs : List Consumer) → AreAhead u cs
      → AreAhead u (consumers_after_heartbeat t producer cs)
  unfolding consumers_after_heartbeat
  heard_ahead producer [] h = tt
  heard_ahead producer (c ∷ cs) h = (one_heard producer c h.0, heard_ahead producer cs h.1)

  one_rewritten : (sub : ℕ) (values : Values) (c : Consumer) → NotBefore u c.moment
      → NotBefore u (consumer_after_write sub values c).moment
  one_rewritten sub values c h = by (c.sub == sub)
    where
      by : (test : Bool) → NotBefore u (if test then waiting_for_start values sub else c).moment
      by true = tt
      by false = h

  written_ahead : (sub : ℕ) (values : Values) (cs : List Consumer) → AreAhead u cs
      → AreAhead u (consumers_after_write sub values cs)
  unfolding consumers_after_write
  written_ahead sub values [] h = tt
  written_ahead sub values (c ∷ cs) h = (one_rewritten sub values c h.0, written_ahead sub values cs h.1)

  ahead_kept : IsKept t (IsAhead u)
  ahead_kept = record {
    others = λ d values rpdos tpdos synced frames transfer h. same_timers u d _ refl refl h;
    started = λ d h. record { heartbeat = begins_ahead t u d.learnt d.values now; consumers = h.consumers };
    forgotten = λ d sub h. record {
      heartbeat = h.heartbeat;
      consumers = written_ahead sub d.values d.consumers h.consumers;
    };
    heard = λ d producer h. record {
      heartbeat = h.heartbeat;
      consumers = heard_ahead producer d.consumers h.consumers;
    };
  }

  new_ahead : (values : Values) (subs : List ℕ) → AreAhead u (map (waiting_for_start values) subs)
  new_ahead values [] = tt
  new_ahead values (sub ∷ subs) = (tt, new_ahead values subs)

  all_new_ahead : (shape : Shaped) (values : Values) → AreAhead u (consumers_of shape values)
  unfolding consumers_of
  all_new_ahead shape values = new_ahead values _

  initialised_ahead : (shape : Shaped) (values : Values) (d : Device)
      → IsAhead u (after_initialisation t shape values d)
  unfolding after_initialisation
  initialised_ahead shape values d = record {
    heartbeat = begins_ahead t u _ values now;
    consumers = all_new_ahead shape values;
  }

  out_ahead : (d : Device) → IsAhead u d → IsAhead u (out_of_operational d)
  unfolding out_of_operational
  out_ahead d h = one_of (IsAhead u) (is_in Operational d) _ d (same_timers u d _ refl refl h) h

  stopped_ahead : (d : Device) → IsAhead u d → IsAhead u (stop_remote_node d)
  stopped_ahead d h = one_of (IsAhead u)
      (is_in Stopped d) d _ h (same_timers u (out_of_operational d) _ refl refl (out_ahead d h))

  module _ (image : Image) where
    node_ahead : (d : Device) → IsAhead u (outcome (after_reset_node t d) image)
    unfolding after_reset_node
    node_ahead d = initialised_ahead _ _ d

    communication_ahead : (d : Device) → IsAhead u (outcome (reset_communication t d) image)
    unfolding reset_communication
    communication_ahead d = initialised_ahead _ _ d

    service_ahead : (command : Option NmtCommand) (d : Device) → IsAhead u d
        → IsAhead u (outcome (nmt_service command t d) image)
    unfolding nmt_service
    service_ahead None d h = h
    service_ahead (Some Start) d h = same_timers u d _ refl refl h
    service_ahead (Some Stop) d h = stopped_ahead d h
    service_ahead (Some EnterPreOperational) d h = same_timers u (out_of_operational d) _ refl refl (out_ahead d h)
    service_ahead (Some ResetNode) d h = node_ahead d
    service_ahead (Some ResetCommunication) d h = communication_ahead d

    pub frame_ahead : (frame : BaseFrame) (d : Device) → IsAhead u d → IsAhead u (outcome (after_frame t frame d) image)
    frame_ahead frame d h = frame_kept t (IsAhead u) ahead_kept image frame d (λ command on. service_ahead command d h)
        h

    unpowered_ahead : (spent : Bool) (number : ℕ) → IsAhead u (without_power spent number)
    unpowered_ahead spent number = record { heartbeat = tt; consumers = tt }

    pub power_ahead : (on : Bool) (d : Device) → IsAhead u d → IsAhead u (outcome (after_power on t d) image)
    unfolding after_power
    power_ahead on d h =
        picked image (IsAhead u) on _ _ (λ e. picked image (IsAhead u) d.has_power _ _ (λ e. h) (λ e. node_ahead d))
        (λ e. one_of (IsAhead u) d.has_power _ _ (unpowered_ahead d.spent d.number) h)

  pub set_ahead : (place : ℕ × ℕ) (bytes : List ℕ) (d : Device) → IsAhead u d → IsAhead u (after_set t place bytes d)
  set_ahead place bytes d h = set_kept t (IsAhead u) ahead_kept place bytes d h
