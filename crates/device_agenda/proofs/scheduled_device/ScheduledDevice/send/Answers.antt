use Rattle.std.proofs.Common.{subst, sym, ap, ◌∙◌, rules}
use Rattle.std.specs.Prelude.{remove}
use Rattle.co_device.specs.Device.{Device}
use Rattle.device_agenda.specs.Schedule.{IsScheduled}
use Rattle.device_agenda.specs.declared.schedule.Schedule.{Schedule}
use Rattle.device_agenda.proofs.AgendaLemmas.{same_either, scheduled_as, sent_agenda, sent_deaf_beyond}
use Rattle.device_agenda.specs.LowBytes.{IsDeafBeyond}
use Rattle.device_objects.specs.Profile.{sync_identifier}
use Rattle.device_agenda.proofs.scheduled_device.ScheduledDevice.send.Goals as goal

pub invariant_of-self-2 : goal.invariant_of-self-2
invariant_of-self-2 c =
    let s = c.in_ok-schedule.schedule.now in
    let before : IsScheduled s.agenda s.low_bytes s.sync s.device =
    scheduled_as (same_either c.in_ok-schedule.ensures.value) c.self.invariant in
    let sent : Schedule = record s {
      device = c.send-sent.new.self;
      agenda = record s.agenda { waits = c.is_some-schedule.result };
    } in
    scheduled_as (c.unshare.follows.holds sent (search rules)) (record {
      agenda = sent_agenda s.agenda s.device c.send-sent.new.self (remove s.device.waiting c.args.place)
          c.contender.result c.is_some-schedule.result before.agenda c.send-sent.ensures.left
          c.contender.ensures c.is_some-schedule.ensures;
      low_bytes = λ asleep. subst (IsDeafBeyond s.low_bytes) (sym c.send-sent.ensures.left)
          (sent_deaf_beyond (remove s.device.waiting c.args.place) s.device s.low_bytes (before.low_bytes asleep));
      sync = λ asleep. before.sync asleep
          ∙ sym (ap (λ (x : Device). sync_identifier x.learnt x.values) c.send-sent.ensures.left);
    })
