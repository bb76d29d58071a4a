use Rattle.device_agenda.proofs.ReachLemmas.{second_out}
use Rattle.device_agenda.specs.Groups.{includes}
use Rattle.device_agenda.specs.LowBytes.{has_low_byte_of}
use Rattle.device_agenda.proofs.scheduled_device.plan.Goals as goal

pub returns-clause-plan : goal.returns-clause-plan
returns-clause-plan c =
    let reach = c.stirring-reach.result in
    let sync = rw (c.learnt.ensures, c.values.ensures) at c.sync_identifier-schedule.ensures in
    record {
      agenda = c.agenda_of-schedule.ensures;
      low_bytes = λ asleep. record {
        deaf = λ frame within out. c.stirring-reach.ensures.deaf frame within
            (second_out (includes reach.groups frame.id) (has_low_byte_of reach.low_bytes frame.id) out);
      };
      sync = λ asleep. sync;
    }
