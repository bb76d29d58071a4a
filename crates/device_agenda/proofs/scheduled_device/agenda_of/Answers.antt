use Rattle.std.proofs.Common.{false, sym, ◌∙◌}
use Rattle.device_agenda.proofs.AgendaLemmas.{plan_of, silent_where_none}
use Rattle.device_agenda.proofs.ReachLemmas.{first_out}
use Rattle.device_agenda.specs.Groups.{includes}
use Rattle.device_agenda.specs.LowBytes.{has_low_byte_of}
use Rattle.device_agenda.specs.declared.agenda.Agenda.{Agenda as DeviceAgenda}
use Rattle.device_agenda.proofs.scheduled_device.agenda_of.Goals as goal

pub returns : goal.returns
returns c =
    let d = c.args.device.now in
    let plan : DeviceAgenda = record {
      awake = false;
      due = c.next_due.result;
      groups = c.args.reach.now.groups;
      waits = c.is_some.result;
    } in
    let reach = c.args.reach.now in
    plan_of plan d (record {
      rests = c.requires.rests;
      unspent = c.requires.unspent;
      deaf = λ frame within out. c.requires.reach.deaf frame within
          (first_out (includes reach.groups frame.id) (has_low_byte_of reach.low_bytes frame.id) out);
    })
    c.next_due.ensures
    (λ e. silent_where_none d c.contender.result c.contender.ensures (sym c.is_some.ensures ∙ e))
