use Rattle.std.proofs.Common.{◌≡◌, false, rules}
use Rattle.bus_devices.proofs.OutlookLemmas.{whole_known}
use Rattle.bus_devices.proofs.devices.Devices.next_due.Goals as goal

pub returns-then-not-agenda : goal.returns-then-not-agenda
returns-then-not-agenda c =
    let s = c.self.inside in
    let known = (whole_known s.blocks.items s.all s.devices.items (c.self.invariant c.if-self.true)).agenda in
    let asleep : c.agenda-agenda.result.awake ≡ false = search rules in
    rw (c.agenda-agenda.ensures, ← c.self.view_is) (known.due (rw c.agenda-agenda.ensures at asleep))
