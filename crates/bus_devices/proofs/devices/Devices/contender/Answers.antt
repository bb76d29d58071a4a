use Rattle.bus_devices.proofs.OutlookLemmas.{whole_known}
use Rattle.bus_devices.proofs.devices.Devices.contender.Goals as goal

pub returns-then-self : goal.returns-then-self
returns-then-self c =
    let s = c.self.inside in
    rw (← c.self.view_is) (whole_known s.blocks.items s.all s.devices.items (c.self.invariant c.if-self.true)).best
