use Rattle.can_bus.proofs.ApartLemmas.{by_devices}
use Rattle.can_bus.proofs.bus_state.BusState.tell_apart.Goals as goal

pub returns-then-is_like : goal.returns-then-is_like
returns-then-is_like c = rw (← c.self.view_is, ← c.other.view_is)
    (by_devices c.tell_apart.result _ _ (rw (← c.self.view_is, ← c.other.view_is) at (c.is_like.ensures.0
    c.if-is_like.true)) c.tell_apart.ensures)
