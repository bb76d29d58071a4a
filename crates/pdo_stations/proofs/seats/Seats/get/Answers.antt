use Rattle.std.proofs.Common.{get_or, None, ap, sym, ◌∙◌}
use Rattle.pdo_stations.proofs.SeatLemmas.{seat_at}
use Rattle.pdo_stations.proofs.seats.Seats.get.Goals as goal

pub returns : goal.returns
returns c =
    rw (← c.self.view_is) (c.seated.ensures ∙ ap (λ seats. get_or seats c.args.node None) c.deref.ensures.value ∙ sym (seat_at c.self.inside.seats.items c.args.node))
