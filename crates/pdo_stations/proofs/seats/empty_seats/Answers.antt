use Rattle.std.proofs.Common.{◌∙◌, arith}
use Rattle.std.proofs.lemmas.Grind.{common_steps}
use Rattle.pdo_stations.proofs.SeatLemmas.{empty_more}
use Rattle.pdo_stations.proofs.seats.empty_seats.Goals as goal

pub loop-number-preserved : goal.loop-number-preserved
loop-number-preserved c = record {
  count = grind (arith, common_steps);
  empty = rw c.in_ok-push.ensures.items (empty_more c.loop-number.seats.items 0 ∙ c.loop-number.invariant.empty);
}
