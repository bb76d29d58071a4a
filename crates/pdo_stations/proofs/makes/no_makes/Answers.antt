use Rattle.std.proofs.Common.{◌∙◌, arith}
use Rattle.std.proofs.lemmas.Grind.{common_steps}
use Rattle.pdo_stations.proofs.SeatLemmas.{none_more}
use Rattle.pdo_stations.proofs.makes.no_makes.Goals as goal

pub loop-number-preserved : goal.loop-number-preserved
loop-number-preserved c = record {
  count = grind (arith, common_steps);
  empty = λ node. rw c.in_ok-push.ensures.items (none_more c.loop-number.makes.items node ∙ c.loop-number.invariant.empty node);
}
