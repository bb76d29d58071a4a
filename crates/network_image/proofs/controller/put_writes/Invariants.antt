use Rattle.std.proofs.Common.{◌≡◌, All, length}
use Rattle.concise_dcf.specs.Writes.{IsSized}
use Rattle.project_plan.specs.Values.{after_writes}
use Rattle.network_image.specs.Controller.{other_writes}
use Rattle.network_image.proofs.controller.put_writes.Given as goal

-- what came so far with the rest is all
abbrev pub invariant-loop-rest : goal.invariant-loop-rest
invariant-loop-rest l = record {
  sized : All IsSized l.rest;
  values : after_writes l.values (other_writes l.rest) ≡ after_writes l.fn.values (other_writes l.writes);
}

abbrev pub decreases-loop-rest : goal.decreases-loop-rest
decreases-loop-rest l = length l.rest
