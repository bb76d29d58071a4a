use Rattle.std.proofs.Common.{◌≡◌, All, filter, length}
use Rattle.concise_dcf.specs.Writes.{IsSized, place_of}
use Rattle.project_plan.specs.Values.{after_writes}
use Rattle.project_plan.specs.Wanted.{is_tpdo_cob_id}
use Rattle.project_plan.proofs.wanted.write_tpdo_cob_ids.Given as goal

-- what came so far with the rest is all
abbrev pub invariant-loop-rest : goal.invariant-loop-rest
invariant-loop-rest l = record {
  sized : All IsSized l.rest;
  values : after_writes l.values (filter (λ w. is_tpdo_cob_id (place_of w)) l.rest)
      ≡ after_writes l.fn.values (filter (λ w. is_tpdo_cob_id (place_of w)) l.writes);
}

abbrev pub decreases-loop-rest : goal.decreases-loop-rest
decreases-loop-rest l = length l.rest
