use Rattle.std.proofs.Common.{◌≡◌, take}
use Rattle.pdo_plan.specs.Plan.{faults_that_hold}
use Rattle.pdo_plan.proofs.faults.noted.Given as goal

-- those so far
abbrev pub invariant-loop-test : goal.invariant-loop-test
invariant-loop-test l = l.faults.items ≡ faults_that_hold (take l.test-index l.tests)
