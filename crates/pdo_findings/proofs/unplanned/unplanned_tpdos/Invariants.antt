use Rattle.std.proofs.Common.{◌-◌, ◌≤◌, []}
use Rattle.pdo_findings.specs.Findings.{unplanned_tpdo}
use Rattle.pdo_links.proofs.NumberLemmas.{IsOfAll}
use Rattle.pdo_findings.proofs.unplanned.unplanned_tpdos.Given as goal

abbrev pub invariant-numbers : goal.invariant-numbers
invariant-numbers l = record {
  high : l.number ≤ 513;
  all : IsOfAll (unplanned_tpdo l.plan l.device l.node) [] l.found.items l.number;
}

abbrev pub decreases-numbers : goal.decreases-numbers
decreases-numbers l = 513 - l.number
