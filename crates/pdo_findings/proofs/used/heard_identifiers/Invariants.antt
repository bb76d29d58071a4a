use Rattle.std.proofs.Common.{◌≡◌, ℕ, take}
use Rattle.std.specs.BTreeSet.{contains}
use Rattle.std.specs.Ordering.{nat_cmp}
use Rattle.pdo_findings.specs.Findings.{is_sent_to}
use Rattle.pdo_findings.proofs.used.heard_identifiers.Given as goal

-- those of the messages so far
abbrev pub invariant-loop-planned : goal.invariant-loop-planned
invariant-loop-planned l =
    (n : ℕ) → contains nat_cmp l.identifiers n ≡ is_sent_to (take l.planned-index l.planned-items) l.node n
