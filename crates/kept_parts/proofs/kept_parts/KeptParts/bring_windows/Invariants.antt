use Rattle.std.proofs.Common.{◌≡◌, ◌*◌}
use Rattle.co_scenario.specs.Scenario.{events_between}
use Rattle.kept_parts.proofs.AllLemmas.{WindowsSoFar}
use Rattle.kept_parts.proofs.kept_parts.KeptParts.bring_windows.Given as goal

-- the windows so far are done, and the events from the next one's start on are left
abbrev pub invariant-loop-i : goal.invariant-loop-i
invariant-loop-i l = record {
  so_far : WindowsSoFar l.project l.i l.fn.self l.self l.fn.meter l.meter;
  left : l.left ≡ events_between (10000 * l.i) 10009999 l.script;
}
