use Rattle.std.proofs.Common.{◌≡◌}
use Rattle.co_scenario.proofs.sharing.share_values.Given as goal

-- the events are those that there were
abbrev pub invariant-loop-step : goal.invariant-loop-step
invariant-loop-step l = l.steps ≡ l.fn.steps
