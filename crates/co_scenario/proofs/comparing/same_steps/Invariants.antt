use Rattle.std.proofs.Common.{◌≡◌, take}
use Rattle.co_scenario.proofs.comparing.same_steps.Given as goal

abbrev pub invariant-loop-place : goal.invariant-loop-place
invariant-loop-place l = take l.place l.steps ≡ take l.place l.others
