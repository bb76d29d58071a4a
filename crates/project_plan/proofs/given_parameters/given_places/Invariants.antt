use Rattle.std.proofs.Common.{◌≡◌, filter, take}
use Rattle.project_plan.specs.GivenParameters.{is_given}
use Rattle.project_plan.proofs.given_parameters.given_places.Given as goal

abbrev pub invariant-loop-place : goal.invariant-loop-place
invariant-loop-place l = l.places.items ≡ filter (is_given l.device.sections) (take l.place-index l.place-items)
