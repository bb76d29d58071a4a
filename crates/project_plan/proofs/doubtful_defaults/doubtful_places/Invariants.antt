use Rattle.std.proofs.Common.{◌≡◌, filter, take}
use Rattle.project_plan.specs.Doubtful.{is_doubtful}
use Rattle.project_plan.proofs.doubtful_defaults.doubtful_places.Given as goal

abbrev pub invariant-loop-place : goal.invariant-loop-place
invariant-loop-place l = l.places.items ≡ filter (is_doubtful l.device) (take l.place-index l.place-items)
