use Rattle.std.proofs.Common.{take}
use Rattle.std.specs.FinMap.{get, remove}
use Rattle.eds_device.specs.Places.{pairs_of}
use Rattle.eds_device.proofs.MapLemmas.{Has}
use Rattle.project_plan.specs.Controller.{producer_time}
use Rattle.network_image.proofs.controller.other_defaults.Given as goal

-- the defaults so far
abbrev pub invariant-loop-place : goal.invariant-loop-place
invariant-loop-place l =
    Has (get (remove l.fn.defaults producer_time)) l.values (take l.place-index (pairs_of l.device.sections))
