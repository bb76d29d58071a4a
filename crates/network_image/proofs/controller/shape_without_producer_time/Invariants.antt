use Rattle.std.proofs.Common.{◌≡◌, take}
use Rattle.std.specs.FinMap.{get, remove}
use Rattle.eds_device.specs.Entries.{dummies_of}
use Rattle.eds_device.specs.Places.{pairs_of}
use Rattle.eds_device.proofs.MapLemmas.{Has}
use Rattle.project_plan.specs.Controller.{producer_time}
use Rattle.network_image.proofs.controller.shape_without_producer_time.Given as goal

-- the entries so far
abbrev pub invariant-loop-place : goal.invariant-loop-place
invariant-loop-place l =
    (Has (get (remove l.fn.shape.entries producer_time)) l.held.entries (take l.place-index (pairs_of l.device.sections)))
    × (l.held.dummies ≡ dummies_of l.device.sections)
