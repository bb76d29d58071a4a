use Rattle.std.proofs.Common.{take}
use Rattle.eds_device.specs.Places.{pairs_of}
use Rattle.eds_device.proofs.MapLemmas.{Has}
use Rattle.project_plan.specs.Wanted.{wanted_value}
use Rattle.project_plan.proofs.wanted.values_given.Given as goal

abbrev pub invariant-loop-place : goal.invariant-loop-place
invariant-loop-place l =
    Has (wanted_value l.device l.params l.id) l.values (take l.place-index (pairs_of l.device.sections))
