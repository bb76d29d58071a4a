use Rattle.std.proofs.Common.{◌≡◌, map}
use Rattle.device_objects.specs.Consumers.{waiting_for_start}
use Rattle.device_objects.proofs.SubLemmas.{subs_to}
use Rattle.device_objects.proofs.consumers.consumers_of.Given as goal

-- those of the sub-indices so far are there
abbrev pub invariant-loop-i : goal.invariant-loop-i
invariant-loop-i l = l.consumers.items ≡ map (waiting_for_start l.values) (subs_to l.shape l.i)
