use Rattle.std.proofs.Common.{◌≡◌, filter_map}
use Rattle.std.specs.FinMap.{get}
use Rattle.eds_device.specs.Places.{first_subs}
use Rattle.eds_dcf.specs.Compact.{value_pair}
use Rattle.eds_dcf.proofs.compact.values_set.Given as goal

abbrev pub invariant-loop-sub : goal.invariant-loop-sub
invariant-loop-sub l = l.set.items ≡ filter_map (value_pair l.device (get l.values)) (first_subs l.index l.sub)
