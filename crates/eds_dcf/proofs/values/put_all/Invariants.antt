use Rattle.std.proofs.Common.{◌≡◌}
use Rattle.std.specs.Vec.Iter.{into_iter_items}
use Rattle.eds_dcf.specs.Compact.{with_all}
use Rattle.eds_dcf.proofs.values.put_all.Given as goal

abbrev pub invariant-loop-setting : goal.invariant-loop-setting
invariant-loop-setting l = with_all l.settings.items (into_iter_items l.setting-iterator)
    ≡ with_all l.fn.settings.items l.fn.set.items
