use Rattle.std.proofs.Common.{ap}
use Rattle.std.specs.FinMap as map
use Rattle.std.specs.Ordering.{nat_cmp}
use Rattle.base.proofs.EachLemmas.{each_empty}
use Rattle.network_image.specs.Held.{IsWindow}
use Rattle.network_image.proofs.window_table.WindowTable.new.Goals as goal

pub invariant_of-result : goal.invariant_of-result
invariant_of-result c = each_empty {R = nat_cmp} IsWindow (map.from_entries c.new.result.entries)
    (ap (map.from_entries {R = nat_cmp}) c.new.ensures.empty)
