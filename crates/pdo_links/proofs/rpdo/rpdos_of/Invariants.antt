use Rattle.std.proofs.Common.{take}
use Rattle.std.specs.Prelude.{filter_map}
use Rattle.pdo_links.specs.declared.taken.Taken.{Taken}
use Rattle.pdo_plan.specs.Plan.{clean}
use Rattle.pdo_links.specs.Tables.{IsTableOf}
use Rattle.pdo_links.specs.PdoWrites.{rpdo_of}
use Rattle.pdo_links.proofs.rpdo.rpdos_of.Given as goal

abbrev pub invariant-loop-planned : goal.invariant-loop-planned
invariant-loop-planned l =
    IsTableOf (λ (t : Taken). (t.clean.now, t.consumer.now)) l.rpdos.entries (filter_map (rpdo_of l.node)
    (clean (take l.planned-index l.messages)))
