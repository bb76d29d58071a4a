use Rattle.std.proofs.Common.{take, Bor}
use Rattle.std.specs.Prelude.{filter_map}
use Rattle.pdo_choices.specs.declared.clean.Clean.{Clean}
use Rattle.pdo_plan.specs.Plan.{clean}
use Rattle.pdo_links.specs.Tables.{IsTableOf}
use Rattle.pdo_links.specs.PdoWrites.{tpdo_of}
use Rattle.pdo_links.proofs.tpdo.tpdos_of.Given as goal

abbrev pub invariant-loop-planned : goal.invariant-loop-planned
invariant-loop-planned l = IsTableOf (λ (c : Bor Clean). c.now) l.tpdos.entries (filter_map (tpdo_of l.node)
    (clean (take l.planned-index l.messages)))
