use Rattle.std.proofs.Common.{Bor}
use Rattle.pdo_choices.specs.declared.clean.Clean.{Clean}
use Rattle.pdo_links.specs.PdoWrites.{tpdo_of}
use Rattle.pdo_links.proofs.Tabled.{none_tabled, skipped, noted}
use Rattle.pdo_links.proofs.tpdo.tpdos_of.Goals as goal
use Rattle.pdo_links.proofs.tpdo.tpdos_of.Goals.{in-Some+in_ok-put_first, in_default}

pub loop-planned-init : goal.loop-planned-init
loop-planned-init c = none_tabled (λ (c : Bor Clean). c.now) (tpdo_of c.args.node) _ c.new-tpdos.ensures.empty

pub loop-planned-preserved : goal.loop-planned-preserved
loop-planned-preserved c = elim c.match-tpdo_of.branch [
  | in-Some+in_ok-put_first w ↦ rw w.tpdos-is (noted (λ (c : Bor Clean). c.now)
      (tpdo_of c.args.node) _ _ c.args.messages.now c.loop-planned.planned-index _ c.planned-item.result
      w.in-Some.clean.now.message.tpdo w.in-Some.clean c.loop-planned-test.true c.planned-item.is w.in-Some.ensures
      w.in_ok-put_first.ensures c.loop-planned.invariant)
  | in_default w ↦ rw w.tpdos-is (skipped (λ (c : Bor Clean). c.now)
      (tpdo_of c.args.node) _ c.args.messages.now c.loop-planned.planned-index _ c.planned-item.result
      c.loop-planned-test.true c.planned-item.is w.in_default.ensures c.loop-planned.invariant)
]
