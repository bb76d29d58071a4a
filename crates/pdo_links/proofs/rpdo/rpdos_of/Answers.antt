use Rattle.pdo_links.specs.declared.taken.Taken.{Taken}
use Rattle.pdo_links.specs.PdoWrites.{rpdo_of}
use Rattle.pdo_links.proofs.Tabled.{none_tabled, skipped, noted}
use Rattle.pdo_links.proofs.rpdo.rpdos_of.Goals as goal
use Rattle.pdo_links.proofs.rpdo.rpdos_of.Goals.{in-Some+in_ok-put_first, in_default}

pub loop-planned-init : goal.loop-planned-init
loop-planned-init c = none_tabled (λ (t : Taken). (t.clean.now, t.consumer.now))
    (rpdo_of c.args.node) _ c.new-rpdos.ensures.empty

pub loop-planned-preserved : goal.loop-planned-preserved
loop-planned-preserved c = elim c.match-rpdo_of.branch [
  | in-Some+in_ok-put_first w ↦ rw w.rpdos-is (noted (λ (t : Taken). (t.clean.now, t.consumer.now))
      (rpdo_of c.args.node) _ _ c.args.messages.now c.loop-planned.planned-index _ c.planned-item.result
      w.in-Some.taken.consumer.now.rpdo w.in-Some.taken c.loop-planned-test.true c.planned-item.is w.in-Some.ensures
      w.in_ok-put_first.ensures c.loop-planned.invariant)
  | in_default w ↦ rw w.rpdos-is (skipped (λ (t : Taken). (t.clean.now, t.consumer.now))
      (rpdo_of c.args.node) _ c.args.messages.now c.loop-planned.planned-index _ c.planned-item.result
      c.loop-planned-test.true c.planned-item.is w.in_default.ensures c.loop-planned.invariant)
]
