use Rattle.std.proofs.Common.{refl}
use Rattle.bus_devices.proofs.OutlookLemmas.{follows_all, follows_more}
use Rattle.bus_devices.proofs.block.outlook_of.Goals as goal

pub loop-place-init : goal.loop-place-init
loop-place-init c = record {
  alarm = λ ds long h. c.none-all.ensures.agenda;
  best = λ ds long h. c.none-all.ensures.best;
}

pub loop-place-preserved : goal.loop-place-preserved
loop-place-preserved c =
    follows_more c.loop-place.all _ c.add.new.self c.args.each.now c.args.count c.loop-place.place _
    c.loop-place-test.true c.add.ensures.alarm c.add.ensures.best refl c.loop-place.invariant

pub returns : goal.returns
returns c =
    follows_all c.loop-place.all c.args.each.now c.args.count c.loop-place.place c.loop-place-test.false
    c.loop-place.invariant
