use Rattle.std.proofs.Common.{false, refl, subst, arith}
use Rattle.std.proofs.lemmas.List.{take_all}
use Rattle.bus_devices.specs.Blocks.{IsBestOf}
use Rattle.co_device.specs.Device.{without_power}
use Rattle.bus_devices.proofs.OutlookLemmas.{best_more, outlook_at}
use Rattle.bus_devices.proofs.SenderLemmas.{IsBest}
use Rattle.bus_devices.proofs.block.best_of_each.Goals as goal

pub loop-place-init : goal.loop-place-init
loop-place-init c = λ ds long h. refl

pub loop-place-preserved : goal.loop-place-preserved
loop-place-preserved c = λ ds long h.
    let i = c.loop-place.place in
    let d = without_power false 0 in
    best_more c.loop-place.best _ c.keep_winner.new.best ds i d (omega (arith, long)) (c.loop-place.invariant ds long h)
    (outlook_at IsBestOf c.args.each.now ds i _ d (omega (arith, long)) h) c.keep_winner.ensures

pub returns : goal.returns
returns c = λ ds long h.
    subst (IsBest c.loop-place.best) (take_all c.loop-place.place ds (omega (arith, long)))
    (c.loop-place.invariant ds long h)
