use Rattle.std.proofs.Common.{◌<◌, false, get_or, length, arith, rules, sym, ◌∙◌}
use Rattle.bus_devices.specs.Blocks.{IsOutlookOf}
use Rattle.co_device.specs.Device.{without_power}
use Rattle.bus_devices.proofs.OutlookLemmas.{enough, outlook_at}
use Rattle.bus_devices.proofs.SenderLemmas.{contends_is, none_next, none_of_all, sends_next}
use Rattle.bus_devices.proofs.block.place_by_each.Goals as goal

pub returns-then-is_same : goal.returns-then-is_same
returns-then-is_same c =
    let ds = c.args.devices.now in
    let i = c.loop-place.place in
    let none = without_power false 0 in
    let known = outlook_at IsOutlookOf c.args.each.now ds i _ none c.loop-place-test.true c.requires in
    sends_next c.args.contender.now ds i c.loop-place.invariant none c.loop-place-test.true
    (contends_is c.args.contender.now (get_or ds i none) _ known.best ∙ sym c.is_same.ensures ∙ c.if-is_same.true)

pub loop-place-preserved : goal.loop-place-preserved
loop-place-preserved c =
    let ds = c.args.devices.now in
    let i = c.loop-place.place in
    let none = without_power false 0 in
    let known = outlook_at IsOutlookOf c.args.each.now ds i _ none c.loop-place-test.true c.requires in
    none_next c.args.contender.now ds i c.loop-place.invariant none c.loop-place-test.true
    (contends_is c.args.contender.now (get_or ds i none) _ known.best ∙ sym c.is_same.ensures ∙ c.if-is_same.false)

pub returns : goal.returns
returns c = none_of_all c.args.contender.now c.args.devices.now c.loop-place.place c.loop-place-test.false
    c.loop-place.invariant

pub bounds-each-place : goal.bounds-each-place
bounds-each-place c =
    let many = enough IsOutlookOf c.args.each.now c.args.devices.now c.requires in omega (arith, many)

pub offset_bounds-each-place : goal.offset_bounds-each-place
offset_bounds-each-place c =
    let many = enough IsOutlookOf c.args.each.now c.args.devices.now c.requires in
    let within : c.loop-place.place < length c.args.each.now = omega (arith, many) in
    search rules
