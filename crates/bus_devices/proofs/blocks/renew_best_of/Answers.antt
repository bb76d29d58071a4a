use Rattle.std.proofs.Common.{◌<◌, arith, rules}
use Rattle.bus_devices.proofs.OutlookLemmas.{best_of_one}
use Rattle.bus_devices.proofs.SentLemmas.{as_many_now, bests_planned}
use Rattle.bus_devices.proofs.blocks.renew_best_of.Goals as goal

pub bounds-block-i : goal.bounds-block-i
bounds-block-i c =
    let within = c.requires.was.within in
    let many = as_many_now c.args.i c.args.block.now c.args.devices.now c.requires.was in
    let few = c.requires.few in
    omega (arith, within, many, few)

pub offset_bounds-block-i : goal.offset_bounds-block-i
offset_bounds-block-i c =
    let within = c.requires.was.within in
    let many = as_many_now c.args.i c.args.block.now c.args.devices.now c.requires.was in
    let few = c.requires.few in
    let small : c.args.i < 8 = omega (arith, within, many, few) in
    search rules

pub returns-clause-block : goal.returns-clause-block
returns-clause-block c =
    let d = c.index-devices-i.result in
    bests_planned c.args.i c.args.block.now c.args.devices.now c.requires.was d c.contender.result
    c.best_of_each-block.result _
    c.index-devices-i.is (best_of_one d c.contender.result c.contender.ensures) c.best_of_each-block.ensures
