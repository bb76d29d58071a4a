use Rattle.std.proofs.Common.{◌/◌, ◌<◌, List, length, rules, take, subst, ◌∙◌, ap}
use Rattle.co_device.specs.Device.{Device}
use Rattle.bus_devices.specs.Blocks.{IsBlockOf}
use Rattle.bus_devices.proofs.BlockLemmas.{front_is}
use Rattle.bus_devices.proofs.SentLemmas.{alarms_set, block_planned, block_was, place_within}
use Rattle.bus_devices.proofs.blocks.renew_best.Goals as goal

pub renew_best_of-requires-clause-was : goal.renew_best_of-requires-clause-was
renew_best_of-requires-clause-was c =
    let ds = c.args.devices.now in
    let rest = c.split_at.result.1.now in
    let front = front_is c.first_block.result rest c.split_at-2.result.0.now c.first_block.ensures
    c.split_at-2.ensures.front in
    block_was c.args.i c.args.blocks.now ds c.requires _ c.split_at-2.result.0.now
    (front ∙ ap (take 8) c.split_at.ensures.back)

pub returns-clause-blocks : goal.returns-clause-blocks
returns-clause-blocks c =
    let ds = c.args.devices.now in
    let rest = c.split_at.result.1.now in
    let front = front_is c.first_block.result rest c.split_at-2.result.0.now c.first_block.ensures
    c.split_at-2.ensures.front in
    block_planned c.args.i c.args.blocks.now ds c.requires c.renew_best_of.new.block
    (subst (λ (xs : List Device). IsBlockOf c.renew_best_of.new.block xs) (front ∙ ap (take 8) c.split_at.ensures.back)
    c.renew_best_of.ensures.block)

pub returns-clause-alarms : goal.returns-clause-alarms
returns-clause-alarms c =
    alarms_set c.args.blocks.now (c.args.i / 8) _ c.renew_best_of.new.block c.renew_best_of.ensures.alarm

pub bounds-blocks-place : goal.bounds-blocks-place
bounds-blocks-place c = place_within c.args.i c.args.blocks.now c.args.devices.now c.requires

pub offset_bounds-blocks-place : goal.offset_bounds-blocks-place
offset_bounds-blocks-place c =
    let within : c.args.i / 8 < length c.args.blocks.now =
    place_within c.args.i c.args.blocks.now c.args.devices.now c.requires in
    search rules
