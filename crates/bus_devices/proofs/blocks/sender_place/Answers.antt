use Rattle.std.proofs.Common.{◌≡◌, ℕ, ◌+◌, ◌*◌, ◌<◌, List, length, None, Some, take, sym, subst, ap, ◌∙◌, arith}
use Rattle.bus_devices.specs.Senders.{sender_place}
use Rattle.bus_devices.proofs.BlockLemmas.{front_is}
use Rattle.bus_devices.proofs.PassLemmas.{first_is, rest_is}
use Rattle.bus_devices.proofs.SenderLemmas.{no_device, none_of_all, none_of_both, sends_behind, sends_within}
use Rattle.bus_devices.proofs.SentLemmas.{block_at, covered}
use Rattle.co_device.specs.Device.{Device}
use Rattle.bus_devices.proofs.blocks.sender_place.Goals as goal

pub loop-i-init : goal.loop-i-init
loop-i-init c = no_device c.args.contender.now

pub place_in-requires : goal.place_in-requires
place_in-requires c =
    let i = c.loop-i.i in
    let ds = c.args.devices.now in
    let rest = c.split_at.result.1.now in
    let back = rest_is (8 * i) c.devices_of.result ds rest c.devices_of.ensures c.split_at.ensures.back in
    let front = front_is c.first_block.result rest c.split_at-in-loop-i.result.0.now c.first_block.ensures
    c.split_at-in-loop-i.ensures.front in
    rw (front ∙ ap (take 8) back) (block_at i c.args.blocks.now ds _ c.loop-i-test.true c.requires)

pub returns-in-Some : goal.returns-in-Some
returns-in-Some c =
    let i = c.loop-i.i in
    let ds = c.args.devices.now in
    let rest = c.split_at.result.1.now in
    let before = first_is (8 * i) c.devices_of.result ds c.split_at.result.0.now c.devices_of.ensures
    c.split_at.ensures.front in
    let back = rest_is (8 * i) c.devices_of.result ds rest c.devices_of.ensures c.split_at.ensures.back in
    let front = front_is c.first_block.result rest c.split_at-in-loop-i.result.0.now c.first_block.ensures
    c.split_at-in-loop-i.ensures.front in
    subst (λ (xs : List Device). Some (length xs + c.in-Some.place) ≡ sender_place c.args.contender.now ds) (sym before)
    (sends_behind c.args.contender.now ds (8 * i) c.loop-i.invariant c.in-Some.place
    (rw (front ∙ ap (take 8) back) at (sym c.in-Some.is ∙ c.place_in.ensures)))

pub loop-i-preserved : goal.loop-i-preserved
loop-i-preserved c =
    let i = c.loop-i.i in
    let ds = c.args.devices.now in
    let rest = c.split_at.result.1.now in
    let back = rest_is (8 * i) c.devices_of.result ds rest c.devices_of.ensures c.split_at.ensures.back in
    let front = front_is c.first_block.result rest c.split_at-in-loop-i.result.0.now c.first_block.ensures
    c.split_at-in-loop-i.ensures.front in
    subst (λ (n : ℕ). None ≡ sender_place c.args.contender.now (take n ds)) (omega arith)
    (none_of_both c.args.contender.now ds (8 * i) c.loop-i.invariant 8
    (rw (front ∙ ap (take 8) back) at (sym c.in_default.is ∙ c.place_in.ensures)))

pub returns : goal.returns
returns c =
    let ds = c.args.devices.now in
    let all = covered c.args.blocks.now ds c.requires in
    none_of_all c.args.contender.now ds (8 * c.loop-i.i) (omega (arith, all, c.loop-i-test.false)) c.loop-i.invariant

pub overflow_add-result : goal.overflow_add-result
overflow_add-result c =
    let within : c.in-Some.place < length c.split_at-in-loop-i.result.0.now =
    sends_within c.args.contender.now c.split_at-in-loop-i.result.0.now c.in-Some.place (sym c.in-Some.is ∙ c.place_in.ensures) in
    omega (arith, within, c.split_at.ensures.back_len, c.split_at.ensures.front_len, c.split_at-in-loop-i.ensures.front_len)
