use Rattle.std.proofs.Common.{◌<◌, ◌∙◌, length, arith}
use Rattle.image_parts.proofs.RecordLemmas.{lasts_in_turn}
use Rattle.bus_devices.specs.Events.{after_power_at}
use Rattle.image_parts.proofs.EachLemmas.{each_state, each_noted, each_counted}
use Rattle.bus_devices.proofs.events.power_each.Goals as goal

pub loop-device-preserved : goal.loop-device-preserved
loop-device-preserved g c =
    let old = c.loop-device.invariant in
    let image = (g.P.Asked.seen c.args.shapes.now).image in
    let step = after_power_at c.args.t c.args.node c.args.on in
    let i = c.loop-device.device-index in
    let ss = c.loop-device.devices in
    let d = c.device-item.result in
    let t = c.power_one.new.device in
    let within : i < length ss = omega arith in
    let e = c.in_ok-power_one.ensures in
    record {
      state = each_state step ss i d t within image (rw old.lasts.kept at e.ran.state) ∙ old.state;
      noted = each_noted step ss i d t within _ _ e.ran.asked.noted ∙ old.noted;
      counted = omega (
        arith,
        each_counted step ss i d t within image (g.P.Asked.asks c.loop-device.shapes)
            (g.P.Asked.asks c.power_one.new.shapes) (rw old.lasts.kept at e.ran.asked.counted),
        old.counted,
      );
      lasts = lasts_in_turn old.lasts e.lasts;
    }
