use Rattle.std.proofs.Common.{◌<◌, ◌∙◌, ap, length, arith}
use Rattle.image_parts.proofs.RecordLemmas.{lasts_in_turn}
use Rattle.co_device.specs.Device.{Device}
use Rattle.co_device.specs.Receiving.{after_sync_at}
use Rattle.co_device.proofs.RpdoLemmas.{synced_many}
use Rattle.co_device.proofs.WalkLemmas.{walked_state, walked_noted, walked_counted}
use Rattle.co_device.proofs.device.Device.take_sync.Goals as goal

pub loop-i-preserved : goal.loop-i-preserved
loop-i-preserved g c =
    let old = c.loop-i.invariant in
    let kept = old.lasts.kept in
    let image = (g.P.Asked.seen c.args.shapes.now).image in
    let step = after_sync_at c.args.t in
    let i = c.loop-i.i in
    let n = length c.args.self.now.rpdos in
    let s = c.loop-i.self in
    let s' = c.sync_rpdo.new.self in
    let within : i < length c.args.self.now.rpdos = rw (← c.self.view_is) (omega (arith, c.loop-i-test.true)) in
    let e = c.in_ok-sync_rpdo.ensures in
    record {
      state = walked_state step i n s s' within image (rw kept at e.ran.state) ∙ old.state;
      noted = walked_noted step i n s s' within _ _ e.ran.state e.ran.asked.noted ∙ old.noted;
      counted = omega (
        arith,
        walked_counted step i n s s' within image (rw kept at e.ran.state)
            (g.P.Asked.asks c.loop-i.shapes) (g.P.Asked.asks c.sync_rpdo.new.shapes) (rw kept at e.ran.asked.counted),
        old.counted,
      );
      lasts = lasts_in_turn old.lasts e.lasts;
      many = ap (λ (x : Device). length x.rpdos) (rw kept at e.ran.state) ∙ synced_many image c.args.t i c.loop-i.self
          ∙ old.many;
    }
