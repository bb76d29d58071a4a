use Rattle.std.proofs.Common.{◌<◌, ◌+◌, ◌∙◌, length, arith, rules}
use Rattle.std.proofs.lemmas.List.{drop-set-lt}
use Rattle.image_parts.proofs.RecordLemmas.{lasts_in_turn}
use Rattle.device_agenda.specs.Agenda.{at_instant}
use Rattle.image_parts.proofs.EachLemmas.{each_state, each_noted, each_counted}
use Rattle.bus_devices.specs.Blocks.{IsOutlookOf}
use Rattle.bus_devices.proofs.OutlookLemmas.{deaf_at, enough, outlook_at, outlook_set, ran_deaf}
use Rattle.bus_devices.proofs.StillLemmas.{behind_as, none_changed}
use Rattle.bus_devices.proofs.block.run_each.Goals as goal

pub loop-place-preserved : goal.loop-place-preserved
loop-place-preserved g c =
    let old = c.loop-place.invariant in
    let image = (g.P.Asked.seen c.args.shapes.now).image in
    let step = at_instant c.args.t c.args.delivery.now in
    let i = c.loop-place.place in
    let ss = c.loop-place.devices in
    let d = c.index-devices-place.result in
    let t = c.run_one.new.device in
    let within : i < length ss = omega arith in
    let many = enough IsOutlookOf c.loop-place.outlooks ss old.outlooks in
    let room : i < length c.loop-place.outlooks = omega (arith, many) in
    let e = c.in_ok-other.ensures in
    record {
      state = each_state step ss i d t within image (rw old.lasts.kept at e.ran.state) ∙ old.state;
      noted = each_noted step ss i d t within _ _ e.ran.asked.noted ∙ old.noted;
      counted = omega (
        arith,
        each_counted step ss i d t within image (g.P.Asked.asks c.loop-place.shapes)
            (g.P.Asked.asks c.run_one.new.shapes) (rw old.lasts.kept at e.ran.asked.counted),
        old.counted,
      );
      lasts = lasts_in_turn old.lasts e.lasts;
      still = none_changed c.args.outlooks.now c.loop-place.outlooks i _ c.run_one.new.outlook c.loop-place.changed
          c.in_ok-other.other room old.ahead old.still e.still;
      ahead = drop-set-lt (i + 1) c.loop-place.outlooks i c.run_one.new.outlook (omega arith)
          ∙ behind_as c.args.outlooks.now c.loop-place.outlooks i old.ahead;
      outlooks = outlook_set c.loop-place.outlooks ss i c.run_one.new.outlook t e.outlook old.outlooks;
      deaf = ran_deaf c.run_one.new.low_bytes ss i t (e.own (deaf_at c.loop-place.low_bytes ss i d within old.deaf))
          (e.deaf ss old.deaf);
      behind = drop-set-lt (i + 1) ss i t (omega arith) ∙ behind_as c.args.devices.now ss i old.behind;
    }

pub offset_bounds-outlooks-place : goal.offset_bounds-outlooks-place
offset_bounds-outlooks-place g c =
    let many = enough IsOutlookOf c.loop-place.outlooks c.loop-place.devices c.loop-place.invariant.outlooks in
    let within : c.loop-place.place < length c.loop-place.outlooks = omega (arith, many) in
    search rules

pub bounds-outlooks-place : goal.bounds-outlooks-place
bounds-outlooks-place g c =
    let many = enough IsOutlookOf c.loop-place.outlooks c.loop-place.devices c.loop-place.invariant.outlooks in
    omega (arith, many)

pub run_one-requires-clause-outlook : goal.run_one-requires-clause-outlook
run_one-requires-clause-outlook g c =
    outlook_at IsOutlookOf c.loop-place.outlooks c.loop-place.devices c.loop-place.place _ _ (omega arith)
    c.loop-place.invariant.outlooks
