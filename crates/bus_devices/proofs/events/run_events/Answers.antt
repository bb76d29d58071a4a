use Rattle.std.proofs.Common.{◌<◌, ◌∙◌, ap, sym, length, List, arith}
use Rattle.image_parts.proofs.RecordLemmas.{asked_none, lasts_in_turn}
use Rattle.image_parts.specs.Asking.{Asking, outcome}
use Rattle.co_device.specs.Device.{Device}
use Rattle.image_parts.specs.Contents.{Content}
use Rattle.image_parts.specs.declared.part.Part.{Part}
use Rattle.nmt_boot.specs.Manager.{Manager}
use Rattle.bus_devices.proofs.EventLemmas.{events_state, events_noted, events_counted, none_left}
use Rattle.bus_devices.proofs.events.run_events.Goals as goal

pub loop-step-preserved : goal.loop-step-preserved
loop-step-preserved g c =
    let old = c.loop-step.invariant in
    let seen = g.P.Asked.seen c.args.shapes.now in
    let t = c.args.t in
    let steps = c.args.steps.now in
    let i = c.loop-step.step-index in
    let d = c.step-item.result in
    let is = c.step-item.is in
    let ds = c.loop-step.devices in
    let after = c.happen.new.devices in
    let m = c.loop-step.manager in
    let n = c.happen.new.manager in
    let within : i < length steps = c.loop-step-test.true in
    let e = c.in_ok-happen.ensures in
    let devices = rw old.lasts.kept at e.devices in
    let manager = rw old.lasts.kept at e.manager in
    let state = events_state t steps i d within is ds after m n seen.image devices manager in
    record {
      devices = ap (λ (nodes : List Device × Manager). nodes.0) state ∙ old.devices;
      manager = ap (λ (nodes : List Device × Manager). nodes.1) state ∙ old.manager;
      noted = events_noted t steps i d within is ds after m n (g.P.Asked.seen c.loop-step.shapes)
          (g.P.Asked.seen c.happen.new.shapes) e.devices e.manager e.asked.noted ∙ old.noted;
      counted =
          omega (
            arith,
            events_counted t steps i d within is ds after m n seen.image (g.P.Asked.asks c.loop-step.shapes)
                (g.P.Asked.asks c.happen.new.shapes) devices manager (rw old.lasts.kept at e.asked.counted),
            old.counted,
          );
      lasts = lasts_in_turn old.lasts e.lasts;
    }

pub returns-clause-devices : goal.returns-clause-devices
returns-clause-devices g c =
    let seen = g.P.Asked.seen c.args.shapes.now in
    let left = none_left c.args.t c.args.steps.now c.loop-step.step-index (
      c.loop-step.devices,
      c.loop-step.manager,
    ) c.loop-step-test.false in
    ap (λ (none : Asking Part Content (List Device × Manager)). (outcome none seen.image).0) (sym left)
    ∙ c.loop-step.invariant.devices

pub returns-clause-manager : goal.returns-clause-manager
returns-clause-manager g c =
    let seen = g.P.Asked.seen c.args.shapes.now in
    let left = none_left c.args.t c.args.steps.now c.loop-step.step-index (
      c.loop-step.devices,
      c.loop-step.manager,
    ) c.loop-step-test.false in
    ap (λ (none : Asking Part Content (List Device × Manager)). (outcome none seen.image).1) (sym left)
    ∙ c.loop-step.invariant.manager

pub returns-clause-asked : goal.returns-clause-asked
returns-clause-asked g c =
    let left = none_left c.args.t c.args.steps.now c.loop-step.step-index (
      c.loop-step.devices,
      c.loop-step.manager,
    ) c.loop-step-test.false in
    record {
      noted = (asked_none _ _ (g.P.Asked.seen c.loop-step.shapes) 0 left).noted ∙ c.loop-step.invariant.noted;
      counted = omega (arith, c.loop-step.invariant.counted);
    }
