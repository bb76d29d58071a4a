use Rattle.std.proofs.Common.{◌≡◌, ◌≤◌, ◌+◌, length, drop}
use Rattle.image_parts.specs.Asking.{outcome, after_reads, reads}
use Rattle.image_parts.specs.Record.{Lasts}
use Rattle.bus_devices.specs.Events.{after_events_at}
use Rattle.bus_devices.proofs.events.run_events.Given as goal

-- the events that are left do to what is there what all do
abbrev pub invariant-loop-step : goal.invariant-loop-step
invariant-loop-step g l =
    let seen = g.P.Asked.seen l.fn.shapes in
    let rest = after_events_at l.fn.t (drop l.step-index l.steps) (l.devices, l.manager) in
    let all = after_events_at l.fn.t l.fn.steps (l.fn.devices, l.fn.manager) in
    record {
      devices : (outcome rest seen.image).0 ≡ (outcome all seen.image).0;
      manager : (outcome rest seen.image).1 ≡ (outcome all seen.image).1;
      noted : after_reads rest (g.P.Asked.seen l.shapes) ≡ after_reads all seen;
      counted : g.P.Asked.asks l.shapes + length (reads rest seen.image)
          ≤ g.P.Asked.asks l.fn.shapes + length (reads all seen.image);
      lasts : Lasts seen (g.P.Asked.seen l.shapes);
    }
