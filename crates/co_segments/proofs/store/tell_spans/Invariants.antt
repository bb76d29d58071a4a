use Rattle.std.proofs.Common.{◌≡◌, ◌≤◌, ◌+◌, ◌-◌, ◌++◌, ℕ}
use Rattle.image_parts.specs.Asking.{outcome, turns}
use Rattle.can_bus.specs.Spans.{span}
use Rattle.kept_values.specs.Work.{Rises}
use Rattle.trace_spans.specs.Spans.{IsReady, lines_of_spans}
use Rattle.co_segments.specs.Progress.{progress, state_of}
use Rattle.co_segments.specs.Segments.{Traced, at_power_on, recorded_from}
use Rattle.co_segments.specs.Stocks.{StandsAt, held_in}
use Rattle.co_segments.proofs.store.tell_spans.Given as goal

-- the trace so far, and what is left of it
abbrev pub invariant-loop-number : goal.invariant-loop-number
invariant-loop-number g l =
    let image = (g.P.Asked.seen l.fn.parts).image in
    let held = held_in l.fn.stock in
    let bus = l.here.state.bus in
    record {
      lines : l.telling.told ++ (outcome (turns span (l.count - l.number) l.number bus) image).1
          ≡ lines_of_spans image l.count;
      traced : (read : ℕ) × (
          Traced image l.fn.stock.recent.capacity (at_power_on held l.fn.meter) l.number
          (state_of bus (progress l.stock l.telling l.meter l.parts) read)
          × (g.P.Asked.asks l.parts + recorded_from l.number (held_in l.stock)
          ≤ g.P.Asked.asks l.fn.parts + recorded_from 0 held + read));
      ready : IsReady l.number bus;
      stands : StandsAt image l.number l.stock l.telling.look l.here;
      capacity : l.stock.recent.capacity ≡ l.fn.stock.recent.capacity;
      kept : (g.P.Asked.seen l.parts).image ≡ image;
      rises : Rises l.fn.meter l.meter;
    }
