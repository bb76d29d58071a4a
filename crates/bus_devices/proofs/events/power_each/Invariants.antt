use Rattle.std.proofs.Common.{◌≡◌, ◌++◌, ◌≤◌, ◌+◌, length, take, drop}
use Rattle.bus_devices.specs.Events.{after_power_at}
use Rattle.image_parts.specs.Asking.{outcome, after_reads, reads}
use Rattle.image_parts.specs.Record.{Lasts}
use Rattle.image_parts.specs.Each.{each}
use Rattle.bus_devices.proofs.events.power_each.Given as goal

-- what is done and what is left give what all give
abbrev pub invariant-loop-device : goal.invariant-loop-device
invariant-loop-device g l =
    let seen = g.P.Asked.seen l.fn.shapes in
    let step = after_power_at l.fn.t l.fn.node l.fn.on in
    let rest = each step (drop l.device-index l.devices) in
    let all = each step l.fn.devices in
    record {
      state : take l.device-index l.devices ++ outcome rest seen.image ≡ outcome all seen.image;
      noted : after_reads rest (g.P.Asked.seen l.shapes) ≡ after_reads all seen;
      counted : g.P.Asked.asks l.shapes + length (reads rest seen.image)
          ≤ g.P.Asked.asks l.fn.shapes + length (reads all seen.image);
      lasts : Lasts seen (g.P.Asked.seen l.shapes);
    }
