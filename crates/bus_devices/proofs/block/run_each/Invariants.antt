use Rattle.std.proofs.Common.{◌≡◌, ◌↔◌, ◌++◌, ◌≤◌, ◌+◌, false, length, take, drop}
use Rattle.device_agenda.specs.Agenda.{at_instant}
use Rattle.device_agenda.specs.LowBytes.{AreDeafBeyond}
use Rattle.image_parts.specs.Asking.{outcome, after_reads, reads}
use Rattle.image_parts.specs.Record.{Lasts}
use Rattle.image_parts.specs.Each.{each}
use Rattle.bus_devices.specs.Blocks.{AreOutlooksOf}
use Rattle.bus_devices.proofs.block.run_each.Given as goal

-- what is done and what is left give what all give; nothing else is known of those so far, where that is said, and
-- only there; those that are left are as they were, and so is what is known of them
abbrev pub invariant-loop-place : goal.invariant-loop-place
invariant-loop-place g l =
    let seen = g.P.Asked.seen l.fn.shapes in
    let step = at_instant l.fn.t l.fn.delivery in
    let rest = each step (drop l.place l.devices) in
    let all = each step l.fn.devices in
    record {
      state : take l.place l.devices ++ outcome rest seen.image ≡ outcome all seen.image;
      noted : after_reads rest (g.P.Asked.seen l.shapes) ≡ after_reads all seen;
      counted : g.P.Asked.asks l.shapes + length (reads rest seen.image)
          ≤ g.P.Asked.asks l.fn.shapes + length (reads all seen.image);
      lasts : Lasts seen (g.P.Asked.seen l.shapes);
      still : l.changed ≡ false ↔ (l.outlooks ≡ l.fn.outlooks);
      ahead : drop l.place l.outlooks ≡ drop l.place l.fn.outlooks;
      behind : drop l.place l.devices ≡ drop l.place l.fn.devices;
      outlooks : AreOutlooksOf l.outlooks l.devices;
      deaf : AreDeafBeyond l.low_bytes l.devices;
    }
