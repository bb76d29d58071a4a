use Rattle.std.proofs.Common.{◌≡◌, ◌≤◌, ◌+◌, length, Some}
use Rattle.image_parts.specs.Asking.{outcome, after_reads, reads}
use Rattle.image_parts.specs.Record.{Lasts}
use Rattle.co_device.specs.Receiving.{rpdo_places, after_sync_at, walk}
use Rattle.pdo_rules.specs.Sync.{sync_message}
use Rattle.co_device.proofs.WalkLemmas.{from}
use Rattle.co_device.proofs.device.Device.take_sync.Given as goal

-- what is left, from what stands now, gives what all give
abbrev pub invariant-loop-i : goal.invariant-loop-i
invariant-loop-i g l =
    let seen = g.P.Asked.seen l.fn.shapes in
    let rest = walk (after_sync_at l.fn.t) (from l.i (length l.fn.self.rpdos)) l.self in
    let all = walk (after_sync_at l.fn.t) (rpdo_places l.fn.self) (record l.fn.self { synced = Some (sync_message l.fn.bytes) }) in
    record {
      state : outcome rest seen.image ≡ outcome all seen.image;
      noted : after_reads rest (g.P.Asked.seen l.shapes) ≡ after_reads all seen;
      counted : g.P.Asked.asks l.shapes + length (reads rest seen.image)
          ≤ g.P.Asked.asks l.fn.shapes + length (reads all seen.image);
      lasts : Lasts seen (g.P.Asked.seen l.shapes);
      many : length l.self.rpdos ≡ length l.fn.self.rpdos;
    }
