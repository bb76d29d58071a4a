use Rattle.std.proofs.Common.{◌≡◌, ◌≤◌, ◌-◌, length, take}
use Rattle.std.specs.Io.KnownBytes.{Appends}
use Rattle.streams.proofs.outbox.write_all.Given as goal

abbrev pub invariant-loop-at : goal.invariant-loop-at
invariant-loop-at g l =
    (l.at ≤ length l.text)
    × Appends (g.W.Outlet.contents l.initial.writer) (g.W.Outlet.contents l.writer) (take l.at l.text)
    × (g.W.Outlet.failures l.writer ≡ g.W.Outlet.failures l.initial.writer)

abbrev pub decreases-loop-at : goal.decreases-loop-at
decreases-loop-at g l = length l.text - l.at
