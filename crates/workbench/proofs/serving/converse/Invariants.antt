use Rattle.std.proofs.Common.{◌≡◌, [], length}
use Rattle.workbench.specs.Views.{cursor_of}
use Rattle.workbench.proofs.Sessions.{HasServed}
use Rattle.workbench.proofs.serving.converse.Given as goal

abbrev pub invariant-loop-turn : goal.invariant-loop-turn
invariant-loop-turn g l =
    HasServed g.R.Intake g.W.Outlet l.initial.reader l.reader l.initial.writer l.writer (cursor_of l.cursor) l.room l._turn
    × (length l.buffer ≡ 4096)
    × (l.outbox ≡ [])
