use Rattle.std.proofs.Common.{ℕ, List, length}
use Rattle.workbench.specs.Views.{cursor_of}
use Rattle.workbench.proofs.PutReplies.{HasPut}
use Rattle.workbench.proofs.Runs.{Goes}
use Rattle.workbench.proofs.serving.put_lines.Given as goal

abbrev pub invariant-lines : goal.invariant-lines
invariant-lines g l =
    (done : List (List ℕ))
    × Goes (cursor_of l.initial.cursor) l.piece (cursor_of l.cursor) l.rest done
    × HasPut g.W.Outlet l.initial.writer l.initial.outbox l.writer l.outbox done

abbrev pub decreases-lines : goal.decreases-lines
decreases-lines g l = length l.rest
