use Rattle.std.proofs.Common.{◌≡◌, ◌≤◌, length, drop}
use Rattle.project_plan.specs.Wanted.{with_tpdos}
use Rattle.project_plan.proofs.wanted.write_messages.Given as goal

-- the last messages are written
abbrev pub invariant-loop-left : goal.invariant-loop-left
invariant-loop-left l = (l.left ≤ length l.messages)
    × (l.values ≡ with_tpdos l.initial.values l.id (drop l.left l.messages))

abbrev pub decreases-loop-left : goal.decreases-loop-left
decreases-loop-left l = l.left
