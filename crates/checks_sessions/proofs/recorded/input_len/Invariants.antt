use Rattle.std.proofs.Common.{◌-◌, ◌≤◌, length}
use Rattle.checks_sessions.proofs.recorded.input_len.Given as goal

abbrev pub invariant-loop-length : goal.invariant-loop-length
invariant-loop-length l = l.length ≤ length l.text

abbrev pub decreases-loop-length : goal.decreases-loop-length
decreases-loop-length l = length l.text - l.length
