use Rattle.std.proofs.Common.{◌≡◌, ◌*◌, take, length}
use Rattle.can_frame.specs.TraceLines.{spaced_bytes}
use Rattle.can_frame.proofs.trace_line.spaced.Given as goal

abbrev pub invariant-loop-place : goal.invariant-loop-place
invariant-loop-place l = record {
  long : length l.spaced ≡ 24;
  written : take (3 * l.place) l.spaced ≡ spaced_bytes (take l.place l.bytes);
}
