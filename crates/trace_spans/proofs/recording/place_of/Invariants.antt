use Rattle.std.proofs.Common.{take}
use Rattle.trace_spans.specs.Records.{IsNewAmong}
use Rattle.trace_spans.proofs.recording.place_of.Given as goal

-- it is none of those so far
abbrev pub invariant-loop-place : goal.invariant-loop-place
invariant-loop-place l = IsNewAmong l.name (take l.place l.reads)
