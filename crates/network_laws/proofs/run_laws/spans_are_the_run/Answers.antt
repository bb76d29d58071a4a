use Rattle.std.proofs.Common.{◌≡◌, ◌+◌, suc, arith}
use Rattle.can_bus.proofs.SpanLemmas.{spans_are_the_run}
use Rattle.network_laws.proofs.run_laws.spans_are_the_run.Goals as goal

pub returns : goal.returns
returns c image count s = let more : count + 1 ≡ suc count = omega arith in rw more (spans_are_the_run image count s)
