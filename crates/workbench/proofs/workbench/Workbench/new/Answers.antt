use Rattle.std.proofs.Common.{ap}
use Rattle.co_segments.specs.Segments.{HeldSegments}
use Rattle.workbench.proofs.workbench.Workbench.new.Goals as goal

pub invariant_of-result : goal.invariant_of-result
invariant_of-result c = (
  c.new-3.ensures.is_of c.new-2.result,
  c.new-3.ensures.swept c.new-2.result,
  ap (λ (h : HeldSegments). h.capacity) c.in_ok-store.ensures,
)
