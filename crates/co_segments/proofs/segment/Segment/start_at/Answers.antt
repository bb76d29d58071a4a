use Rattle.std.proofs.Common.{sym, ◌∙◌}
use Rattle.co_segments.proofs.segment.Segment.start_at.Goals as goal

pub returns : goal.returns
returns c = rw (← c.self.view_is)
    (c.in_ok-start.ensures, sym c.bus-own.ensures ∙ c.are_same-same.ensures.0 c.if-not-same.false)
