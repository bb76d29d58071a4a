use Rattle.trace_spans.proofs.PassageLemmas.{latest_is_shown}
use Rattle.trace_spans.proofs.passage.Passage.is_shown.Goals as goal

pub returns : goal.returns
returns c = rw (← c.self.view_is, c.self.invariant.2) (latest_is_shown c.args.horizon c.self.inside.lines.items)
