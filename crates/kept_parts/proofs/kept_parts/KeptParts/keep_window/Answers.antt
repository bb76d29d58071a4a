use Rattle.std.proofs.Common.{Some, ap, sym, ◌∙◌}
use Rattle.kept_parts.proofs.KindLemmas.{window_brought, window_is_of, window_stays}
use Rattle.kept_parts.proofs.kept_parts.KeptParts.keep_window.Goals as goal

pub returns-then-is_fresh-clause-brings : goal.returns-then-is_fresh-clause-brings
returns-then-is_fresh-clause-brings c =
    window_stays c.args.project.now c.args.self.now c.requires.is_of c.args.i
    (sym c.is_fresh.ensures ∙ c.if-is_fresh.true) c.args.meter.now

pub returns-clause-is_of : goal.returns-clause-is_of
returns-clause-is_of c =
    window_is_of c.args.project.now c.args.self.now c.requires.is_of c.args.i c.keep.new.self
    (Some c.in_ok-steps.steps.items) (ap Some c.in_ok-steps.ensures) c.in_ok-keep.ensures.ok c.in_ok-keep.ensures.fresh

pub returns-clause-brings : goal.returns-clause-brings
returns-clause-brings c =
    window_brought c.args.project.now c.args.self.now c.requires.is_of c.args.i c.keep.new.self
    (Some c.in_ok-steps.steps.items) (ap Some c.in_ok-steps.ensures) c.in_ok-keep.ensures.ok c.in_ok-keep.ensures.fresh
    c.args.meter.now c.keep.new.meter c.in_ok-keep.ensures.counted
