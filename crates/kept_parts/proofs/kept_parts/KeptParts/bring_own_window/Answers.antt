use Rattle.std.proofs.Common.{◌∙◌, sym}
use Rattle.kept_parts.proofs.KindLemmas.{window_stays}
use Rattle.kept_parts.proofs.kept_parts.KeptParts.bring_own_window.Goals as goal

pub returns-then-is_fresh-clause-brings : goal.returns-then-is_fresh-clause-brings
returns-then-is_fresh-clause-brings c =
    window_stays c.args.project.now c.args.self.now c.requires.is_of c.args.i
    (sym c.is_fresh.ensures ∙ c.if-is_fresh.true) c.args.meter.now
