use Rattle.std.proofs.Common.{sym, ◌∙◌}
use Rattle.kept_parts.proofs.KindLemmas.{found_now}
use Rattle.kept_parts.proofs.kept_parts.KeptParts.has_diagnostics.Goals as goal

pub returns-then-is_fresh : goal.returns-then-is_fresh
returns-then-is_fresh c = (
  λ _. found_now c.args.project.now c.args.self.now c.requires (sym c.is_fresh.ensures ∙ c.if-is_fresh.true),
  λ _. c.if-is_fresh.true,
)
