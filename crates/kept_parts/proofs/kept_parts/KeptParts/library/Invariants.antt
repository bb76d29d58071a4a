use Rattle.std.proofs.Common.{◌≡◌}
use Rattle.kept_parts.proofs.kept_parts.KeptParts.library.Given as goal

abbrev pub invariant-loop-name : goal.invariant-loop-name
invariant-loop-name l = l.library.project ≡ l.project
