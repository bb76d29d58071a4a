use Rattle.kept_values.proofs.Flags.{none_flagged}
use Rattle.kept_values.proofs.shelf.Shelf.mark_all.Goals as goal

pub returns-clause-fresh : goal.returns-clause-fresh
returns-clause-fresh g c = λ q. none_flagged 256 q
