use Rattle.kept_values.proofs.Flags.{none_flagged}
use Rattle.part_shelves.proofs.window_shelf.WindowShelf.mark_all.Goals as goal

pub returns-clause-fresh : goal.returns-clause-fresh
returns-clause-fresh c = λ q. none_flagged 1024 q
