use Rattle.project_plan.proofs.LibraryLemmas.{none_read}
use Rattle.project_plan.proofs.library.Library.new.Goals as goal

pub invariant_of-result : goal.invariant_of-result
invariant_of-result c = rw c.new.ensures.empty (none_read c.args.project.now)
