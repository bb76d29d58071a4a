use Rattle.project_plan.proofs.NamedLemmas.{none_flagged}
use Rattle.project_plan.proofs.named.Named.none.Goals as goal

pub returns : goal.returns
returns c node = none_flagged 256 node
