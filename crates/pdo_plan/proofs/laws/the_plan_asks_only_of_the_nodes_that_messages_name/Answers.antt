use Rattle.pdo_plan.proofs.NamedLemmas.{named_alike}
use Rattle.pdo_plan.proofs.laws.the_plan_asks_only_of_the_nodes_that_messages_name.Goals as goal

pub returns : goal.returns
returns c = λ controller a b messages same. named_alike controller a b messages same
