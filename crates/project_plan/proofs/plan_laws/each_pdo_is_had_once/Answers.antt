use Rattle.project_plan.proofs.WritesLemmas.{sends_alone, takes_alone}
use Rattle.project_plan.proofs.plan_laws.each_pdo_is_had_once.Goals as goal

pub returns-clause-sent : goal.returns-clause-sent
returns-clause-sent c = sends_alone

pub returns-clause-taken : goal.returns-clause-taken
returns-clause-taken c = takes_alone
