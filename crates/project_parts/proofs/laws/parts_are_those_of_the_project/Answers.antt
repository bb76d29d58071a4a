use Rattle.project_parts.proofs.PlanLemmas.{concise_is_of, dcf_is_of, plan_is, writes_are_of}
use Rattle.project_parts.proofs.laws.parts_are_those_of_the_project.Goals as goal

pub returns-clause-plan : goal.returns-clause-plan
returns-clause-plan c = plan_is

pub returns-clause-writes : goal.returns-clause-writes
returns-clause-writes c = writes_are_of

pub returns-clause-concise : goal.returns-clause-concise
returns-clause-concise c = concise_is_of

pub returns-clause-dcf : goal.returns-clause-dcf
returns-clause-dcf c = dcf_is_of
