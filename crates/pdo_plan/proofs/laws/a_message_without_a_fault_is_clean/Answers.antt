use Rattle.pdo_plan.proofs.JudgedLemmas.{judged_clean, judged_faulty}
use Rattle.pdo_plan.proofs.laws.a_message_without_a_fault_is_clean.Goals as goal

pub returns-clause-clean : goal.returns-clause-clean
returns-clause-clean c = λ had devices m d e. let is = judged_clean had devices m d e in (is.faultless, is.identifier)

pub returns-clause-faulty : goal.returns-clause-faulty
returns-clause-faulty c = judged_faulty
