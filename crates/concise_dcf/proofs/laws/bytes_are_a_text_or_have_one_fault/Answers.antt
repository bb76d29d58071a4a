use Rattle.concise_dcf.proofs.Entries.{text_or_fault, not_text_and_fault, one_fault}
use Rattle.concise_dcf.proofs.laws.bytes_are_a_text_or_have_one_fault.Goals as goal

pub returns-clause-either : goal.returns-clause-either
returns-clause-either c = text_or_fault

pub returns-clause-not_both : goal.returns-clause-not_both
returns-clause-not_both c = not_text_and_fault

pub returns-clause-one : goal.returns-clause-one
returns-clause-one c = one_fault
