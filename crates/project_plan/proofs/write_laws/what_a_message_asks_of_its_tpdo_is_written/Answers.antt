use Rattle.project_plan.proofs.VendorAskedLemmas.{event_asked, inhibit_asked, start_asked}
use Rattle.project_plan.proofs.write_laws.what_a_message_asks_of_its_tpdo_is_written.Goals as goal

pub returns-clause-inhibit : goal.returns-clause-inhibit
returns-clause-inhibit c = inhibit_asked

pub returns-clause-event : goal.returns-clause-event
returns-clause-event c = event_asked

pub returns-clause-start : goal.returns-clause-start
returns-clause-start c = start_asked
