use Rattle.pdo_links.proofs.WhoseVendor.{unused_written, vendor_sent_written, vendor_taken_written}
use Rattle.pdo_links.proofs.laws.in_version_3_no_pdo_of_a_node_is_missing.Goals as goal

pub returns-clause-sent : goal.returns-clause-sent
returns-clause-sent c = vendor_sent_written

pub returns-clause-taken : goal.returns-clause-taken
returns-clause-taken c = vendor_taken_written

pub returns-clause-unused : goal.returns-clause-unused
returns-clause-unused c = unused_written
