use Rattle.pdo_links.proofs.VendorOrder.{turned_off}
use Rattle.pdo_links.proofs.laws.an_unused_pdo_is_switched_off_at_most.Goals as goal

pub returns-clause-one : goal.returns-clause-one
returns-clause-one c = λ device object. (turned_off device object).0

pub returns-clause-off : goal.returns-clause-off
returns-clause-off c = λ device object. (turned_off device object).1
