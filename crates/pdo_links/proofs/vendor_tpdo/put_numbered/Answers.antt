use Rattle.cia301.specs.PdoObjects.{tpdo_object}
use Rattle.pdo_links.proofs.Used.{anyway}
use Rattle.pdo_links.proofs.VendorValues.{unused_values}
use Rattle.pdo_links.proofs.vendor_tpdo.put_numbered.Goals as goal

pub returns-in-None-clause-fits : goal.returns-in-None-clause-fits
returns-in-None-clause-fits c = λ sheet node is.
    anyway c.put_unused.result (rw c.in-None.is (unused_values sheet node c.args.device.now is (tpdo_object c.args.number)))
