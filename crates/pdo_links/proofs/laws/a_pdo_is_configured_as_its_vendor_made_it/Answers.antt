use Rattle.pdo_links.proofs.VendorOrder.{vendor_rpdo_configured, vendor_tpdo_configured}
use Rattle.pdo_links.proofs.laws.a_pdo_is_configured_as_its_vendor_made_it.Goals as goal

pub returns-clause-tpdo : goal.returns-clause-tpdo
returns-clause-tpdo c = vendor_tpdo_configured

pub returns-clause-rpdo : goal.returns-clause-rpdo
returns-clause-rpdo c = vendor_rpdo_configured
