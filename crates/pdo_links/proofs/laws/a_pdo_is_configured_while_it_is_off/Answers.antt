use Rattle.pdo_links.proofs.OrderLemmas.{rpdo_configured, tpdo_configured}
use Rattle.pdo_links.proofs.laws.a_pdo_is_configured_while_it_is_off.Goals as goal

pub returns-clause-tpdo : goal.returns-clause-tpdo
returns-clause-tpdo c = tpdo_configured

pub returns-clause-rpdo : goal.returns-clause-rpdo
returns-clause-rpdo c = rpdo_configured
