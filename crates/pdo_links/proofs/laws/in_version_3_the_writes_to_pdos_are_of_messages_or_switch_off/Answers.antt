use Rattle.pdo_links.proofs.WhoseVendor.{of_vendor_pdos}
use Rattle.pdo_links.proofs.laws.in_version_3_the_writes_to_pdos_are_of_messages_or_switch_off.Goals as goal

pub returns : goal.returns
returns c = of_vendor_pdos
