use Rattle.network_laws.proofs.ControllerReads.{controller_not_booted}
use Rattle.network_laws.proofs.read_laws.nothing_is_read_to_boot_the_controller.Goals as goal

pub returns : goal.returns
returns c = controller_not_booted
