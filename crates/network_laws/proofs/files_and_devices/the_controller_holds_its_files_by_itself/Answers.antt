use Rattle.network_laws.proofs.OwnFilesLemmas.{holds_by_itself}
use Rattle.network_laws.proofs.files_and_devices.the_controller_holds_its_files_by_itself.Goals as goal

pub returns : goal.returns
returns c = holds_by_itself
