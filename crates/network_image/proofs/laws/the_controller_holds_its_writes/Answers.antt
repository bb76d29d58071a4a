use Rattle.network_image.proofs.OwnLemmas.{holds_its_writes}
use Rattle.network_image.proofs.laws.the_controller_holds_its_writes.Goals as goal

pub returns : goal.returns
returns c = holds_its_writes
