use Rattle.pdo_rules.proofs.CarriedLaws.{carried}
use Rattle.pdo_rules.proofs.mapping_laws.what_is_packed_is_unpacked.Goals as goal

pub returns : goal.returns
returns c = carried
