use Rattle.std.proofs.Common.{arith}
use Rattle.std.proofs.lemmas.Grind.{common_steps}
use Rattle.std.proofs.lemmas.List.Elements.{filter_map-append}
use Rattle.pdo_stations.proofs.consumed.taken_mapping.Goals as goal

pub loop-source-preserved : goal.loop-source-preserved
loop-source-preserved c = grind (arith, common_steps, filter_map-append)
