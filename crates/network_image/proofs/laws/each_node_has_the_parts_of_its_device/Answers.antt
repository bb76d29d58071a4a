use Rattle.network_image.proofs.PartsLemmas.{its_parts, no_parts}
use Rattle.network_image.proofs.laws.each_node_has_the_parts_of_its_device.Goals as goal

pub returns-clause-nodes : goal.returns-clause-nodes
returns-clause-nodes c = its_parts

pub returns-clause-others : goal.returns-clause-others
returns-clause-others c = no_parts
