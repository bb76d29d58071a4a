use Rattle.network_image.proofs.CoherentLemmas.{coherent, is_image}
use Rattle.network_image.proofs.MandatoryLemmas.{never_mandatory}
use Rattle.network_image.proofs.laws.the_image_is_coherent.Goals as goal

pub returns-clause-image : goal.returns-clause-image
returns-clause-image c = is_image

pub returns-clause-coherent : goal.returns-clause-coherent
returns-clause-coherent c = coherent

pub returns-clause-mandatory : goal.returns-clause-mandatory
returns-clause-mandatory c = never_mandatory
