use Rattle.eds_dcf.proofs.WholeLemmas.{dcf_counted}
use Rattle.eds_dcf.proofs.laws.values_are_counted.Goals as goal

pub returns : goal.returns
returns c =
    λ sheet node name bitrate writes section index there named.
    dcf_counted sheet node name bitrate writes section there index named
