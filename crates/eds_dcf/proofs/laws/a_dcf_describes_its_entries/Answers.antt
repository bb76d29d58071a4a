use Rattle.eds_dcf.proofs.WholeLemmas.{dcf_described, dcf_new_types, dcf_pairs}
use Rattle.eds_dcf.proofs.laws.a_dcf_describes_its_entries.Goals as goal

pub returns-clause-entries : goal.returns-clause-entries
returns-clause-entries c = λ sheet node name bitrate writes. dcf_pairs sheet node name bitrate writes

pub returns-clause-described : goal.returns-clause-described
returns-clause-described c =
    λ sheet node name bitrate writes index sub. dcf_described sheet node name bitrate writes index sub

pub returns-clause-new_types : goal.returns-clause-new_types
returns-clause-new_types c = λ sheet node name bitrate writes. dcf_new_types sheet node name bitrate writes
