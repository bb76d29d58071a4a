use Rattle.eds_dcf.proofs.WholeLemmas.{dcf_stands}
use Rattle.eds_dcf.proofs.laws.an_entry_has_its_last_value.Goals as goal

pub returns : goal.returns
returns c = λ sheet node name bitrate writes place typed. dcf_stands sheet node name bitrate writes place typed
