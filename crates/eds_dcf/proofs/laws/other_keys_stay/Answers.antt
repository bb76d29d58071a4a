use Rattle.eds_dcf.specs.Writes.{last_of}
use Rattle.eds_dcf.proofs.LawLemmas.{parameter_others}
use Rattle.eds_dcf.proofs.laws.other_keys_stay.Goals as goal

pub returns : goal.returns
returns c = λ sheet writes s place key is other. parameter_others sheet (last_of writes) s place is key other
