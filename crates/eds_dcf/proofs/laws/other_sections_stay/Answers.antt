use Rattle.eds_dcf.specs.Writes.{last_of}
use Rattle.eds_dcf.proofs.LawLemmas.{section_stays}
use Rattle.eds_dcf.proofs.laws.other_sections_stay.Goals as goal

pub returns : goal.returns
returns c = λ sheet writes s none unnamed. section_stays sheet (last_of writes) s none unnamed
