use Rattle.eds_dcf.specs.Writes.{last_of}
use Rattle.eds_dcf.proofs.CompactLemmas.{others_there}
use Rattle.eds_dcf.proofs.KeptSectionLemmas.{values_kept}
use Rattle.eds_dcf.proofs.laws.other_keys_of_values_stay.Goals as goal

pub returns-clause-section : goal.returns-clause-section
returns-clause-section c =
    λ sheet writes s index object highest key named is modelled plain other.
    values_kept sheet (last_of writes) s index object highest key named is modelled plain other

pub returns-clause-pairs : goal.returns-clause-pairs
returns-clause-pairs c =
    λ sheet writes index object highest pairs key is modelled plain other.
    others_there sheet (last_of writes) index object highest pairs key is modelled plain other
