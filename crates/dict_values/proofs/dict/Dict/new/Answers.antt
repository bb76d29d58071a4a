use Rattle.dict_values.proofs.FingerprintLemmas.{none_counted}
use Rattle.dict_values.proofs.LayerLemmas.{none_layered}
use Rattle.dict_values.proofs.dict.Dict.new.Goals as goal

pub returns : goal.returns
returns c = none_layered c.new.result c.new-2.result c.new.ensures c.new-2.ensures

pub invariant_of-result : goal.invariant_of-result
invariant_of-result c = none_counted _ (none_layered c.new.result c.new-2.result c.new.ensures c.new-2.ensures)
