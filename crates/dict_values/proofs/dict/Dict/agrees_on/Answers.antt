use Rattle.dict_values.proofs.LayerLemmas.{agree_nowhere}
use Rattle.dict_values.proofs.dict.Dict.agrees_on.Goals as goal

pub returns-in-None : goal.returns-in-None
returns-in-None c = agree_nowhere c.args.places.now c.args.self.now c.args.other.now c.in-None.ensures
