use Rattle.std.proofs.Common.{sym}
use Rattle.dict_values.proofs.PlaceLemmas.{inserted_again}
use Rattle.dict_values.proofs.dict.Dict.write.Goals as goal

pub returns-then-holds-clause-ok : goal.returns-then-holds-clause-ok
returns-then-holds-clause-ok c = sym
    (inserted_again c.args.self.now (c.args.index, c.args.sub) c.args.bytes.now (c.holds.ensures c.if-holds.true))
