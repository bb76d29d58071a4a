use Rattle.std.proofs.Common.{◌≡◌, ◌∙◌, Some, ap, rules, sym}
use Rattle.dict_values.proofs.PlaceLemmas.{inserted_again}
use Rattle.dict_values.proofs.dict.Dict.write_shared.Goals as goal

pub returns-then-holds-clause-ok : goal.returns-then-holds-clause-ok
returns-then-holds-clause-ok c =
    let octets : c.as_slice-octets.result.now ≡ c.args.bytes.now = c.as_slice-octets.ensures ∙ c.get.ensures in
    sym (inserted_again c.args.self.now (c.args.index, c.args.sub) c.args.bytes.now
    (c.holds.ensures c.if-holds.true ∙ ap Some octets))
