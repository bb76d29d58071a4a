use Rattle.std.proofs.Common.{length, ap, ◌∙◌}
use Rattle.kept_values.proofs.NumberLemmas.{counted_keys}
use Rattle.kept_values.proofs.rest.Rest.count.Goals as goal

pub returns : goal.returns
returns g c = rw (← c.self.view_is) (ap length c.keys.ensures ∙ counted_keys g.V.Numbered.number_of c.self.inside.cache.entries c.self.inside.index c.args.number 0 c.self.invariant.1)
