use Rattle.std.proofs.Common.{ap, ◌∙◌}
use Rattle.std.specs.FinMap as map
use Rattle.std.proofs.lemmas.Cmp.{nat_cmp_total}
use Rattle.std.proofs.lemmas.Map.Lookups.{exact_unsigned}
use Rattle.base.proofs.TableLemmas.{made_removed}
use Rattle.co_scenario.proofs.script.Script.remove.Goals as goal

pub returns : goal.returns
returns c =
    made_removed nat_cmp_total exact_unsigned c.self.inside.events.entries c.remove.new.self.entries c.args.number
    c.remove.ensures.updates.0
    ∙ ap (λ events. map.remove events c.args.number) c.self.view_is
