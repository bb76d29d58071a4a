use Rattle.std.proofs.Common.{ap, sym, ◌∙◌}
use Rattle.std.specs.FinMap as map
use Rattle.std.proofs.lemmas.Cmp.{nat_cmp_total}
use Rattle.std.proofs.lemmas.Map.Lookups.{exact_unsigned}
use Rattle.base.proofs.TableLemmas.{get_made}
use Rattle.co_scenario.proofs.script.Script.get.Goals as goal

pub returns : goal.returns
returns c = c.get.ensures.value ∙ sym (get_made nat_cmp_total exact_unsigned c.self.inside.events.entries c.args.number)
    ∙ ap (λ events. map.get events c.args.number) c.self.view_is
