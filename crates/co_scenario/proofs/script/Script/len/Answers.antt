use Rattle.std.proofs.Common.{ap, sym, ◌∙◌}
use Rattle.std.specs.FinMap as map
use Rattle.std.proofs.lemmas.Cmp.{nat_cmp_total}
use Rattle.std.proofs.lemmas.Map.Lookups.{exact_unsigned}
use Rattle.base.proofs.TableLemmas.{len_made}
use Rattle.co_scenario.proofs.script.Script.len.Goals as goal

pub returns : goal.returns
returns c = c.len.ensures.len
    ∙ sym (len_made nat_cmp_total exact_unsigned c.self.inside.events.entries c.len.ensures.ordered)
    ∙ ap map.len c.self.view_is
