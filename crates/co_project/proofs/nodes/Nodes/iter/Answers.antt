use Rattle.std.proofs.Common.{ap, sym, ◌∙◌}
use Rattle.std.specs.FinMap as map
use Rattle.std.proofs.lemmas.Cmp.{nat_cmp_total}
use Rattle.std.proofs.lemmas.Map.Lookups.{exact_unsigned}
use Rattle.base.proofs.TableLemmas.{entries_made}
use Rattle.co_project.proofs.nodes.Nodes.iter.Goals as goal

pub returns : goal.returns
returns c = c.iter.ensures.rest
    ∙ sym (entries_made nat_cmp_total exact_unsigned c.self.inside.nodes.entries c.iter.ensures.ordered)
    ∙ ap map.entries c.self.view_is
