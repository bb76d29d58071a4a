use Rattle.std.proofs.Common.{ap, sym, ◌∙◌}
use Rattle.std.specs.FinMap as map
use Rattle.std.proofs.lemmas.Cmp.{nat_cmp_total}
use Rattle.std.proofs.lemmas.Map.Lookups.{exact_unsigned}
use Rattle.base.proofs.TableLemmas.{get_made}
use Rattle.network_image.proofs.node_table.NodeTable.get.Goals as goal

pub returns : goal.returns
returns c = c.get.ensures.value ∙ sym (get_made nat_cmp_total exact_unsigned c.self.inside.nodes.entries c.args.id)
    ∙ ap (λ nodes. map.get nodes c.args.id) c.self.view_is
