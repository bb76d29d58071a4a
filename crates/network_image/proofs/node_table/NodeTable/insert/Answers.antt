use Rattle.std.proofs.Common.{ap, ◌∙◌}
use Rattle.std.specs.FinMap as map
use Rattle.std.proofs.lemmas.Cmp.{nat_cmp_total}
use Rattle.std.proofs.lemmas.Map.Lookups.{exact_unsigned}
use Rattle.base.proofs.TableLemmas.{made_put}
use Rattle.network_image.proofs.node_table.NodeTable.insert.Goals as goal

pub returns : goal.returns
returns c =
    made_put nat_cmp_total exact_unsigned c.self.inside.nodes.entries c.insert.new.self.entries c.args.id c.args.parts
    c.in_ok-insert.ensures.updates.0
    ∙ ap (λ nodes. map.insert nodes c.args.id c.args.parts) c.self.view_is
