use Rattle.std.proofs.Common.{ap, sym, ◌∙◌}
use Rattle.std.specs.FinMap as map
use Rattle.std.proofs.lemmas.Cmp.{nat_cmp_total}
use Rattle.std.proofs.lemmas.Map.Lookups.{exact_unsigned}
use Rattle.base.proofs.TableLemmas.{get_made}
use Rattle.network_image.proofs.window_table.WindowTable.get.Goals as goal

pub returns : goal.returns
returns c = c.get.ensures.value ∙ sym (get_made nat_cmp_total exact_unsigned c.self.inside.windows.entries c.args.i)
    ∙ ap (λ windows. map.get windows c.args.i) c.self.view_is
