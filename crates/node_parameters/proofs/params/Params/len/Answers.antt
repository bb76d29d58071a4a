use Rattle.std.proofs.Common.{ap, sym, ◌∙◌}
use Rattle.std.specs.FinMap as map
use Rattle.co_dict.proofs.PlaceLemmas.{len_made}
use Rattle.node_parameters.proofs.params.Params.len.Goals as goal

pub returns : goal.returns
returns c = c.len.ensures.len ∙ sym (len_made c.self.inside.texts.entries c.len.ensures.ordered)
    ∙ ap map.len c.self.view_is
