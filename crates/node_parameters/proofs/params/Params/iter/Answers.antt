use Rattle.std.proofs.Common.{ap, sym, ◌∙◌}
use Rattle.std.specs.FinMap as map
use Rattle.co_dict.proofs.PlaceLemmas.{entries_made}
use Rattle.node_parameters.proofs.params.Params.iter.Goals as goal

pub returns : goal.returns
returns c = c.iter.ensures.rest ∙ sym (entries_made c.self.inside.texts.entries c.iter.ensures.ordered)
    ∙ ap map.entries c.self.view_is
