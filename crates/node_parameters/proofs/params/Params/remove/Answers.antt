use Rattle.std.proofs.Common.{ℕ, ap, ◌∙◌}
use Rattle.std.specs.FinMap as map
use Rattle.node_parameters.proofs.TextLemmas.{one_removed}
use Rattle.node_parameters.proofs.params.Params.remove.Goals as goal

pub returns : goal.returns
returns c =
    let place : ℕ × ℕ = (c.args.index, c.args.sub) in
    one_removed c.self.inside.texts.entries c.remove.new.self.entries place c.remove.ensures.updates.0
    ∙ ap (λ texts. map.remove texts place) c.self.view_is
