use Rattle.std.proofs.Common.{ℕ, ap, sym, Some, ◌∙◌}
use Rattle.std.specs.FinMap as map
use Rattle.co_dict.proofs.PlaceLemmas.{get_place}
use Rattle.node_parameters.proofs.params.Params.get.Goals as goal

pub returns-in-Some : goal.returns-in-Some
returns-in-Some c =
    let place : ℕ × ℕ = (c.args.index, c.args.sub) in
    ap Some c.as_slice.ensures ∙ c.in-Some.ensures.value ∙ sym (get_place c.self.inside.texts.entries place)
    ∙ ap (λ texts. map.get texts place) c.self.view_is

pub returns-in-None : goal.returns-in-None
returns-in-None c =
    let place : ℕ × ℕ = (c.args.index, c.args.sub) in
    c.in-None.ensures.value ∙ sym (get_place c.self.inside.texts.entries place)
    ∙ ap (λ texts. map.get texts place) c.self.view_is
