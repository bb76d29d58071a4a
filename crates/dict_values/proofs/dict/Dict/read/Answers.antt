use Rattle.std.proofs.Common.{ℕ, ap, ◌∙◌}
use Rattle.std.specs.FinMap as map
use Rattle.dict_values.proofs.LayerLemmas.{found_above, found_below}
use Rattle.dict_values.proofs.dict.Dict.read.Goals as goal

pub returns-in-Some-clause-value : goal.returns-in-Some-clause-value
returns-in-Some-clause-value c =
    let key : ℕ × ℕ = (c.args.index, c.args.sub) in
    found_above c.self.inside.base c.self.inside.own key c.in-Some.bytes.now c.in-Some.ensures.value
    ∙ ap (λ m. map.get m key) c.self.view_is

pub returns-in-None-clause-value : goal.returns-in-None-clause-value
returns-in-None-clause-value c =
    let key : ℕ × ℕ = (c.args.index, c.args.sub) in
    c.get-in-None.ensures.value ∙ found_below c.self.inside.base c.self.inside.own key c.in-None.ensures.value
    ∙ ap (λ m. map.get m key) c.self.view_is
