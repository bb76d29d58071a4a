use Rattle.std.proofs.Common.{ap, sym, Some, ◌∙◌}
use Rattle.std.specs.FinMap as map
use Rattle.project_messages.proofs.NameLemmas.{value_found}
use Rattle.co_project.proofs.texts.Texts.get.Goals as goal

pub returns-in-Some : goal.returns-in-Some
returns-in-Some c =
    ap Some (c.as_slice.ensures ∙ c.get-in-Some.ensures) ∙ c.in-Some.ensures.value ∙ sym (value_found c.self.inside.texts.entries c.args.name.now)
    ∙ ap (λ texts. map.get texts c.args.name.now) c.self.view_is

pub returns-in-None : goal.returns-in-None
returns-in-None c = c.in-None.ensures.value ∙ sym (value_found c.self.inside.texts.entries c.args.name.now)
    ∙ ap (λ texts. map.get texts c.args.name.now) c.self.view_is
