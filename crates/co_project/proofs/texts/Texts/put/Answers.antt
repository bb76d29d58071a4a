use Rattle.std.proofs.Common.{ap, sym, ◌∙◌}
use Rattle.std.specs.FinMap as map
use Rattle.std.proofs.lemmas.Result.{err_from_is_err_and}
use Rattle.project_messages.proofs.NameLemmas.{made, value_found, value_put}
use Rattle.co_project.proofs.texts.Texts.put.Goals as goal

pub returns-clause-ok : goal.returns-clause-ok
returns-clause-ok c =
    value_put c.self.inside.texts.entries c.insert.new.self.entries c.into_vec.result c.args.text
    c.in_ok-insert.ensures.updates.0
    ∙ ap (λ texts. map.insert texts c.into_vec.result.items c.args.text) c.self.view_is
    ∙ ap (λ name. map.insert c.args.self.now name c.args.text) c.into_vec.ensures

pub returns-in_err-insert-clause-absent : goal.returns-in_err-insert-clause-absent
returns-in_err-insert-clause-absent c =
    let p = err_from_is_err_and c.from_residual.result c.from_residual.ensures.1 in
    rw p.1
    (ap (λ texts. map.get texts c.args.name) (sym c.self.view_is)
    ∙ ap (map.get (made c.self.inside.texts.entries)) (sym c.into_vec.ensures)
    ∙ value_found c.self.inside.texts.entries c.into_vec.result.items ∙ c.in_err-insert.ensures.absent)
