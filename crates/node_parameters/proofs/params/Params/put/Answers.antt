use Rattle.std.proofs.Common.{ℕ, ap, sym, ◌∙◌}
use Rattle.std.specs.FinMap as map
use Rattle.std.proofs.lemmas.Result.{err_from_is_err_and}
use Rattle.co_dict.proofs.PlaceLemmas.{get_place, one_written}
use Rattle.node_parameters.proofs.params.Params.put.Goals as goal

pub returns-clause-ok : goal.returns-clause-ok
returns-clause-ok c =
    let place : ℕ × ℕ = (c.args.index, c.args.sub) in
    one_written c.self.inside.texts.entries c.insert.new.self.entries place c.args.text c.in_ok-insert.ensures.updates.0
    ∙ ap (λ texts. map.insert texts place c.args.text) c.self.view_is

pub returns-in_err-insert-clause-absent : goal.returns-in_err-insert-clause-absent
returns-in_err-insert-clause-absent c =
    let place : ℕ × ℕ = (c.args.index, c.args.sub) in
    let p = err_from_is_err_and c.from_residual.result c.from_residual.ensures.1 in
    rw p.1 (ap (λ texts. map.get texts place) (sym c.self.view_is) ∙ get_place c.self.inside.texts.entries place
    ∙ c.in_err-insert.ensures.absent)
