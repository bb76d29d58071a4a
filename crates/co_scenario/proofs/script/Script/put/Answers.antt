use Rattle.std.proofs.Common.{ap, sym, ◌∙◌}
use Rattle.std.specs.FinMap as map
use Rattle.std.proofs.lemmas.Result.{err_from_is_err_and}
use Rattle.std.proofs.lemmas.Cmp.{nat_cmp_total}
use Rattle.std.proofs.lemmas.Map.Lookups.{exact_unsigned}
use Rattle.base.proofs.TableLemmas.{get_made, made_put}
use Rattle.co_scenario.proofs.script.Script.put.Goals as goal

pub returns-clause-ok : goal.returns-clause-ok
returns-clause-ok c =
    made_put nat_cmp_total exact_unsigned c.self.inside.events.entries c.insert.new.self.entries c.args.number
    c.args.event c.in_ok-insert.ensures.updates.0
    ∙ ap (λ events. map.insert events c.args.number c.args.event) c.self.view_is

pub returns-in_err-insert-clause-absent : goal.returns-in_err-insert-clause-absent
returns-in_err-insert-clause-absent c =
    let p = err_from_is_err_and c.from_residual.result c.from_residual.ensures.1 in
    rw p.1
    (ap (λ events. map.get events c.args.number) (sym c.self.view_is)
    ∙ get_made nat_cmp_total exact_unsigned c.self.inside.events.entries c.args.number
    ∙ c.in_err-insert.ensures.absent)
