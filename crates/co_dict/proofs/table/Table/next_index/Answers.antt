use Rattle.std.proofs.Common.{sym, subst}
use Rattle.co_dict.specs.Tables.{IsNextIndexIn}
use Rattle.co_dict.proofs.TableLemmas.{next_first, no_next}
use Rattle.co_dict.proofs.table.Table.next_index.Goals as goal

pub returns : goal.returns
returns c =
    next_first c.self.inside.tree c.args.self.now c.self.view_is c.args.from c.range.result _ _
    (c.range.ensures.in_range tt) c.in_ok-place.ensures.steps

pub returns-in_err-place : goal.returns-in_err-place
returns-in_err-place c =
    subst (IsNextIndexIn c.args.self.now c.args.from) (sym c.from_residual.ensures)
    (no_next c.self.inside.tree c.args.self.now c.self.view_is c.args.from c.range.result
    (c.range.ensures.in_range tt) c.in_err-place.ensures.steps.0)
