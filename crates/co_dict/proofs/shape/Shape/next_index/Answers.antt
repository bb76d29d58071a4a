use Rattle.std.proofs.Common.{ap, subst, ◌∙◌}
use Rattle.co_dict.specs.Shapes.{Shaped}
use Rattle.co_dict.specs.Tables.{Described, IsNextIndexIn}
use Rattle.co_dict.proofs.shape.Shape.next_index.Goals as goal

pub returns : goal.returns
returns c =
    subst (λ (t : Described). IsNextIndexIn t c.args.from c.next_index.result)
    (c.table.ensures ∙ ap (λ (s : Shaped). s.entries) c.self.view_is) c.next_index.ensures
