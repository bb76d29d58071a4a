use Rattle.std.proofs.Common.{ap, ◌∙◌}
use Rattle.std.specs.FinMap as map
use Rattle.co_dict.proofs.PlaceLemmas.{one_written}
use Rattle.co_dict.proofs.table.Table.insert.Goals as goal

pub returns-clause-ok : goal.returns-clause-ok
returns-clause-ok c =
    one_written c.self.inside.tree.entries c.insert.new.self.entries c.args.place c.args.entry
    c.in_ok-insert.ensures.updates.0
    ∙ ap (λ m. map.insert m c.args.place c.args.entry) c.self.view_is
