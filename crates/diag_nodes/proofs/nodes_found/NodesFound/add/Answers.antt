use Rattle.std.proofs.Common.{ℕ, List, ap, ◌∙◌}
use Rattle.std.specs.FinMap.{insert}
use Rattle.diag_nodes.proofs.HeldLemmas.{sheet_put}
use Rattle.diag_nodes.proofs.nodes_found.NodesFound.add.Goals as goal

pub returns : goal.returns
returns c =
    sheet_put c.self.inside.sheets c.args.self.now c.self.view_is c.insert.new.self c.in_ok-name.name c.args.sheet
    c.in_ok-insert.ensures.updates
    ∙ ap (λ (n : List ℕ). insert c.args.self.now n c.args.sheet) c.in_ok-name.ensures.items
