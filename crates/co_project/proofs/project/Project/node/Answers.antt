use Rattle.std.proofs.Common.{◌≡◌, ◌∙◌, ap, subst, true, is_some}
use Rattle.co_project.specs.Tables.{text_at, node_at}
use Rattle.co_project.specs.declared.project.Project.TheInside.{Inside}
use Rattle.co_project.specs.Project.{Content}
use Rattle.co_project.specs.Sound.{IsSound}
use Rattle.co_project.proofs.SoundLemmas.{IfSome-copied, nodes_have_texts}
use Rattle.co_project.proofs.project.Project.node.Goals as goal

pub returns-clause-eds : goal.returns-clause-eds
returns-clause-eds c =
    IfSome-copied (λ node. is_some (text_at c.args.self.now.texts node.eds)
    ≡ true) c.get.result (node_at c.args.self.now.nodes c.args.id)
    (c.get.ensures ∙ ap (λ (p : Inside). node_at p.contents.nodes c.args.id) c.self-inside.view_is
    ∙ ap (λ (p : Content). node_at p.nodes c.args.id) c.self.view_is)
    (nodes_have_texts c.args.self.now c.args.id (subst IsSound c.self.view_is c.self.invariant))
