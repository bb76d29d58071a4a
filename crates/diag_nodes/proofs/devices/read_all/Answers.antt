use Rattle.std.proofs.Common.{◌≡◌, ◌∙◌, ℕ, [], ◌∷◌, ap, sym, rules}
use Rattle.std.specs.FinMap.{entries}
use Rattle.co_project.specs.declared.node.Node.{Node}
use Rattle.co_project.specs.Project.{Content}
use Rattle.project_plan.specs.Library.{Read}
use Rattle.diag_nodes.proofs.DeviceLemmas.{all_read, one_more}
use Rattle.diag_nodes.proofs.devices.read_all.Goals as goal

pub loop-id-preserved : goal.loop-id-preserved
loop-id-preserved c =
    let e : ℕ × Node = (c.in-Some._id.now, c.in-Some.node.now) in
    let left : c.loop-id._id-iterator ≡ e ∷ c.next.new.self = search rules in
    record {
      project = ap (λ (r : Read). r.project) c.in_ok-read.ensures.ok ∙ c.loop-id.invariant.project;
      read = one_more c.loop-id.library c.read.new.self e c.as_slice.result.now c.next.new.self _ _ left
          c.as_slice.ensures c.in_ok-read.ensures.ok c.in_ok-read.ensures.read c.loop-id.invariant.read;
    }

pub returns-clause-read : goal.returns-clause-read
returns-clause-read c =
    let ended : c.loop-id._id-iterator ≡ [] = search rules in
    all_read c.loop-id.library c.loop-id._id-iterator _ ended (ap (λ (p : Content). entries p.nodes)
    (sym c.loop-id.invariant.project)) c.loop-id.invariant.read
