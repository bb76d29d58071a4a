use Rattle.std.proofs.Common.{◌≡◌, Some, option_and_then, refl, sym, ap, ◌∙◌}
use Rattle.project_edits.specs.Versions.{is_three}
use Rattle.co_project.specs.declared.node.Node.{Node}
use Rattle.project_plan.specs.Network.{device_at}
use Rattle.project_parts.proofs.PlanLemmas.{made_as_asked, made_so}
use Rattle.project_parts.proofs.writes_now.WritesNow.of.Goals as goal

pub invariant_of-result : goal.invariant_of-result
invariant_of-result c =
    let p = c.args.project.now in
    let there : Some c.in_ok-device.device ≡ c.args.device = sym c.in_ok-device.was in
    record {
      made_for =
          made_so c.is_three.result _ c.args.plan c.in_ok-device.device c.in_ok-device.device c.args.node c.requires.plan refl
          (made_as_asked p c.is_three.result (c.is_three.ensures ∙ ap is_three c.version.ensures) c.args.node c.in_ok-known.known.now c.in_ok-device.device c.in_ok-known.ensures.node
          (there ∙ c.requires.device
          ∙ ap (option_and_then (λ (n : Node). device_at p n.eds)) (sym c.in_ok-known.ensures.node)));
    }
