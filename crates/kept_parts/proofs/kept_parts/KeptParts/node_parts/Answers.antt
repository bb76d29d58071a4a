use Rattle.std.proofs.Common.{◌∙◌, None, Some, option_copied, sym, ap}
use Rattle.kept_values.specs.Shelved.{kept_at}
use Rattle.project_plan.specs.Network.{writes_of, Member}
use Rattle.project_parts.proofs.MadeLemmas.{own_parts}
use Rattle.kept_parts.proofs.NetworkLemmas.{all_parts, no_parts, node_held, writes_held}
use Rattle.kept_parts.proofs.StepLemmas.{writes_shown}
use Rattle.kept_parts.proofs.kept_parts.KeptParts.node_parts.Goals as goal

pub returns-in_default : goal.returns-in_default
returns-in_default c =
    no_parts c.args.project.now c.args.self.now c.args.id (own_parts c.args.project.now c.args.id)
    (sym (ap option_copied c.in_default.is) ∙ c.value.ensures
    ∙ node_held c.args.project.now c.args.self.now c.args.id c.requires)

pub returns-in_default-value : goal.returns-in_default-value
returns-in_default-value c =
    let p = c.args.project.now in
    let k = c.args.self.now in
    let n = c.args.id in
    no_parts p k n (λ (m : Member). writes_of p m n)
    (writes_shown (kept_at k.writes n) None (sym (ap option_copied c.in_default-value.is) ∙ c.value-2.ensures)
    ∙ writes_held p k n c.requires)

pub returns : goal.returns
returns c =
    let p = c.args.project.now in
    let k = c.args.self.now in
    let n = c.args.id in
    ap Some c.from_shared.ensures
    ∙ ap Some (λ i. record {
      defaults = c.in_ok-defaults.ensures i;
      shape = c.in_ok-shape.ensures i;
      expect = c.in_ok-expect.ensures i;
      writes = c.in_ok-writes.writes.value;
    })
    ∙ all_parts p k n c.in-Some.node.now c.in_ok-writes.writes.value (c.in-Some.ensures ∙ node_held p k n c.requires)
    (ap Some (c.in_ok-writes.ensures ∙ c.writes.ensures)
    ∙ writes_shown (kept_at k.writes n) (Some c.in-Some-value.written.now) c.in-Some-value.ensures
    ∙ writes_held p k n c.requires)
