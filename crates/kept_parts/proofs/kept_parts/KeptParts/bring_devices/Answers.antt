use Rattle.std.proofs.Common.{arith, ◌≡◌, ◌∙◌, ◌∷◌, ℕ, List, true, is_some, subst}
use Rattle.std.proofs.lemmas.Grind.{common_steps}
use Rattle.co_project.specs.declared.node.Node.{Node}
use Rattle.co_project.specs.Project.{Content as Project}
use Rattle.co_project.specs.Tables.{text_at}
use Rattle.kept_parts.specs.Kept.{is_unmarked}
use Rattle.kept_parts.specs.declared.kept_parts.KeptParts.{KeptParts}
use Rattle.project_parts.specs.declared.part.Part.TheVariants as part
use Rattle.kept_parts.proofs.NodeLemmas.{SoFar, eds_there, so_far_start, so_far_more, so_far_brought, so_far_unmarked}
use Rattle.kept_parts.proofs.NodeLemmas.{so_far_value}
use Rattle.kept_parts.proofs.StepLemmas.{named_so}
use Rattle.kept_parts.proofs.kept_parts.KeptParts.bring_devices.Goals as goal

-- the device of an EDS whose text is there has no mark
there_so : (p : Project) (k : KeptParts) (name eds : List ℕ) → name ≡ eds
    → is_unmarked k (part.Device name) ≡ is_some (text_at p.texts name) → is_some (text_at p.texts eds) ≡ true
    → is_unmarked k (part.Device eds) ≡ true
there_so p k name eds same is there =
    subst (λ (e : List ℕ). is_unmarked k (part.Device e) ≡ is_some (text_at p.texts e)) same is ∙ there

pub loop-number-init : goal.loop-number-init
loop-number-init c =
    so_far_start c.args.project.now c.into_iter-number-iterator.result c.args.self.now c.args.meter.now
    c.new-devices.result (grind (arith, common_steps)) c.new-devices.ensures c.requires

pub bring_device-requires : goal.bring_device-requires
bring_device-requires c = c.loop-number.invariant.is

pub loop-number-preserved : goal.loop-number-preserved
loop-number-preserved c =
    let p = c.args.project.now in
    let e : ℕ × Node = (c.in-Some.number.now, c.in-Some.node.now) in
    let steps : c.loop-number.number-iterator ≡ e ∷ c.next.new.self = grind (arith, common_steps) in
    let before =
    subst (λ (it : List (ℕ × Node)). SoFar p it c.args.self.now c.loop-number.self c.args.meter.now
    c.loop-number.meter c.loop-number.devices) steps c.loop-number.invariant in
    so_far_more p e c.next.new.self c.args.self.now c.loop-number.self c.bring_device.new.self c.args.meter.now
    c.loop-number.meter c.bring_device.new.meter c.loop-number.devices c.push.new.self before
    (named_so p c.loop-number.self c.bring_device.new.self c.loop-number.meter c.bring_device.new.meter
    c.as_slice.result.now c.in-Some.node.now.eds c.as_slice.ensures c.in_ok-device.ensures.brings)
    c.in_ok-device.ensures.is_of (grind (arith, common_steps))
    (there_so c.args.project.now c.bring_device.new.self c.as_slice.result.now e.1.eds c.as_slice.ensures
    c.in_ok-device.ensures.unmarked
    (eds_there p e c.next.new.self c.args.self.now c.loop-number.self c.args.meter.now c.loop-number.meter
    c.loop-number.devices before c.keeps_to_rules.ensures))
    c.in_ok-device.ensures.stays

pub returns-clause-brings : goal.returns-clause-brings
returns-clause-brings c =
    so_far_brought c.args.project.now c.args.self.now c.loop-number.self c.args.meter.now c.loop-number.meter
    c.loop-number.devices
    (subst (λ (it : List (ℕ × Node)). SoFar c.args.project.now it c.args.self.now c.loop-number.self c.args.meter.now
    c.loop-number.meter c.loop-number.devices) c.in-None.ensures.steps.0 c.loop-number.invariant)

pub returns-clause-value : goal.returns-clause-value
returns-clause-value c =
    so_far_value c.args.project.now c.args.self.now c.loop-number.self c.args.meter.now c.loop-number.meter
    c.loop-number.devices
    (subst (λ (it : List (ℕ × Node)). SoFar c.args.project.now it c.args.self.now c.loop-number.self c.args.meter.now
    c.loop-number.meter c.loop-number.devices) c.in-None.ensures.steps.0 c.loop-number.invariant)

pub returns-clause-is_of : goal.returns-clause-is_of
returns-clause-is_of c = c.loop-number.invariant.is

pub returns-clause-unmarked : goal.returns-clause-unmarked
returns-clause-unmarked c =
    so_far_unmarked c.args.project.now c.args.self.now c.loop-number.self c.args.meter.now c.loop-number.meter
    c.loop-number.devices
    (subst (λ (it : List (ℕ × Node)). SoFar c.args.project.now it c.args.self.now c.loop-number.self c.args.meter.now
    c.loop-number.meter c.loop-number.devices) c.in-None.ensures.steps.0 c.loop-number.invariant)
