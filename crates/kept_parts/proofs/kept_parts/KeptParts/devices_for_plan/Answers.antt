use Rattle.std.proofs.Common.{arith, refl, ap, option_map, ◌≡◌, ◌∙◌, ◌∷◌, ◌++◌, ℕ, List, Option, subst}
use Rattle.std.proofs.lemmas.Grind.{common_steps}
use Rattle.std.specs.Option.{option_to_list}
use Rattle.eds_device.specs.Sheets.{Sheet}
use Rattle.co_project.specs.declared.node.Node.{Node}
use Rattle.part_shelves.specs.SheetText.{sheet_made}
use Rattle.part_shelves.specs.Slots.{sheet_kept}
use Rattle.part_shelves.proofs.SlotLemmas.{sheet_read}
use Rattle.project_plan.specs.Network.{device_at}
use Rattle.kept_parts.specs.declared.kept_parts.KeptParts.{KeptParts}
use Rattle.kept_parts.proofs.KindLemmas.{device_now}
use Rattle.kept_parts.proofs.NodeLemmas.{Gathered, gathered_all, gathered_more, gathered_next, gathered_none}
use Rattle.kept_parts.proofs.StepLemmas.{with_devices}
use Rattle.kept_parts.proofs.kept_parts.KeptParts.devices_for_plan.Goals as goal

pub loop-number-init : goal.loop-number-init
loop-number-init c = (
  refl,
  gathered_none c.args.project.now c.into_iter-number-iterator.result c.new-devices.result
      (grind (arith, common_steps)) c.new-devices.ensures,
)

pub returns-in_err-device-clause-same : goal.returns-in_err-device-clause-same
returns-in_err-device-clause-same c =
    ap (with_devices c.loop-number.self) c.shared.ensures.same ∙ c.loop-number.invariant.0

pub returns-in_err-push-clause-same : goal.returns-in_err-push-clause-same
returns-in_err-push-clause-same c =
    ap (with_devices c.loop-number.self) c.shared.ensures.same ∙ c.loop-number.invariant.0

pub loop-number-preserved : goal.loop-number-preserved
loop-number-preserved c =
    let p = c.args.project.now in
    let old = c.args.self.now in
    let e : ℕ × Node = (c.in-Some.number.now, c.in-Some.node.now) in
    let name : List ℕ = c.as_slice-name.result.now in
    let steps : c.loop-number.number-iterator ≡ e ∷ c.next.new.self = grind (arith, common_steps) in
    let before =
    subst (λ (it : List (ℕ × Node)). Gathered p it c.loop-number.devices) steps c.loop-number.invariant.1 in
    let unmarked = gathered_next p e c.next.new.self c.loop-number.devices old before c.requires.unmarked in
    let value : c.in_ok-device.device ≡ device_at p e.1.eds = c.in_ok-device.ensures.device
    ∙ ap (λ (k : KeptParts). option_map sheet_made (sheet_kept k.devices name)) c.loop-number.invariant.0
    ∙ ap (λ (n : List ℕ). option_map sheet_made (sheet_kept old.devices n)) c.as_slice-name.ensures
    ∙ ap (option_map sheet_made) (device_now p old c.requires.is_of e.1.eds unmarked) ∙ sheet_read p e.1.eds in (
      ap (with_devices c.loop-number.self) c.shared.ensures.same ∙ c.loop-number.invariant.0,
      gathered_more p e c.next.new.self c.loop-number.devices c.push.new.self before
          (c.in_ok-push.ensures
          ∙ ap (λ (d : Option Sheet). c.loop-number.devices ++ option_to_list (option_map (λ d. (e.0, d)) d)) value),
    )

pub returns-clause-same : goal.returns-clause-same
returns-clause-same c = c.loop-number.invariant.0

pub returns-clause-value : goal.returns-clause-value
returns-clause-value c =
    gathered_all c.args.project.now c.loop-number.devices
    (subst (λ (it : List (ℕ × Node)). Gathered c.args.project.now it c.loop-number.devices)
    c.in-None.ensures.steps.0 c.loop-number.invariant.1)
