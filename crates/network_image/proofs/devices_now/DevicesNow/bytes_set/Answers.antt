use Rattle.std.proofs.Common.{◌≡◌, ◌∙◌, ◌&&◌, true, false, List, ℕ, Some, option_copied, option_map, sym, ap, rules}
use Rattle.std.specs.Result.{result_ok}
use Rattle.part_shelves.specs.SheetText.{sheet_made}
use Rattle.part_shelves.specs.Slots.{sheet_kept}
use Rattle.co_project.specs.Project.{is_controller}
use Rattle.network_image.specs.Controller.{is_producer_time}
use Rattle.network_image.proofs.DeviceLemmas.{device_set, none_set, time_set}
use Rattle.network_image.proofs.devices_now.DevicesNow.bytes_set.Goals as goal

pub returns-in_default : goal.returns-in_default
returns-in_default c =
    none_set c.args.self.now.project.now c.args.self.now.devices.now c.args.node c.args.index c.args.sub c.args.text.now
    (sym (ap option_copied c.in_default.is) ∙ c.node.ensures.node)

pub returns-then-is_producer_time : goal.returns-then-is_producer_time
returns-then-is_producer_time c =
    let own : is_controller c.args.self.now.project.now c.args.node ≡ true = search rules in
    let time : is_producer_time (c.args.index, c.args.sub) ≡ true = search rules in
    time_set c.args.self.now.project.now c.args.self.now.devices.now c.args.node c.args.index c.args.sub c.args.text.now
    own time

pub returns-in-Ok : goal.returns-in-Ok
returns-in-Ok c =
    let other : is_controller c.args.self.now.project.now c.args.node && is_producer_time (c.args.index, c.args.sub)
    ≡ false = search rules in
    ap result_ok (sym c.in-Ok.is ∙ c.in_ok-given.ensures.given)
    ∙ device_set c.args.self.now.project.now c.args.self.now.devices.now c.args.node c.args.index c.args.sub
    c.args.text.now other c.in-Some.known.now (Some c.get.result.now) c.args.self.now.holds c.in-Some.ensures.node
    (ap Some c.get.ensures ∙ c.in-Some-value.ensures
    ∙ ap (λ (name : List ℕ). option_map sheet_made (sheet_kept c.args.self.now.devices.now name))
    c.as_slice.ensures)

pub returns-in-Err : goal.returns-in-Err
returns-in-Err c =
    let other : is_controller c.args.self.now.project.now c.args.node && is_producer_time (c.args.index, c.args.sub)
    ≡ false = search rules in
    ap result_ok (sym c.in-Err.is ∙ c.in_ok-given.ensures.given)
    ∙ device_set c.args.self.now.project.now c.args.self.now.devices.now c.args.node c.args.index c.args.sub
    c.args.text.now other c.in-Some.known.now (Some c.get.result.now) c.args.self.now.holds c.in-Some.ensures.node
    (ap Some c.get.ensures ∙ c.in-Some-value.ensures
    ∙ ap (λ (name : List ℕ). option_map sheet_made (sheet_kept c.args.self.now.devices.now name))
    c.as_slice.ensures)
