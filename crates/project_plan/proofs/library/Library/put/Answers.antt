use Rattle.std.proofs.Common.{◌≡◌, ◌∙◌, Some}
use Rattle.project_plan.specs.Network.{device_at}
use Rattle.project_plan.proofs.LibraryLemmas.{added_described, device_added, device_there}
use Rattle.project_plan.proofs.library.Library.put.Goals as goal

pub invariant_of-self-2 : goal.invariant_of-self-2
invariant_of-self-2 c =
    let project = c.self.inside.project.now in
    let there : device_at project c.args.name.now ≡ Some c.args.device =
    device_there project c.self.inside.devices.entries c.args.self.now c.args.name.now c.self.view_is ∙ c.requires in
    added_described project c.self.inside.devices c.insert.new.self c.args.name.now c.in_ok-name.name c.args.device
    c.in_ok-name.ensures.items there c.in_ok-insert.ensures.updates c.self.invariant

pub returns-clause-ok : goal.returns-clause-ok
returns-clause-ok c =
    let project = c.self.inside.project.now in
    let there : device_at project c.args.name.now ≡ Some c.args.device =
    device_there project c.self.inside.devices.entries c.args.self.now c.args.name.now c.self.view_is ∙ c.requires in
    device_added project c.self.inside.devices c.insert.new.self c.args.name.now c.in_ok-name.name c.args.device
    c.in_ok-name.ensures.items there c.in_ok-insert.ensures.updates c.args.self.now c.self.view_is
