use Rattle.std.proofs.Common.{◌∙◌, sym, ap, subst}
use Rattle.std.specs.FinMap as map
use Rattle.project_edits.specs.Versions.{is_three}
use Rattle.project_plan.specs.Library.{AreRead, IsRead, Read}
use Rattle.project_plan.proofs.LibraryLemmas.{added_described, device_added, device_found, is_there, read_before}
use Rattle.project_plan.proofs.LibraryLemmas.{read_now, read_there}
use Rattle.project_plan.proofs.library.Library.read.Goals as goal

-- the library as it was
are_read : (c : goal.Then-is_some) → AreRead c.args.self.now.project c.args.self.now.devices
are_read c = subst (λ (r : Read). AreRead r.project r.devices) c.self.view_is c.self.invariant

pub returns-then-is_some-clause-ok : goal.returns-then-is_some-clause-ok
returns-then-is_some-clause-ok c =
    let found = c.get.ensures.value
    ∙ device_found c.self.inside.project.now c.self.inside.devices.entries c.args.self.now c.args.name.now
    c.self.view_is in
    read_before c.args.self.now c.args.name.now (are_read c)
    (is_there c.get.result (map.get c.args.self.now.devices c.args.name.now) found (sym c.is_some.ensures
    ∙ c.if-is_some.true))

pub returns-then-is_some-clause-read : goal.returns-then-is_some-clause-read
returns-then-is_some-clause-read c = subst (λ (r : Read). IsRead r c.args.name.now)
    (sym (returns-then-is_some-clause-ok c)) (read_there c.args.self.now c.args.name.now (are_read c))

pub invariant_of-self-2 : goal.invariant_of-self-2
invariant_of-self-2 c =
    let there = read_now c.self.inside.project.now c.args.name.now c.in-Some.text.now c.in_ok-device.device _
    (sym c.in-Some.ensures.text) (c.is_three-is_three.ensures ∙ ap is_three c.version.ensures)
    (c.in_ok-device.ensures ∙ c.in_ok-read.ensures) in
    added_described c.self.inside.project.now c.self.inside.devices c.insert.new.self c.args.name.now c.in_ok-name.name
    c.in_ok-device.device c.in_ok-name.ensures.items there c.in_ok-insert.ensures.updates c.self.invariant

pub returns-clause-ok : goal.returns-clause-ok
returns-clause-ok c =
    let there = read_now c.self.inside.project.now c.args.name.now c.in-Some.text.now c.in_ok-device.device _
    (sym c.in-Some.ensures.text) (c.is_three-is_three.ensures ∙ ap is_three c.version.ensures)
    (c.in_ok-device.ensures ∙ c.in_ok-read.ensures) in
    device_added c.self.inside.project.now c.self.inside.devices c.insert.new.self c.args.name.now c.in_ok-name.name
    c.in_ok-device.device c.in_ok-name.ensures.items there c.in_ok-insert.ensures.updates c.args.self.now c.self.view_is

pub returns-clause-read : goal.returns-clause-read
returns-clause-read c =
    subst (λ (r : Read). IsRead r c.args.name.now) (sym (returns-clause-ok c))
    (read_there c.args.self.now c.args.name.now
    (subst (λ (r : Read). AreRead r.project r.devices) c.self.view_is c.self.invariant))
