use Rattle.std.proofs.Common.{sym, subst, ◌∙◌, IfSome}
use Rattle.std.specs.FinMap as map
use Rattle.project_messages.proofs.NameLemmas.{made, value_found}
use Rattle.co_project.proofs.SoundLemmas.{IfSome-copied}
use Rattle.project_plan.specs.Library.{Read}
use Rattle.project_plan.proofs.LibraryLemmas.{device_found, IsDescribed}
use Rattle.project_plan.proofs.library.Library.shared.Goals as goal

pub returns-clause-device : goal.returns-clause-device
returns-clause-device c = c.get.ensures.value
    ∙ device_found c.self.inside.project.now c.self.inside.devices.entries c.args.self.now c.args.name.now
    c.self.view_is

pub returns-clause-described : goal.returns-clause-described
returns-clause-described c =
    let es = c.self.inside.devices.entries in
    let name = c.args.name.now in
    IfSome-copied (IsDescribed c.args.self.now.project name) c.get.result (map.get (made es) name)
    (c.get.ensures.value ∙ sym (value_found es name))
    (subst (λ (r : Read). IfSome (map.get (made es) name)
    (IsDescribed r.project name)) c.self.view_is (c.self.invariant name))
