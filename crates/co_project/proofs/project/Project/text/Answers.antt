use Rattle.std.proofs.Common.{◌≡◌, ◌∙◌, ap, Ok}
use Rattle.eds_device.specs.Faults.{device_of}
use Rattle.ini_text.specs.Content.{content_of}
use Rattle.co_project.specs.Tables.{text_at}
use Rattle.co_project.specs.declared.project.Project.TheInside.{Inside}
use Rattle.co_project.proofs.SoundLemmas.{IfSome-copied, texts_are_devices}
use Rattle.co_project.proofs.project.Project.text.Goals as goal

pub returns-clause-device : goal.returns-clause-device
returns-clause-device c =
    IfSome-copied (λ text. device_of text ≡ Ok (content_of text)) c.get.result
    (text_at c.self.inside.contents.texts c.args.name.now)
    (c.get.ensures ∙ ap (λ (p : Inside). text_at p.contents.texts c.args.name.now) c.self-inside.view_is)
    (texts_are_devices c.self.inside.contents c.args.name.now c.self.invariant)
