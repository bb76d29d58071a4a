use Rattle.std.proofs.Common.{ap, ◌∙◌}
use Rattle.std.specs.Option.{option_map_or}
use Rattle.eds_device.specs.Identity.{identity_by}
use Rattle.eds_device.proofs.IdentityLemmas.{identity_read}
use Rattle.eds_device.proofs.data_sheet.DataSheet.identity_number.Goals as goal

pub returns-in-Some : goal.returns-in-Some
returns-in-Some c =
    c.identity_by.ensures ∙ ap (λ o. option_map_or (identity_by c.args.node) o 0) c.in-Some.ensures
    ∙ identity_read c.args.self.now c.args.node c.args.index c.args.sub

pub returns-in-None : goal.returns-in-None
returns-in-None c =
    ap (λ o. option_map_or (identity_by c.args.node) o 0) c.in-None.ensures
    ∙ identity_read c.args.self.now c.args.node c.args.index c.args.sub
