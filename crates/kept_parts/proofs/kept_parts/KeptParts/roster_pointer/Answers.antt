use Rattle.std.proofs.Common.{◌∙◌, option_map, option_copied, sym, ap}
use Rattle.project_parts.specs.Made.{roster_made}
use Rattle.kept_parts.proofs.NetworkLemmas.{roster_kept, same_some, some_none}
use Rattle.kept_parts.proofs.kept_parts.KeptParts.roster_pointer.Goals as goal

pub unreachable-requires : goal.unreachable-requires
unreachable-requires c =
    some_none (sym (ap (option_map roster_made) (roster_kept c.args.project.now c.args.self.now c.requires))
    ∙ sym c.value.ensures ∙ ap option_copied c.in_default.is)

pub returns : goal.returns
returns c =
    c.in_ok-roster.ensures
    ∙ same_some (c.in-Some.ensures
    ∙ ap (option_map roster_made) (roster_kept c.args.project.now c.args.self.now c.requires))
