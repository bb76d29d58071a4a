use Rattle.std.proofs.Common.{sym, subst}
use Rattle.image_parts.specs.Images.{IsRoster}
use Rattle.network_image.proofs.HeldLemmas.{same_image}
use Rattle.network_image.proofs.RosterLemmas.{is_roster}
use Rattle.network_image.proofs.network_parts.NetworkParts.from_shared.Goals as goal

pub invariant_of-result : goal.invariant_of-result
invariant_of-result c =
    subst IsRoster (sym c.requires.roster) (is_roster c.args.project.now c.keeps_to_rules.ensures)

pub returns : goal.returns
returns c =
    same_image c.args.project.now c.args.roster.value c.args.nodes c.args.windows c.requires.roster c.requires.nodes
    c.requires.windows
