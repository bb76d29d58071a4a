use Rattle.kept_parts.proofs.NetworkLemmas.{roster_current}
use Rattle.kept_parts.proofs.kept_parts.KeptParts.network.Goals as goal

pub roster_pointer-requires : goal.roster_pointer-requires
roster_pointer-requires c = roster_current c.args.project.now c.args.self.now c.requires
