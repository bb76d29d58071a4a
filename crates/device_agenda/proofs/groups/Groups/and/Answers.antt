use Rattle.device_agenda.specs.Groups.{group_of}
use Rattle.device_agenda.proofs.GroupLemmas.{both_sets}
use Rattle.device_agenda.proofs.groups.Groups.and.Goals as goal

pub returns : goal.returns
returns c = λ id. both_sets c.args.self.bits c.args.other.bits (group_of id)
