use Rattle.std.proofs.Common.{ap, ◌∙◌, ◌==◌, ◌||◌}
use Rattle.device_agenda.specs.Groups.{group_of, includes}
use Rattle.device_agenda.proofs.GroupLemmas.{one_more}
use Rattle.device_agenda.proofs.groups.Groups.with.Goals as goal

pub returns : goal.returns
returns c = λ other within.
    one_more c.args.self.bits c.group_of.result c.group_of.ensures.bound (group_of other)
    ∙ ap (λ n. (group_of other == n) || includes c.args.self other) c.group_of.ensures.group
