use Rattle.std.proofs.Common.{◌≡◌, Some, rules}
use Rattle.pdo_choices.specs.Receives.{rpdo_named}
use Rattle.pdo_choices.proofs.RpdoLemmas.{named_within}
use Rattle.pdo_choices.proofs.rpdos.vendor_rpdo.Goals as goal

pub can_take-requires-clause-number : goal.can_take-requires-clause-number
can_take-requires-clause-number c =
    let named : rpdo_named c.args.wish.now.linked.now c.args.node ≡ Some c.in-Some.number = search rules in
    (named_within c.args.wish.now.linked.now c.args.node c.in-Some.number c.requires.linked named).1
