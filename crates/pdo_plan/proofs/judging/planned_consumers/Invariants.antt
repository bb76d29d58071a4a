use Rattle.std.proofs.Common.{◌≡◌, take}
use Rattle.std.specs.List.{filter_map}
use Rattle.pdo_plan.specs.Carried.{consumer_by}
use Rattle.pdo_choices.specs.Taken.{devices_known, had_in}
use Rattle.pdo_plan.proofs.judging.planned_consumers.Given as goal

-- those so far
abbrev pub invariant-loop-node : goal.invariant-loop-node
invariant-loop-node l =
    l.consumers.items ≡ filter_map (consumer_by (had_in l.taken) (devices_known l.taken)
    l.wish.linked.now l.wish.carried.now l.wish.identifier)
    (take l.node-index l.nodes)
