use Rattle.std.proofs.Common.{◌≡◌, []}
use Rattle.pdo_choices.specs.Consumers.{nodes_put}
use Rattle.pdo_choices.proofs.consumers.sink_nodes.Given as goal

-- with the nodes of the sinks that are left they are all
abbrev pub invariant-sinks : goal.invariant-sinks
invariant-sinks l = nodes_put l.nodes.keys l.seat-iterator ≡ nodes_put [] l.sinks
