use Rattle.std.proofs.Common.{◌≡◌, All, take}
use Rattle.std.specs.List.{filter_map}
use Rattle.co_values.specs.Values.{Fits}
use Rattle.eds_device.specs.Described.{kind_at}
use Rattle.node_parameters.specs.Parameters.{parameter_write}
use Rattle.node_parameters.proofs.parameters.writes.Given as goal

-- the writes of the entries so far, each a value of its entry
abbrev pub invariant-loop-position : goal.invariant-loop-position
invariant-loop-position l =
    (l.writes.items ≡ filter_map (parameter_write l.device l.params l.node) (take l.position l.places))
    × All (λ w. Fits (kind_at l.device (w.index, w.sub)) w.bytes) l.writes.items
