-- What diagnostics find of each node: the faults of its parameters, its unreadable defaults, and, once it is configured,
-- what the rules over all nodes ask for.
use Rattle.std.specs.Prelude.{ℕ, if◌then◌else◌, List, filter_map, Option, Some, None, option_map, option_and_then}
use Rattle.std.specs.List.{flat_map}
use Rattle.std.specs.Result.{result_err}
use Rattle.eds_device.specs.Described.{default_text, kind_at}
use Rattle.eds_device.specs.Entries.{entry_at}
use Rattle.eds_device.specs.Places.{pairs_of}
use Rattle.node_parameters.specs.Judgement.{parameter_bytes}
use Rattle.node_parameters.specs.Parameters.{parameter_text}
use Rattle.co_project.specs.Project.{Content}
use Rattle.project_plan.specs.Doubtful.{spells_none}
use Rattle.project_plan.specs.Network.{Member, members}
use Rattle.diag_lines.specs.declared.code.Code.{Code}
use Rattle.diag_lines.specs.declared.code.Code.TheVariants.{Unreadable}
use Rattle.diag_lines.specs.declared.subject.Subject.{Subject}
use Rattle.diag_lines.specs.declared.diag.Diag.{Diag}
use Rattle.diag_nodes.specs.Codes.{parameter_code}
use Rattle.diag_nodes.specs.declared.consumer.HeartbeatConsumer.{HeartbeatConsumer}
use Rattle.diag_nodes.specs.Rules.{consumers_in, counters_in, identifiers_in, numbers_of, times_in}
use Rattle.diag_lines.specs.declared.subject.Subject.TheVariants as of

abbrev pub diagnostic : Code → Subject → Diag
diagnostic code subject = record { code = code; subject = subject }

-- the fault of the parameter of an entry
unfoldable pub parameter_diagnostic : ℕ × Member → ℕ × ℕ → Option Diag
parameter_diagnostic e place =
    option_map (λ fault. diagnostic (parameter_code fault) (of.Param e.0 place.0 place.1))
    (option_and_then (λ text. result_err (parameter_bytes (entry_at e.1.sheet e.0 place.0 place.1) text e.0))
    (parameter_text e.1.sheet.sections e.1.node.params place))

-- the default of an entry of a modelled type that spells none of its values
unfoldable pub unreadable_default : ℕ × Member → ℕ × ℕ → Option Diag
unreadable_default e place =
    option_and_then (λ text. if spells_none e.0 text (kind_at e.1.sheet place)
    then Some (diagnostic Unreadable (of.Default e.0 place.0 place.1)) else None)
    (default_text e.1.sheet place.0 place.1)

unfoldable pub unreadable_defaults : ℕ × Member → List Diag
unreadable_defaults e = filter_map (unreadable_default e) (pairs_of e.1.sheet.sections)

-- the heartbeat consumers of all nodes
unfoldable pub consumers : Content → List HeartbeatConsumer
consumers p = flat_map (consumers_in (numbers_of p)) (members p)

-- the producer heartbeat times of all nodes, each with its node
unfoldable pub times : Content → List (ℕ × Option ℕ)
times p = flat_map (times_in (numbers_of p)) (members p)

-- the identifiers of the TPDOs of all nodes
unfoldable pub identifiers : Content → List ℕ
identifiers p = flat_map (identifiers_in (numbers_of p)) (members p)

-- the synchronous counter overflow values of all nodes that have one, each with its node
unfoldable pub counters : Content → List (ℕ × ℕ)
counters p = flat_map (counters_in (numbers_of p)) (members p)
