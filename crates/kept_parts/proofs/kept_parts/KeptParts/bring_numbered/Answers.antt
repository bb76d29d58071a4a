use Rattle.kept_values.proofs.Brought.{both}
use Rattle.kept_parts.specs.Kept.{kept_inputs}
use Rattle.project_parts.specs.Given.{inputs_of, same_part}
use Rattle.project_parts.specs.Reached.{for_own, own_device}
use Rattle.kept_parts.proofs.SimulationLemmas.{device_value}
use Rattle.kept_parts.proofs.kept_parts.KeptParts.bring_numbered.Goals as goal

pub returns-clause-brings : goal.returns-clause-brings
returns-clause-brings c =
    let p = c.args.project.now in
    let first = c.bring_own_writes.new in
    let last = c.bring_own_device.new in
    both same_part (inputs_of p) (for_own p c.args.node) (own_device p c.args.node) (kept_inputs c.args.self.now)
    (kept_inputs first.self) (kept_inputs last.self) c.args.meter.now first.meter last.meter c.in_ok-own.ensures.brings
    c.in_ok-device.ensures.brings

pub returns-clause-value : goal.returns-clause-value
returns-clause-value c =
    device_value c.args.project.now c.args.node c.in_ok-device.device c.in_ok-own.own c.device_at.result
    c.device_at.ensures c.in_ok-own.ensures.value c.in_ok-device.ensures.value
