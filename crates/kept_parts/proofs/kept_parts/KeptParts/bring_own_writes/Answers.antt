use Rattle.std.proofs.Common.{◌≡◌, true, rules}
use Rattle.co_project.specs.Project.{is_controller}
use Rattle.kept_values.specs.Stale.{AreBrought}
use Rattle.kept_parts.specs.Kept.{kept_inputs}
use Rattle.project_parts.specs.Given.{inputs_of, same_part}
use Rattle.project_parts.specs.Reached.{for_writes}
use Rattle.kept_parts.proofs.SimulationLemmas.{own_brought}
use Rattle.kept_parts.proofs.kept_parts.KeptParts.bring_own_writes.Goals as goal

pub returns-in_default-clause-brings : goal.returns-in_default-clause-brings
returns-in_default-clause-brings c =
    let own : is_controller c.args.project.now c.args.node ≡ true = search rules in
    let brought : AreBrought same_part (inputs_of c.args.project.now) (for_writes c.args.project.now c.args.node)
    (kept_inputs c.args.self.now) (kept_inputs c.bring_writes.new.self) c.args.meter.now c.bring_writes.new.meter =
    search rules in
    own_brought c.args.project.now c.args.node c.args.self.now c.bring_writes.new.self c.args.meter.now
    c.bring_writes.new.meter own brought

pub returns-clause-brings : goal.returns-clause-brings
returns-clause-brings c =
    let own : is_controller c.args.project.now c.args.node ≡ true = search rules in
    let brought : AreBrought same_part (inputs_of c.args.project.now) (for_writes c.args.project.now c.args.node)
    (kept_inputs c.args.self.now) (kept_inputs c.bring_writes.new.self) c.args.meter.now c.bring_writes.new.meter =
    search rules in
    own_brought c.args.project.now c.args.node c.args.self.now c.bring_writes.new.self c.args.meter.now
    c.bring_writes.new.meter own brought
