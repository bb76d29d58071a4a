use Rattle.std.proofs.Common.{[], ◌∷◌}
use Rattle.kept_values.proofs.Brought.{both}
use Rattle.kept_parts.specs.Kept.{kept_inputs}
use Rattle.project_parts.specs.Given.{inputs_of, same_part}
use Rattle.project_parts.specs.Reached.{of_nodes}
use Rattle.project_parts.specs.declared.part.Part.TheVariants as part
use Rattle.kept_parts.proofs.AllLemmas.{holds_brought}
use Rattle.kept_parts.proofs.kept_parts.KeptParts.bring_window.Goals as goal

pub bring_own_window-requires-clause-devices : goal.bring_own_window-requires-clause-devices
bring_own_window-requires-clause-devices c =
    holds_brought c.args.project.now c.args.self.now c.bring_devices.new.self c.args.meter.now c.bring_devices.new.meter
    c.in_ok-bring_devices.ensures.brings

pub returns-clause-brings : goal.returns-clause-brings
returns-clause-brings c =
    let p = c.args.project.now in
    both same_part (inputs_of p) (of_nodes p) (part.Window c.args.i ∷ [])
    (kept_inputs c.args.self.now) (kept_inputs c.bring_devices.new.self) (kept_inputs c.bring_own_window.new.self) c.args.meter.now
    c.bring_devices.new.meter c.bring_own_window.new.meter c.in_ok-bring_devices.ensures.brings
    c.in_ok-bring_own_window.ensures.brings
