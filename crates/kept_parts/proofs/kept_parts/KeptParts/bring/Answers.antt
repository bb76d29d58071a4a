use Rattle.std.proofs.Common.{subst}
use Rattle.project_parts.specs.Reached.{IsPart}
use Rattle.kept_parts.proofs.StepLemmas.{named_so}
use Rattle.kept_parts.proofs.kept_parts.KeptParts.bring.Goals as goal

pub returns-in_ok-bring_device-in-Device-clause-brings : goal.returns-in_ok-bring_device-in-Device-clause-brings
returns-in_ok-bring_device-in-Device-clause-brings c =
    rw c.in-Device.is
    (named_so c.args.project.now c.args.self.now c.bring_device.new.self c.args.meter.now c.bring_device.new.meter _ _
    c.as_slice.ensures c.in_ok-bring_device-in-Device.ensures.brings)

pub returns-in_ok-bring_plan-in-Plan-clause-brings : goal.returns-in_ok-bring_plan-in-Plan-clause-brings
returns-in_ok-bring_plan-in-Plan-clause-brings c = rw c.in-Plan.is c.in_ok-bring_plan-in-Plan.ensures.brings

pub returns-in_ok-bring_writes-in-Writes-clause-brings : goal.returns-in_ok-bring_writes-in-Writes-clause-brings
returns-in_ok-bring_writes-in-Writes-clause-brings c =
    rw c.in-Writes.is c.in_ok-bring_writes-in-Writes.ensures.brings

pub returns-in-Concise-clause-brings : goal.returns-in-Concise-clause-brings
returns-in-Concise-clause-brings c = rw c.in-Concise.is c.bring_concise.ensures.brings

pub returns-in-Dcf-clause-brings : goal.returns-in-Dcf-clause-brings
returns-in-Dcf-clause-brings c = rw c.in-Dcf.is c.bring_dcf.ensures.brings

pub returns-in-Roster-clause-brings : goal.returns-in-Roster-clause-brings
returns-in-Roster-clause-brings c = rw c.in-Roster.is c.bring_roster.ensures.brings

pub returns-in-Node-clause-brings : goal.returns-in-Node-clause-brings
returns-in-Node-clause-brings c = rw c.in-Node.is c.bring_device_parts.ensures.brings

pub returns-in-Window-clause-brings : goal.returns-in-Window-clause-brings
returns-in-Window-clause-brings c = rw c.in-Window.is c.bring_window.ensures.brings

pub returns-in-Diagnostics-clause-brings : goal.returns-in-Diagnostics-clause-brings
returns-in-Diagnostics-clause-brings c = rw c.in-Diagnostics.is c.bring_diagnostics.ensures.brings

pub bring_window-requires : goal.bring_window-requires
bring_window-requires c = record { is_of = c.requires.is_of; number = subst IsPart c.in-Window.is c.requires.part }
