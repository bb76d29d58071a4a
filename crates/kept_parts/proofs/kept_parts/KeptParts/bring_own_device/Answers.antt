use Rattle.kept_parts.proofs.StepLemmas.{own_brought}
use Rattle.kept_parts.proofs.kept_parts.KeptParts.bring_own_device.Goals as goal

pub returns-in_ok-device-in-Some-clause-brings : goal.returns-in_ok-device-in-Some-clause-brings
returns-in_ok-device-in-Some-clause-brings c =
    own_brought c.args.project.now c.args.self.now c.bring_device.new.self c.args.meter.now c.bring_device.new.meter
    c.args.node c.in-Some.known.now c.as_slice.result.now c.in-Some.ensures.node c.as_slice.ensures
    c.in_ok-device-in-Some.ensures.brings
