use Rattle.std.specs.FinMap.{get}
use Rattle.eds_dcf.specs.Template.{no_values, piece}
use Rattle.eds_dcf.proofs.RunLemmas.{AreRun}
use Rattle.eds_dcf.proofs.template.put_runs.Given as goal

abbrev pub invariant-loop-position : goal.invariant-loop-position
invariant-loop-position l = AreRun (piece l.device no_values) (piece l.device (get l.values))
    l.device.sections l.fn.out.items l.out.items l.position l.from l.end
