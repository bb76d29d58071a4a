use Rattle.std.proofs.Common.{◌≡◌, ◌++◌, map, take}
use Rattle.diag_lines.specs.declared.subject.Subject.TheVariants as of
use Rattle.co_diag.specs.Faults.{message_code}
use Rattle.diag_nodes.specs.Found.{diagnostic}
use Rattle.co_diag.proofs.messages.find_faults.Given as goal

abbrev pub invariant-loop-fault : goal.invariant-loop-fault
invariant-loop-fault l = l.found.items ≡ l.fn.found.items
    ++ map (λ fault. diagnostic (message_code fault) (of.Message l.name)) (take l.fault-index l.faults)
