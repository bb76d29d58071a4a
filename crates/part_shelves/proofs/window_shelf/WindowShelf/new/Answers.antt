use Rattle.std.proofs.Common.{◌∙◌, ℕ, List, ap, sym}
use Rattle.kept_values.specs.At.{at}
use Rattle.kept_values.proofs.Flags.{none_flagged}
use Rattle.co_scenario.specs.declared.timed_step.TimedStep.{TimedStep}
use Rattle.part_shelves.specs.Busy.{has_steps}
use Rattle.part_shelves.proofs.window_shelf.WindowShelf.new.Goals as goal

pub invariant_of-result : goal.invariant_of-result
invariant_of-result c =
    λ q. none_flagged 1024 q ∙ sym (ap (λ (kept : List (ℕ × List TimedStep)). has_steps (at kept q)) c.new.ensures.empty)

pub returns-clause-fresh : goal.returns-clause-fresh
returns-clause-fresh c = λ q. none_flagged 1024 q
