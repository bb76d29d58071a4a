use Rattle.can_bus.proofs.FirstTimeLemmas.{rest_in_order}
use Rattle.can_bus.proofs.steps_left.StepsLeft.as_slice.Goals as goal

pub returns-clause-order : goal.returns-clause-order
returns-clause-order c =
    rest_in_order c.self.inside.next _ c.steps_of.result.now c.steps_of.ensures c.self.invariant.2
