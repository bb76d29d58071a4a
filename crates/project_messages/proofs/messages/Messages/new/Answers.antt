use Rattle.project_messages.proofs.LimitLemmas.{no_messages}
use Rattle.project_messages.proofs.messages.Messages.new.Goals as goal

pub invariant_of-result : goal.invariant_of-result
invariant_of-result c = rw c.new.ensures.empty no_messages
