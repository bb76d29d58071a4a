use Rattle.kept_values.proofs.RowLemmas.{new_recent}
use Rattle.kept_values.proofs.recent.Recent.new.Goals as goal

pub invariant_of-result : goal.invariant_of-result
invariant_of-result g c = rw (c.new-2.ensures.items, c.in_ok-rest.ensures) (new_recent g.V.Numbered.number_of c.args.capacity)
