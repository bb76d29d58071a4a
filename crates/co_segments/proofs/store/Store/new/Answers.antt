use Rattle.std.proofs.Common.{ap}
use Rattle.kept_values.specs.LastUsed.{LastUsed}
use Rattle.co_segments.specs.Placed.{Placed}
use Rattle.co_segments.proofs.StockLemmas.{no_segments}
use Rattle.co_segments.proofs.store.Store.new.Goals as goal

pub invariant_of-result : goal.invariant_of-result
invariant_of-result c = no_segments _ (ap (λ (x : LastUsed Placed). x.entries) c.in_ok-recent.ensures)
