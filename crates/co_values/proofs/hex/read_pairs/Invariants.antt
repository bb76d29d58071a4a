use Rattle.co_values.proofs.Pairs.{IsReadTo}
use Rattle.co_values.proofs.hex.read_pairs.Given as goal

abbrev pub invariant-loop-pair : goal.invariant-loop-pair
invariant-loop-pair l = IsReadTo l.pair l.text l.bytes.items
