use Rattle.std.proofs.Common.{◌≡◌, ◌++◌, take}
use Rattle.co_values.specs.Values.{pairs_of}
use Rattle.co_values.proofs.hex.push_pairs.Given as goal

abbrev pub invariant-loop-byte : goal.invariant-loop-byte
invariant-loop-byte l = l.text.items ≡ l.fn.text.items ++ pairs_of (take l.byte-index l.bytes)
