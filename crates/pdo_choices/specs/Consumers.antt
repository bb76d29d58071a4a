-- The nodes that take a message.
use Rattle.std.specs.Prelude.{ℕ, List, [], ◌∷◌}
use Rattle.std.specs.BTreeSet.{insert_key}
use Rattle.std.specs.Ordering.{nat_cmp}

-- the sinks of a message, by position and node, each an entry of that node
abbrev pub Sinks : Type 0
Sinks = List ((ℕ × ℕ) × (ℕ × ℕ))

-- the nodes that the sinks of a message name, each once, by number
abbrev pub nodes_put : List ℕ → Sinks → List ℕ
nodes_put nodes [] = nodes
nodes_put nodes (sink ∷ sinks) = nodes_put (insert_key nat_cmp nodes sink.0.1) sinks

unfoldable pub consumers_of : Sinks → List ℕ
consumers_of sinks = nodes_put [] sinks
