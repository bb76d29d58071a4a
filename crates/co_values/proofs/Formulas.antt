-- What formulas give.
use Rattle.std.proofs.Common.{◌≡◌, ℕ, ◌<◌, List, ◌++◌, length, Some, refl, arith, pos}
use Rattle.std.specs.Prelude.{codes}
use Rattle.std.proofs.lemmas.Bool.{lt-ltb}
use Rattle.base.specs.Blanks.{without_first_blanks}
use Rattle.co_values.specs.Number.{number, formula, node_plus}
use Rattle.co_values.proofs.Printed.{formula-number}

-- `$NODEID` is the node's number
pub formula-node_id : (node : ℕ) → formula (codes "$NODEID") node ≡ Some (pos node)
unfolding formula number
formula-node_id node = refl

-- `$NODEID+` and a term
pub formula-sum : (text : List ℕ) (node : ℕ)
    → formula (codes "$NODEID+" ++ text) node ≡ node_plus node (without_first_blanks text)
unfolding formula number
formula-sum text node =
    let behind : 7 < length (codes "$NODEID+" ++ text) = omega arith in
    rw (lt-ltb 7 (length (codes "$NODEID+" ++ text)) behind) refl

pub ruleset formula_laws = (formula-number, formula-node_id, formula-sum)
