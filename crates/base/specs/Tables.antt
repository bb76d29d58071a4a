-- Tables: what holds of each entry.
use Rattle.std.specs.Prelude.{IfSome}
use Rattle.std.specs.declared.cmp.Ordering.{Ordering}
use Rattle.std.specs.FinMap.{FinMap, get}

-- what holds of each key and its value in a table
abbrev pub Each : {K X : Type 0} {R : K → K → Ordering} → (K → X → Type 0) → FinMap R X → Type 0
Each {K} P table = (key : K) → IfSome (get table key) (P key)
