-- Lists that are sets: in order, each element once, exactly those that something holds of.
use Rattle.std.specs.Prelude.{◌↔◌, List, [], ◌∷◌, Contains}
use Rattle.std.specs.declared.cmp.Ordering.{Ordering}
use Rattle.std.specs.List.Sorted.{IsStrictlySortedBy}
use Rattle.std.specs.BTreeSet.{insert_key}

-- the list of all that Holds holds of, each once, in the order of cmp
pub record IsListOf {X : Type 0} (cmp : X → X → Ordering) (Holds : X → Type 0) (xs : List X) : Type 0 where
  pub in_order : IsStrictlySortedBy cmp xs
  pub exact : (x : X) → Contains xs x ↔ Holds x

-- some elements in order, each once
unfoldable pub sorted_set : {X : Type 0} → (X → X → Ordering) → List X → List X
sorted_set cmp [] = []
sorted_set cmp (x ∷ xs) = insert_key cmp (sorted_set cmp xs) x
