-- Edits one after the other.
use Rattle.std.proofs.Common.{◌≡◌, ℕ, suc, ◌+◌, ◌≤◌, ◌∙◌, List, [], ◌∷◌, ◌++◌, length, Bool, false, ◌&&◌, Result, Ok}
use Rattle.std.proofs.Common.{Err, refl, ap, arith}
use Rattle.std.proofs.lemmas.Bool.{and_left, lt-leb}
use Rattle.std.specs.Prelude.{nat_le}
use Rattle.std.specs.declared.cmp.Ordering.{Ordering}
use Rattle.std.specs.FinMap.{FinMap, empty, entries, len, len-empty, len-entries}
use Rattle.project_edits.specs.declared.fault.EditFault.{EditFault}
use Rattle.project_edits.specs.declared.edit.Edit.{Edit}
use Rattle.co_project.specs.Project.{Content, accept, accept_all}

-- edits in two parts
accept_all-append : (r : Result Content EditFault) (xs ys : List Edit)
    → accept_all r (xs ++ ys) ≡ accept_all (accept_all r xs) ys
unfolding accept_all
accept_all-append (Err fault) xs ys = refl
accept_all-append (Ok p) [] ys = refl
accept_all-append (Ok p) (x ∷ xs) ys = accept_all-append (accept p x) xs ys

-- edits that are taken, and then others
pub in_turn : (r : Result Content EditFault) (xs ys : List Edit) (a : Content) {b : Result Content EditFault}
    → accept_all r xs ≡ Ok a → accept_all (Ok a) ys ≡ b → accept_all r (xs ++ ys) ≡ b
in_turn r xs ys a ok others = accept_all-append r xs ys ∙ ap (λ t. accept_all t ys) ok ∙ others

-- an edit that is taken, and then others
pub one_then : (p : Content) (x : Edit) (ys : List Edit) (a : Content) {b : Result Content EditFault}
    → accept p x ≡ Ok a → accept_all (Ok a) ys ≡ b → accept_all (Ok p) (x ∷ ys) ≡ b
unfolding accept_all
one_then p x ys a ok others = ap (λ t. accept_all t ys) ok ∙ others

-- a table with room for all that is still to come has room for one
pub room : (most front back : ℕ) (known : Bool) → front + suc back ≤ most → (nat_le most front && known) ≡ false
room most front back known small = and_left _ _ (lt-leb most front (omega arith))

-- as many entries as a table has
pub whole_small : {K X : Type 0} {R : K → K → Ordering} (most : ℕ) (m : FinMap R X) → len m ≤ most
    → len (empty {X = X} {R = R}) + length (entries m) ≤ most
whole_small {X = X} {R = R} most m small = let none = len-empty R X in let all = len-entries m in omega arith
