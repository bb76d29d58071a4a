-- What lies behind pointers, and at places of lists.
use Rattle.std.proofs.Common.{◌≡◌, ℕ, zero, suc, ◌<◌, ◌≤◌, length, arith, List, [], ◌∷◌, Result, Ok, Err, Option}
use Rattle.std.proofs.Common.{refl, Some, None, IfOk, IfSome, All, sym, subst, slice_get}
use Rattle.std.proofs.lemmas.List.Elements.{All-head, All-tail}
use Rattle.std.specs.declared.rc.Rc.{Rc}
use Rattle.image_parts.specs.Shared.{value_behind}

-- what holds of all holds at a place
pub all_at : {X : Type 0} (P : X → Type 0) (xs : List X) (k : ℕ) → All P xs → IfSome (slice_get xs k) P
all_at P [] k all = tt
all_at P (x ∷ xs) zero all = All-head P x xs all
all_at P (x ∷ xs) (suc k) all = all_at P xs k (All-tail P x xs all)

-- what holds of a value holds behind a copy of its pointer
pub copied_fits : {X Z E : Type 0} (P : X → Type 0) (result : Result (Option (Rc X Z)) E) (x : X)
    → IfOk result (λ copy. value_behind copy ≡ Some x) → P x → IfOk result (λ copy. IfSome (value_behind copy) P)
copied_fits P (Ok copy) x is p = subst (λ o. IfSome o P) (sym is) p
copied_fits P (Err e) x is p = tt

-- what holds at a place holds of the value there
pub there_fits : {X : Type 0} (P : X → Type 0) (xs : List X) (k : ℕ) (x : X) → slice_get xs k ≡ Some x → All P xs → P x
there_fits P xs k x is all = subst (λ o. IfSome o P) is (all_at P xs k all)

-- where a value is, the place lies in the list
there_within : {X : Type 0} (xs : List X) (k : ℕ) (x : X) → slice_get xs k ≡ Some x → k < length xs
there_within [] k x is = cc
there_within (y ∷ xs) zero x is = omega arith
there_within (y ∷ xs) (suc k) x is = let rest = there_within xs k x is in omega (arith, rest)

-- so it is below what the list's length is at most
pub there_below : {X : Type 0} (xs : List X) (k most : ℕ) (x : X) → slice_get xs k ≡ Some x → length xs ≤ most
    → k < most
there_below xs k most x is few = let within = there_within xs k x is in omega (arith, within, few)

pub place_below : {X : Type 0} (xs : List X) (k most : ℕ) → length xs ≤ most
    → IfSome (slice_get xs k) (λ x. k < most)
place_below {X = X} xs k most few = by (slice_get xs k) refl
  where
    by : (o : Option X) → slice_get xs k ≡ o → IfSome o (λ x. k < most)
    by None is = tt
    by (Some x) is = there_below xs k most x is few
