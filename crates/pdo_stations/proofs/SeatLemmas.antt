-- Stations that sit at the numbers of their nodes.
use Rattle.std.proofs.Common.{◌≡◌, ◌≢◌, ℕ, zero, suc, ◌+◌, ◌<◌, ◌==◌, Bool, true, false, cond, List, [], ◌∷◌, ◌++◌, length}
use Rattle.std.proofs.Common.{get_or, Option, Some, None, set, refl, sym, ap, ◌∙◌, arith}
use Rattle.std.specs.Prelude.{if◌then◌else◌}
use Rattle.std.specs.BTreeMap.{is_at}
use Rattle.std.specs.Ordering.{nat_cmp}
use Rattle.std.proofs.lemmas.Bool.{false≢true}
use Rattle.std.proofs.lemmas.Bool.Decides.{nat_tests}
use Rattle.std.proofs.lemmas.List.{get_or-set_same, get_or-set_other}
use Rattle.co_dict.specs.Shapes.{Shaped}
use Rattle.pdo_stations.specs.Seats.{shape_at, seats_by_number}

not_at : (node number : ℕ) → node < number → is_at (nat_cmp node) number ≡ false
not_at node number below = grind (arith, nat_tests)

past : (node number : ℕ) → number < node → is_at (nat_cmp node) number ≡ false
past node number below = grind (arith, nat_tests)

here : (node number : ℕ) → node ≡ number → is_at (nat_cmp node) number ≡ true
here node number same = grind (arith, nat_tests)

-- none sits before the first number
seat_before : (seats : List (Option Shaped)) (first node : ℕ) → node < first → shape_at (seats_by_number first seats) node ≡ None
seat_before [] first node below = refl
seat_before (None ∷ seats) first node below = seat_before seats (first + 1) node (omega arith)
seat_before (Some shape ∷ seats) first node below =
    ap (λ b. cond b (Some shape) (shape_at (seats_by_number (first + 1) seats) node)) (not_at node first below)
    ∙ seat_before seats (first + 1) node (omega arith)

seat_from : (seats : List (Option Shaped)) (first k : ℕ) → shape_at (seats_by_number first seats) (first + k) ≡ get_or seats k None
seat_from [] first k = refl
seat_from (None ∷ seats) first zero = seat_before seats (first + 1) (first + 0) (omega arith)
seat_from (None ∷ seats) first (suc k) =
    let next : first + suc k ≡ first + 1 + k = omega arith in
    ap (shape_at (seats_by_number (first + 1) seats)) next ∙ seat_from seats (first + 1) k
seat_from (Some shape ∷ seats) first zero =
    ap (λ b. cond b (Some shape) (shape_at (seats_by_number (first + 1) seats) (first + 0)))
    (here (first + 0) first (omega arith))
seat_from (Some shape ∷ seats) first (suc k) =
    let next : first + suc k ≡ first + 1 + k = omega arith in
    ap (λ b. cond b (Some shape) (shape_at (seats_by_number (first + 1) seats) (first + suc k)))
    (past (first + suc k) first (omega arith))
    ∙ ap (shape_at (seats_by_number (first + 1) seats)) next ∙ seat_from seats (first + 1) k

-- who sits at a number
pub seat_at : (seats : List (Option Shaped)) (node : ℕ) → shape_at (seats_by_number 0 seats) node ≡ get_or seats node None
seat_at seats node =
    let same : node ≡ 0 + node = omega arith in
    ap (shape_at (seats_by_number 0 seats)) same ∙ seat_from seats 0 node

-- one more seat that is empty
pub empty_more : (seats : List (Option Shaped)) (first : ℕ) → seats_by_number first (seats ++ None ∷ []) ≡ seats_by_number first seats
empty_more [] first = refl
empty_more (None ∷ seats) first = empty_more seats (first + 1)
empty_more (Some shape ∷ seats) first = ap (λ rest. (first, shape) ∷ rest) (empty_more seats (first + 1))

-- ---- lists of seats

-- one more that is empty
pub none_more : {X : Type 0} (seats : List (Option X)) (node : ℕ) → get_or (seats ++ None ∷ []) node None ≡ get_or seats node None
none_more [] zero = refl
none_more [] (suc node) = refl
none_more (seat ∷ seats) zero = refl
none_more (seat ∷ seats) (suc node) = none_more seats node

-- one is taken
pub one_taken : {X : Type 0} (seats : List (Option X)) (number : ℕ) (x : X) → number < length seats → (node : ℕ)
    → get_or (set seats number (Some x)) node None ≡ (if number == node then Some x else get_or seats node None)
one_taken seats number x below node = by (number == node) refl
  where
    same : (number == node) ≡ true → node ≡ number
    same e = grind (arith, nat_tests)

    alike : node ≡ number → (number == node) ≡ true
    alike e = grind (arith, nat_tests)

    other : (number == node) ≡ false → node ≢ number
    other e = λ s. absurd (false≢true (sym e ∙ alike s))

    by : (b : Bool) → (number == node) ≡ b → get_or (set seats number (Some x)) node None
        ≡ (if b then Some x else get_or seats node None)
    by true e = ap (λ n. get_or (set seats number (Some x)) n None) (same e)
        ∙ get_or-set_same seats number (Some x) None below
    by false e = get_or-set_other seats number node (Some x) None (other e)

-- a station's seat is taken
pub seat_taken : (seats : List (Option Shaped)) (number : ℕ) (shape : Shaped) → number < length seats → (node : ℕ)
    → shape_at (seats_by_number 0 (set seats number (Some shape))) node
    ≡ (if number == node then Some shape else shape_at (seats_by_number 0 seats) node)
seat_taken seats number shape below node =
    seat_at (set seats number (Some shape)) node ∙ one_taken seats number shape below node
    ∙ ap (λ o. if number == node then Some shape else o) (sym (seat_at seats node))
