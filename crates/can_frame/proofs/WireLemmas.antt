-- Stuffing: how many bits it adds, that no row of six comes of it, and that it can be undone.
use Rattle.std.proofs.Common.{◌≡◌, ℕ, suc, ◌+◌, ◌*◌, ◌-◌, ◌<◌, ◌≤◌, Bool, true, false, List, [], ◌∷◌, ◌++◌, length}
use Rattle.std.proofs.Common.{refl, ap, arith}
use Rattle.std.specs.Prelude.{nat_lt, ◌==◌, ◌&&◌, if◌then◌else◌}
use Rattle.std.proofs.lemmas.Bool.Decides.{nat_tests}
use Rattle.can_frame.specs.WireBits.{stuffed_behind, unstuffed_behind}

-- ---- how many

few_step : (same full : Bool) (bit row : ℕ) (rest : List ℕ) → 1 ≤ row → row ≤ 4 → (full ≡ true → row ≡ 4)
    → (full ≡ false → row < 4)
    → ((l r : ℕ) → 1 ≤ r → r ≤ 4 → 4 * length (stuffed_behind l r rest) + 1 ≤ 5 * length rest + r)
    → 4 * length (if same && full then bit ∷ (1 - bit) ∷ stuffed_behind (1 - bit) 1 rest
    else bit ∷ stuffed_behind bit (if same then row + 1 else 1) rest) + 1 ≤ 5 * suc (length rest) + row
few_step true true bit row rest some short is isnt h =
    let one = h (1 - bit) 1 (omega arith) (omega arith) in
    let four = is refl in
    omega arith
few_step true false bit row rest some short is isnt h =
    let less = isnt refl in
    let one = h bit (row + 1) (omega arith) (omega arith) in
    omega arith
few_step false full bit row rest some short is isnt h =
    let one = h bit 1 (omega arith) (omega arith) in
    omega arith

is_four : (row : ℕ) → (row == 4) ≡ true → row ≡ 4
is_four row e = grind (arith, nat_tests)

pub isnt_four : (row : ℕ) → row ≤ 4 → (row == 4) ≡ false → row < 4
isnt_four row short e = grind (arith, nat_tests)

pub few_stuffed : (last row : ℕ) (bits : List ℕ) → 1 ≤ row → row ≤ 4
    → 4 * length (stuffed_behind last row bits) + 1 ≤ 5 * length bits + row
few_stuffed last row [] some short = omega arith
few_stuffed last row (bit ∷ rest) some short =
    few_step (bit == last) (row == 4) bit row rest some short (is_four row) (isnt_four row short)
    (λ l r s t. few_stuffed l r rest s t)

none_lost_step : (same full : Bool) (bit row : ℕ) (rest : List ℕ)
    → ((l r : ℕ) → length rest ≤ length (stuffed_behind l r rest))
    → suc (length rest) ≤ length (if same && full then bit ∷ (1 - bit) ∷ stuffed_behind (1 - bit) 1 rest
    else bit ∷ stuffed_behind bit (if same then row + 1 else 1) rest)
none_lost_step true true bit row rest h = let one = h (1 - bit) 1 in omega arith
none_lost_step true false bit row rest h = let one = h bit (row + 1) in omega arith
none_lost_step false full bit row rest h = let one = h bit 1 in omega arith

pub none_lost : (last row : ℕ) (bits : List ℕ) → length bits ≤ length (stuffed_behind last row bits)
none_lost last row [] = omega arith
none_lost last row (bit ∷ rest) = none_lost_step (bit == last) (row == 4) bit row rest (λ l r. none_lost l r rest)

-- ---- no six in a row

-- no row of six stands in bits behind a row of so many
abbrev fits : ℕ → ℕ → List ℕ → Bool
fits last row [] = true
fits last row (bit ∷ rest) = if bit == last then nat_lt row 5 && fits last (row + 1) rest else fits bit 1 rest

pub same_is : (n : ℕ) → (n == n) ≡ true
same_is n = grind (arith, nat_tests)

pub other_isnt : (n : ℕ) → (1 - n == n) ≡ false
other_isnt n = grind (arith, nat_tests)

is_equal : (m n : ℕ) → (m == n) ≡ true → m ≡ n
is_equal m n e = grind (arith, nat_tests)

is_below : (m n : ℕ) → m < n → nat_lt m n ≡ true
is_below m n h = grind (arith, nat_tests)

fits_step : (same full : Bool) (bit last row : ℕ) (rest : List ℕ) → row ≤ 4 → (bit == last) ≡ same
    → (full ≡ true → row ≡ 4) → (full ≡ false → row < 4)
    → ((l r : ℕ) → r ≤ 4 → fits l r (stuffed_behind l r rest) ≡ true)
    → fits last row (if same && full then bit ∷ (1 - bit) ∷ stuffed_behind (1 - bit) 1 rest
    else bit ∷ stuffed_behind bit (if same then row + 1 else 1) rest) ≡ true
fits_step true true bit last row rest short same is isnt h =
    let e = is_equal bit last same in
    rw (← e, same_is bit, is_below row 5 (omega arith), other_isnt bit) (h (1 - bit) 1 (omega arith))
fits_step true false bit last row rest short same is isnt h =
    let e = is_equal bit last same in
    rw (← e, same_is bit, is_below row 5 (omega arith)) (h bit (row + 1) (omega (arith, isnt refl)))
fits_step false full bit last row rest short same is isnt h = rw same (h bit 1 (omega arith))

pub stuffed_fits : (last row : ℕ) (bits : List ℕ) → row ≤ 4 → fits last row (stuffed_behind last row bits) ≡ true
stuffed_fits last row [] short = refl
stuffed_fits last row (bit ∷ rest) short =
    fits_step (bit == last) (row == 4) bit last row rest short refl (is_four row) (isnt_four row short)
    (λ l r t. stuffed_fits l r rest t)

-- six of one value
abbrev six : ℕ → List ℕ → List ℕ
six bit behind = bit ∷ bit ∷ bit ∷ bit ∷ bit ∷ bit ∷ behind

not_below : (m n : ℕ) → n ≤ m → nat_lt m n ≡ false
not_below m n h = grind (arith, nat_tests)

and_false : (a : Bool) → (a && false) ≡ false
and_false true = refl
and_false false = refl

six_step : (same : Bool) (bit last row : ℕ) (behind : List ℕ) → (bit == last) ≡ same
    → fits last row (six bit behind) ≡ false
six_step true bit last row behind same =
    let e = is_equal bit last same in
    rw (← e, same_is bit, not_below (row + 1 + 1 + 1 + 1 + 1) 5 (omega arith)) (simp and_false refl)
six_step false bit last row behind same = rw (same, same_is bit) refl

pub six_fit_nowhere : (last row bit : ℕ) (front behind : List ℕ) → fits last row (front ++ six bit behind) ≡ false
six_fit_nowhere last row bit [] behind = six_step (bit == last) bit last row behind refl
six_fit_nowhere last row bit (one ∷ front) behind =
    front_step (one == last) (nat_lt row 5) (six_fit_nowhere last (row + 1) bit front behind)
    (six_fit_nowhere one 1 bit front behind)
  where
    front_step : (same below : Bool) → fits last (row + 1) (front ++ six bit behind) ≡ false
        → fits one 1 (front ++ six bit behind) ≡ false
        → (if same then below && fits last (row + 1) (front ++ six bit behind) else fits one 1 (front ++ six bit behind))
        ≡ false
    front_step true below h g = rw h (and_false below)
    front_step false below h g = g

-- ---- undone

isnt_five : (row : ℕ) → row ≤ 4 → (row == 5) ≡ false
isnt_five row short = grind (arith, nat_tests)

undone_step : (same full : Bool) (bit last row : ℕ) (rest : List ℕ) → row ≤ 4 → (bit == last) ≡ same
    → (full ≡ true → row ≡ 4) → (full ≡ false → row < 4)
    → ((l r : ℕ) → r ≤ 4 → unstuffed_behind l r (stuffed_behind l r rest) ≡ rest)
    → unstuffed_behind last row (if same && full then bit ∷ (1 - bit) ∷ stuffed_behind (1 - bit) 1 rest
    else bit ∷ stuffed_behind bit (if same then row + 1 else 1) rest) ≡ bit ∷ rest
undone_step true true bit last row rest short same is isnt h =
    rw (is refl, same) (ap (λ (bits : List ℕ). bit ∷ bits) (h (1 - bit) 1 (omega arith)))
undone_step true false bit last row rest short same is isnt h =
    rw (isnt_five row short, same) (ap (λ (bits : List ℕ). bit ∷ bits) (h bit (row + 1) (omega (arith, isnt refl))))
undone_step false full bit last row rest short same is isnt h =
    rw (isnt_five row short, same) (ap (λ (bits : List ℕ). bit ∷ bits) (h bit 1 (omega arith)))

pub undone : (last row : ℕ) (bits : List ℕ) → row ≤ 4 → unstuffed_behind last row (stuffed_behind last row bits) ≡ bits
undone last row [] short = refl
undone last row (bit ∷ rest) short =
    undone_step (bit == last) (row == 4) bit last row rest short refl (is_four row) (isnt_four row short)
    (λ l r t. undone l r rest t)
