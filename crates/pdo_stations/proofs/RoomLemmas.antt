-- Room for mapping entries, counted one by one.
use Rattle.std.proofs.Common.{◌≡◌, ◌⊎◌, inl, inr, ℕ, zero, suc, ◌+◌, ◌-◌, ◌<◌, ◌≤◌, nat_le, Bool, true, false, ◌&&◌}
use Rattle.std.proofs.Common.{List, [], ◌∷◌, ◌++◌, length, Option, None, refl, sym, ap, subst, ◌∙◌, arith}
use Rattle.std.specs.List.{list_all, range_with_len}
use Rattle.std.specs.declared.cmp.Ordering.{Ordering}
use Rattle.std.specs.declared.cmp.Ordering.TheVariants.{Less, Equal, Greater}
use Rattle.std.specs.Ordering.{nat_cmp}
use Rattle.std.proofs.lemmas.Bool.Decides.{nat_tests}
use Rattle.std.proofs.lemmas.Bool.{cases_lt}
use Rattle.std.proofs.lemmas.Cmp.{ranked}
use Rattle.std.proofs.lemmas.List.{get_or_append_left, get_or_push}
use Rattle.pdo_stations.specs.Rooms.{room_of}

-- a number from the first on is the first or past it
pub here_or_past : (first k : ℕ) → first ≤ k → (first ≡ k) ⊎ (first + 1 ≤ k)
here_or_past first k low = by (nat_cmp first k) refl
  where
    by : (o : Ordering) → o ≡ nat_cmp first k → (first ≡ k) ⊎ (first + 1 ≤ k)
    by Less e = let lt : first < k = ranked first k Less e in inr (omega arith)
    by Equal e = inl (ranked first k Equal e)
    by Greater e = let lt : k < first = ranked first k Greater e in absurd (omega arith)

pub all_pass : (test : ℕ → Bool) (first n : ℕ) → ((k : ℕ) → first ≤ k → k < first + n → test k ≡ true)
    → list_all test (range_with_len first n) ≡ true
all_pass test first zero each = refl
all_pass test first (suc n) each =
    let here : test first ≡ true = each first (omega arith) (omega arith) in
    let rest : list_all test (range_with_len (first + 1) n)
    ≡ true = all_pass test (first + 1) n (λ k low below. each k (omega arith) (omega arith)) in
    ap (λ b. b && list_all test (range_with_len (first + 1) n)) here ∙ rest

and_false : (a b : Bool) → b ≡ false → (a && b) ≡ false
and_false true b e = e
and_false false b e = refl

pub one_fails : (test : ℕ → Bool) (first n k : ℕ) → first ≤ k → k < first + n → test k ≡ false
    → list_all test (range_with_len first n) ≡ false
one_fails test first zero k low below e = absurd (omega arith)
one_fails test first (suc n) k low below e = by (here_or_past first k low)
    (λ past. one_fails test (first + 1) n k past (omega arith) e)
  where
    by : (first ≡ k) ⊎ (first + 1 ≤ k) → (first + 1 ≤ k → list_all test (range_with_len (first + 1) n) ≡ false)
        → list_all test (range_with_len first (suc n)) ≡ false
    by (inl same) rest = ap (λ b. b && list_all test (range_with_len (first + 1) n)) (ap test same ∙ e)
    by (inr past) rest = and_false (test first) (list_all test (range_with_len (first + 1) n)) (rest past)

-- as many as pass from the first on are those before one that fails, or all that are asked
pub front_counted : (test : ℕ → Bool) (room count : ℕ) → ((k : ℕ) → 1 ≤ k → k ≤ room → test k ≡ true)
    → (room < 64 → test (room + 1) ≡ false) → count ≤ 64
    → nat_le count room ≡ list_all test (range_with_len 1 count)
front_counted test room count front next few = by (nat_le count room) refl
  where
    up : nat_le count room ≡ true → count ≤ room
    up t = grind (arith, nat_tests)

    over : nat_le count room ≡ false → room < count
    over t = grind (arith, nat_tests)

    by : (b : Bool) → nat_le count room ≡ b → b ≡ list_all test (range_with_len 1 count)
    by true t = let within : count ≤ room = up t
        in sym (all_pass test 1 count (λ k low below. front k low (omega arith)))
    by false t = let past : room < count = over t
        in sym (one_fails test 1 count (room + 1) (omega arith) (omega arith) (next (omega arith)))

-- one more room
pub rooms_more : (Fits : ℕ → Option ℕ → Type 0) (rooms : List (Option ℕ)) (number : ℕ) (room : Option ℕ)
    → length rooms + 1 ≡ number
    → ((k : ℕ) → 1 ≤ k → k < number → Fits k (room_of rooms k)) → Fits number room → (k : ℕ) → 1 ≤ k → k < number + 1
    → Fits k (room_of (rooms ++ room ∷ []) k)
rooms_more Fits rooms number room count so_far here k low below = by (cases_lt k number)
  where
    by : (k < number) ⊎ (number ≤ k) → Fits k (room_of (rooms ++ room ∷ []) k)
    by (inl before) = subst (Fits k) (sym (get_or_append_left rooms (room ∷ []) None (k - 1) (omega arith)))
        (so_far k low before)
    by (inr past) =
        let same : number ≡ k = omega arith in
        let last : room_of (rooms ++ room ∷ []) k ≡ room = get_or_push rooms room None (k - 1) (omega arith) in
        subst (Fits k) (sym last) (subst (λ n. Fits n room) same here)
