-- Past the limit no digit brings a number back below it.
use Rattle.std.proofs.Common.{◌≡◌, ℕ, suc, ◌+◌, ◌*◌, ◌^◌, ◌<◌, ◌≤◌, min, Bool, true, false, List, [], ◌∷◌, length, drop}
use Rattle.std.proofs.Common.{get_or, Option, Some, None, refl, sym, ap, ◌∙◌, arith, inl, inr, length-drop}
use Rattle.std.specs.Prelude.{if◌then◌else◌, ◌&&◌, IfSome, unwrap_or}
use Rattle.std.specs.List.{list_all}
use Rattle.std.specs.Char.{digit_value, is_digit}
use Rattle.std.specs.Str.Parse.{digits_value, digits_value_after, AllDigits}
use Rattle.std.proofs.lemmas.Bool.{and_parts, cases_lt, lt-ltb, ltb-true}
use Rattle.std.proofs.lemmas.Int.Digits.{digits_value-lt}
use Rattle.std.proofs.lemmas.List.{at_drop_more}
use Rattle.std.proofs.Math.Nat.{mul-le-mul_left, pow-le-pow_left, pow-le-pow_right, pow-suc}
use Rattle.base.specs.Digits.{digits_number, within_cap}

-- the number that digits write behind those of n
abbrev pub digits_behind : ℕ → ℕ → List ℕ → Option ℕ
digits_behind base n cs = if list_all (λ d. is_digit d base) cs then Some (digits_value_after base n cs) else None

grows : (base m n d : ℕ) → 1 ≤ base → min m (2 ^ 64) ≡ min n (2 ^ 64)
    → min (m * base + d) (2 ^ 64) ≡ min (n * base + d) (2 ^ 64)
grows base m n d h e = elim (cases_lt m (2 ^ 64)) [
  | inl small ↦ let same : m ≡ n = omega arith in ap (λ (k : ℕ). min (k * base + d) (2 ^ 64)) same
  | inr large ↦
      let first : m * 1 ≤ m * base = mul-le-mul_left m h in
      let second : n * 1 ≤ n * base = mul-le-mul_left n h in
      omega (arith, first, second)
]

values_alike : (base m n : ℕ) (cs : List ℕ) → 1 ≤ base → min m (2 ^ 64) ≡ min n (2 ^ 64)
    → min (digits_value_after base m cs) (2 ^ 64) ≡ min (digits_value_after base n cs) (2 ^ 64)
values_alike base m n [] h e = e
values_alike base m n (c ∷ cs) h e = values_alike base (m * base + digit_value c)
    (n * base + digit_value c) cs h (grows base m n (digit_value c) h e)

capped_alike : (base m n : ℕ) (cs : List ℕ) → 1 ≤ base → min m (2 ^ 64) ≡ min n (2 ^ 64)
    → within_cap (digits_behind base m cs) ≡ within_cap (digits_behind base n cs)
capped_alike base m n cs h e =
    elim (list_all (λ d. is_digit d base) cs) as (λ b. within_cap (if b then Some (digits_value_after base m cs) else None)
    ≡ within_cap (if b then Some (digits_value_after base n cs) else None)) [
      | true ↦ ap Some (values_alike base m n cs h e)
      | false ↦ refl
    ]

-- a digit in front
front : (base n c : ℕ) (cs : List ℕ) → is_digit c base ≡ true
    → digits_behind base n (c ∷ cs) ≡ digits_behind base (n * base + digit_value c) cs
front base n c cs h = ap (λ (b : Bool). if b && list_all (λ d. is_digit d base) cs
    then Some (digits_value_after base (n * base + digit_value c) cs) else None) h

-- one more digit d, after which the number so far is m
pub digit_more : (base n i m d : ℕ) (cs : List ℕ) (total : Option ℕ) → 1 ≤ base → i < length cs
    → digit_value (get_or cs i 0) ≡ d → d < base → m ≡ min (n * base + d) (2 ^ 64)
    → within_cap (digits_behind base n (drop i cs)) ≡ total → within_cap (digits_behind base m (drop (i + 1) cs)) ≡ total
digit_more base n i m d cs total h lt is low now so_far =
    let more = at_drop_more (λ (xs : List ℕ). within_cap (digits_behind base n xs)) cs i 0 lt in
    let test : is_digit (get_or cs i 0) base ≡ true = lt-ltb (digit_value (get_or cs i 0)) base (omega arith) in
    let step = ap within_cap (front base n (get_or cs i 0) (drop (i + 1) cs) test) in
    let alike : min m (2 ^ 64) ≡ min (n * base + digit_value (get_or cs i 0)) (2 ^ 64) = rw is (omega arith) in
    capped_alike base m (n * base + digit_value (get_or cs i 0)) (drop (i + 1) cs) h alike ∙ sym step ∙ sym more
    ∙ so_far

no_digit_left : (base n : ℕ) (rest : List ℕ) (total : Option ℕ) → length rest ≡ 0 → n ≤ 2 ^ 64
    → within_cap (digits_behind base n rest) ≡ total → Some n ≡ total
no_digit_left base n [] total none low so_far = let same : n ≡ min n (2 ^ 64) = omega arith in ap Some same ∙ so_far
no_digit_left base n (c ∷ rest) total none low so_far = absurd (omega arith)

-- behind the last digit the number is the whole
pub digits_all : (base n i : ℕ) (cs : List ℕ) (total : Option ℕ) → length cs ≤ i → n ≤ 2 ^ 64
    → within_cap (digits_behind base n (drop i cs)) ≡ total → Some n ≡ total
digits_all base n i cs total end low so_far =
    no_digit_left base n (drop i cs) total (omega (arith, length-drop i cs)) low so_far

-- ---- a number of few digits

-- one digit more behind i digits
pub short_more : (base n i d : ℕ) → base ≤ 16 → d < base → n < 16 ^ i → n * base + d < 16 ^ (i + 1)
short_more base n i d high low small =
    let wide : n * base ≤ n * 16 = mul-le-mul_left n high in
    let power : 16 ^ (i + 1) ≡ 16 ^ i * 16 = rw (one_more i) (pow-suc 16 i) in
    rw power (omega (arith, wide, low, high, small))
  where
    one_more : (i : ℕ) → i + 1 ≡ suc i
    one_more i = omega arith

-- fifteen digits write no number from the limit on
pub short_is_below : (i : ℕ) → i ≤ 15 → 16 ^ i ≤ 2 ^ 60
short_is_below i few = pow-le-pow_right {n = 16} (omega arith) few

-- ---- what the digits bound

-- a number is less than the base to the power of its digits
below : (base n : ℕ) (cs : List ℕ) → (b : Bool) → list_all (λ d. is_digit d base) cs ≡ b
    → (if b then Some (digits_value base cs) else None) ≡ Some n → n < base ^ length cs
below base n cs true all e = rw (sym (ap (λ (o : Option ℕ). unwrap_or o n) e))
    (digits_value-lt base cs (all_digits base cs all))
  where
    all_digits : (base : ℕ) (cs : List ℕ) → list_all (λ d. is_digit d base) cs ≡ true → AllDigits base cs
    all_digits base [] h = tt
    all_digits base (c ∷ cs) h =
        let both = and_parts (is_digit c base) (list_all (λ d. is_digit d base) cs) h in
        (ltb-true (digit_value c) base both.0, all_digits base cs both.1)
below base n cs false all e = cc

pub digits_number-lt : (base n : ℕ) (text : List ℕ) → digits_number base text ≡ Some n → n < base ^ length text
digits_number-lt base n [] e = cc
digits_number-lt base n (c ∷ cs) e = below base n (c ∷ cs) (list_all (λ d. is_digit d base) (c ∷ cs)) refl e

-- a number below the limit is not cut
uncut : (o : Option ℕ) → ((n : ℕ) → o ≡ Some n → n < 2 ^ 64) → within_cap o ≡ o
uncut None h = refl
uncut (Some n) h = let low = h n refl in ap Some (omega arith)

-- fifteen digits write a number below the limit
pub within_cap-short : (base : ℕ) (text : List ℕ) → 2 ≤ base → base ≤ 16 → length text ≤ 15
    → within_cap (digits_number base text) ≡ digits_number base text
within_cap-short base text low high few = uncut (digits_number base text) small
  where
    small : (n : ℕ) → digits_number base text ≡ Some n → n < 2 ^ 64
    small n e =
        let bound = digits_number-lt base n text e in
        let longer : base ^ length text ≤ base ^ 15 = pow-le-pow_right {n = base} (omega arith) few in
        let larger : base ^ 15 ≤ 16 ^ 15 = pow-le-pow_left high 15 in
        omega (arith, bound, longer, larger)

-- what is read is no more than what the digits write
pub within_cap-lt : (base : ℕ) (text : List ℕ) (o : Option ℕ) → o ≡ within_cap (digits_number base text)
    → IfSome o (λ n. n < base ^ length text)
within_cap-lt base text o e = by (digits_number base text) (λ n. digits_number-lt base n text) o e
  where
    by : (whole : Option ℕ) → ((n : ℕ) → whole ≡ Some n → n < base ^ length text) → (o : Option ℕ) → o ≡ within_cap whole
        → IfSome o (λ n. n < base ^ length text)
    by None h None e = tt
    by None h (Some m) e = cc
    by (Some n) h None e = tt
    by (Some n) h (Some m) e =
        let bound = h n refl in
        let cut : m ≡ min n (2 ^ 64) = ap (λ (o : Option ℕ). unwrap_or o m) e in
        omega (arith, bound, cut)
