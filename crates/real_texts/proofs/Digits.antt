-- Decimal digits of numbers.
use Rattle.std.proofs.Common.{◌≡◌, ℕ, zero, suc, ◌+◌, ◌-◌, ◌*◌, ◌/◌, ◌%◌, ◌^◌, ◌<◌, ◌≤◌, List, [], ◌∷◌, ◌++◌, length, replicate, map, min, drop, set, get_or, inl, inr, lit≤, eq-zero-or-pos, ne_eqb, eq-eqb, drop_at, take, take_at, ap₂, div-add-mod', mod-lt, pow_pos, lt_of_mul-lt-mul_right, mul-le-mul_left}
use Rattle.std.proofs.Common.{refl, sym, ap, ◌∙◌, arith, lit<, pow-suc, pow-add, append_assoc, append-nil, length-append, drop-cons, subst, mul-lt-mul_of_pos_right}
use Rattle.std.proofs.lemmas.List.{drop-set}
use native.Mathlib.Nat.{pow-zero}
use Rattle.std.proofs.lemmas.Int.Digits.{digits_of_step, length-digits_of_step, first_digits_of, number_lt, number_digits_of, length-digits_of-le, all_below_base_digits_of}
use Rattle.std.proofs.lemmas.List.{map_push, length-replicate, length-map}
use Rattle.std.proofs.lemmas.List.Folds.{prefix_len-append, prefix_len-replicate}
use Rattle.std.proofs.lemmas.Nat.{mul-pow}
use Rattle.std.specs.List.{prefix_len}
use Rattle.real_texts.specs.Texts.{is_zero}
use Rattle.std.specs.Int.Digits.{digits_of}
use Rattle.real_texts.specs.Naturals.{low_digits, all_digits, limbs_number, AreLimbs, billion}
use Rattle.real_texts.proofs.Limbs.{limbs_number-lt, power_pos}

pub length-low_digits : (k n : ℕ) → length (low_digits k n) ≡ k
length-low_digits zero n = refl
length-low_digits (suc k) n = omega (arith, length-append (low_digits k (n / 10)) ((48 + n % 10) ∷ []), length-low_digits k (n / 10))

-- the digits of m, and then k digits
pub low_digits-join : (j k m r : ℕ) → r < 10 ^ k → low_digits (j + k) (m * 10 ^ k + r) ≡ low_digits j m ++ low_digits k r
low_digits-join j zero m r h =
    let small : r ≡ 0 = omega (arith, rw pow-zero at h) in
    let n : m * 10 ^ 0 + r ≡ m = omega arith in
    let w : j + 0 ≡ j = omega arith in
    rw (n, w, append-nil)
low_digits-join j (suc k) m r h =
    let p : r < 10 ^ k * 10 = rw pow-suc at h in
    let w : j + suc k ≡ suc (j + k) = omega arith in
    let up : (m * 10 ^ suc k + r) / 10 ≡ m * 10 ^ k + r / 10 = rw pow-suc (omega arith) in
    let last : (m * 10 ^ suc k + r) % 10 ≡ r % 10 = rw pow-suc (omega arith) in
    rw (w, up, last, low_digits-join j k m (r / 10) (omega arith)) (append_assoc (low_digits j m) (low_digits k (r / 10)) ((48 + r % 10) ∷ []))

-- ---- digits of limbs

replicate_end : (d z : ℕ) → replicate z d ++ (d ∷ []) ≡ d ∷ replicate z d
replicate_end d zero = refl
replicate_end d (suc z) = ap (λ t. d ∷ t) (replicate_end d z)

pub low_digits-zero : (z : ℕ) → low_digits z 0 ≡ replicate z 48
low_digits-zero zero = refl
low_digits-zero (suc z) = ap (λ t. t ++ (48 ∷ [])) (low_digits-zero z) ∙ replicate_end 48 z

-- a digit is put before those that stand
pub digit_step : (all digits : List ℕ) (at left : ℕ) → 0 < at → at ≤ length digits → all ≡ low_digits at left ++ drop at digits
    → all ≡ low_digits (at - 1) (left / 10) ++ drop (at - 1) (set digits (at - 1) (48 + left % 10))
digit_step all digits zero left p h e = absurd (omega arith)
digit_step all digits (suc at) left p h e =
    let k : suc at - 1 ≡ at = omega arith in
    let n : suc at ≡ at + 1 = omega arith in
    e ∙ append_assoc (low_digits at (left / 10)) ((48 + left % 10) ∷ []) (drop (suc at) digits)
    ∙ rw (k, drop-set digits at (48 + left % 10) (omega arith), n)

billion_power : (n : ℕ) → billion ^ n ≡ 10 ^ (9 * n)
billion_power zero = refl
billion_power (suc n) =
    let e : 9 * suc n ≡ 9 * n + 9 = omega arith in
    pow-suc billion n ∙ ap (λ x. x * billion) (billion_power n) ∙ sym (pow-add 10 (9 * n) 9) ∙ ap (λ k. 10 ^ k) (sym e)

-- nine digits more for the next limb below
pub limb_step : (limbs : List ℕ) (at : ℕ) → 0 < at → at ≤ length limbs → AreLimbs limbs
    → low_digits (9 * (length limbs - (at - 1))) (limbs_number (drop (at - 1) limbs))
    ≡ low_digits (9 * (length limbs - at)) (limbs_number (drop at limbs)) ++ low_digits 9 (get_or limbs (at - 1) 0)
limb_step limbs zero p h fit = absurd (omega arith)
limb_step limbs (suc at) p h fit =
    let k : suc at - 1 ≡ at = omega arith in
    let w : 9 * (length limbs - at) ≡ 9 * (length limbs - suc at) + 9 = omega arith in
    let x = get_or limbs at 0 in
    let v : limbs_number (drop at limbs) ≡ limbs_number (drop (suc at) limbs) * 10 ^ 9 + x =
    ap limbs_number (drop-cons limbs at 0 (omega arith)) ∙ omega arith in
    rw (k, w, v) (low_digits-join (9 * (length limbs - suc at)) 9 (limbs_number (drop (suc at) limbs)) x (fit at))

-- all digits of limbs, behind zeros
pub limbs_digits : (limbs : List ℕ) (zeros : ℕ) → AreLimbs limbs
    → (replicate zeros 48 ++ low_digits (9 * length limbs) (limbs_number limbs) ≡ low_digits (zeros + 9 * length limbs) (limbs_number limbs))
    × (limbs_number limbs < 10 ^ (9 * length limbs))
limbs_digits limbs zeros fit =
    let n = limbs_number limbs in
    let w = 9 * length limbs in
    let small : n < 10 ^ w = rw (← billion_power (length limbs)) (limbs_number-lt limbs fit) in
    let whole : 0 * 10 ^ w + n ≡ n = omega arith in
    (sym (rw (whole, low_digits-zero zeros) at (low_digits-join zeros w 0 n small)), small)

pub limbs_text : (limbs text front : List ℕ) (zeros n : ℕ) → AreLimbs limbs → limbs_number limbs ≡ n → front ≡ replicate zeros 48
    → text ≡ front ++ low_digits (9 * length limbs) (limbs_number limbs)
    → (text ≡ low_digits (length text) n) × (n * 10 ^ zeros < 10 ^ length text) × (zeros ≤ length text)
limbs_text limbs text front zeros n fit value zeros_are is =
    let w = 9 * length limbs in
    let d = limbs_digits limbs zeros fit in
    let all : text ≡ low_digits (zeros + w) n = is ∙ ap (λ t. t ++ low_digits w (limbs_number limbs)) zeros_are ∙ d.0 ∙ ap (low_digits (zeros + w)) value in
    let long : length text ≡ zeros + w = ap length all ∙ length-low_digits (zeros + w) n in
    let small : n < 10 ^ w = subst (λ m. m < 10 ^ w) value d.1 in
    let p : 0 < 10 ^ zeros = power_pos 10 zeros (lit< tt) in
    (rw long all, rw (long, pow-add 10 zeros w) (omega (arith, mul-lt-mul_of_pos_right small p)), omega arith)

-- ---- all digits

-- as many digits as the number has
pub own_digits : (w n : ℕ) → n < 10 ^ w → low_digits (length (digits_of 10 n)) n ≡ map (λ d. 48 + d) (digits_of 10 n)
own_digits zero n h = let z : n ≡ 0 = omega (arith, rw pow-zero at h) in rw z
own_digits (suc w) n h =
    let p : n < 10 ^ w * 10 = rw pow-suc at h in
    elim (eq-zero-or-pos n) [
      | inl z ↦ rw z
      | inr some ↦
          let l : length (digits_of 10 n) ≡ suc (length (digits_of 10 (n / 10))) = omega (arith, length-digits_of_step 10 n (lit≤ tt) some) in
          rw l (rw (digits_of_step 10 n (lit≤ tt) some) (
          ap (λ t. t ++ ((48 + n % 10) ∷ [])) (own_digits w (n / 10) (omega arith)) ∙ sym (map_push (λ d. 48 + d) (digits_of 10 (n / 10)) (n % 10))))
    ]

-- n is below the power of ten that its digits count
pub below_own_power : (n : ℕ) → n < 10 ^ length (digits_of 10 n)
below_own_power n = subst (λ m. m < 10 ^ length (digits_of 10 n)) (number_digits_of 10 n (lit≤ tt)) (number_lt 10 (digits_of 10 n) (all_below_base_digits_of 10 n (lit≤ tt)))

no_first_zero : (ds : List ℕ) → 0 < get_or ds 0 0 → prefix_len is_zero (map (λ d. 48 + d) ds) ≡ 0
no_first_zero [] h = absurd (omega arith)
no_first_zero (d ∷ ds) h = rw (ne_eqb (48 + d) 48 (λ e. omega arith))

pub some_first : (ds : List ℕ) → 0 < get_or ds 0 0 → 0 < length ds
some_first [] h = absurd (omega arith)
some_first (d ∷ ds) h = omega arith

-- zeros before digits of which the first is none
behind_zeros : (z : ℕ) (ds : List ℕ) → 0 < length ds → prefix_len is_zero ds ≡ 0
    → drop (min (prefix_len is_zero (replicate z 48 ++ ds)) (z + length ds - 1)) (replicate z 48 ++ ds) ≡ ds
behind_zeros z ds some none =
    let n : prefix_len is_zero (replicate z 48 ++ ds) ≡ z =
    prefix_len-append is_zero (replicate z 48) ds
    ∙ rw (prefix_len-replicate is_zero z 48 refl, length-replicate {A = ℕ} z 48, eq-eqb z z refl, none) (omega arith) in
    let m : min z (z + length ds - 1) ≡ z = omega arith in
    rw (n, m) (drop_at (replicate z 48) ds z (length-replicate {A = ℕ} z 48))

all_zeros : (v : ℕ) → drop {A = ℕ} (min (prefix_len is_zero (replicate (suc v) 48)) (suc v - 1)) (replicate (suc v) 48) ≡ 48 ∷ []
all_zeros v =
    let m : min (suc v) (suc v - 1) ≡ v = omega arith in
    rw (prefix_len-replicate is_zero (suc v) 48 refl, m)
    (ap (drop {A = ℕ} v) (sym (replicate_end 48 v)) ∙ drop_at (replicate v 48) (48 ∷ []) v (length-replicate {A = ℕ} v 48))

pub all_digits_of : (n : ℕ) → 0 < n → all_digits n ≡ map (λ d. 48 + d) (digits_of 10 n)
all_digits_of n some = rw (ne_eqb n 0 (λ e. omega arith))

stripped_some : (w n : ℕ) → 0 < n → n < 10 ^ w → drop (min (prefix_len is_zero (low_digits w n)) (w - 1)) (low_digits w n) ≡ all_digits n
stripped_some w n some h =
    let ds = digits_of 10 n in
    let k = length ds in
    let l : k ≤ w = length-digits_of-le 10 w n (lit≤ tt) h in
    let z = w - k in
    let wide : z + k ≡ w = omega arith in
    let whole : 0 * 10 ^ k + n ≡ n = omega arith in
    let first = first_digits_of 10 n (lit≤ tt) some in
    let digits = map (λ d. 48 + d) ds in
    let long : length digits ≡ k = length-map ds (λ d. 48 + d) in
    let is : low_digits w n ≡ replicate z 48 ++ digits =
    rw (wide, whole, low_digits-zero z, own_digits w n h) at (low_digits-join z k 0 n (below_own_power n)) in
    let width : w - 1 ≡ z + length digits - 1 = omega arith in
    rw (is, width, all_digits_of n some) (behind_zeros z digits (omega (arith, some_first ds first)) (no_first_zero ds first))

-- digits without the zeros at their start
stripped : (w n : ℕ) → 0 < w → n < 10 ^ w → drop (min (prefix_len is_zero (low_digits w n)) (w - 1)) (low_digits w n) ≡ all_digits n
stripped zero n some h = absurd (omega arith)
stripped (suc v) zero some h = rw (low_digits-zero (suc v)) (all_zeros v)
stripped (suc v) (suc n) some h = stripped_some (suc v) (suc n) (omega arith) h

-- ---- the point

pub ten_power : (k : ℕ) → 2 ^ k * 5 ^ k ≡ 10 ^ k
ten_power k = sym (mul-pow 2 5 k)

-- n * 5 ^ k is n / 2 ^ k with its point moved by k
pub point_moved : (n k : ℕ) → n * 5 ^ k ≡ n / 2 ^ k * 10 ^ k + n % 2 ^ k * 5 ^ k
point_moved n k = omega (arith, ap (λ x. n / 2 ^ k * x) (ten_power k), ap (λ x. x * 5 ^ k) (div-add-mod' n (2 ^ k)))

pub fraction_small : (n k : ℕ) → n % 2 ^ k * 5 ^ k < 10 ^ k
fraction_small n k = omega (arith, ten_power k, mul-lt-mul_of_pos_right (mod-lt n (pow_pos k)) (power_pos 5 k (lit< tt)))

whole_small : (n k w : ℕ) → n * 5 ^ k < 10 ^ (w + k) → n / 2 ^ k < 10 ^ w
whole_small n k w h =
    lt_of_mul-lt-mul_right (10 ^ k) (omega (arith, point_moved n k, rw (pow-add 10 w k) at h))

pub placed : (digits : List ℕ) (n k : ℕ) → k < length digits → digits ≡ low_digits (length digits) (n * 5 ^ k) → n * 5 ^ k < 10 ^ length digits
    → let whole = take (length digits - k) digits in
    (drop (min (prefix_len is_zero whole) (length whole - 1)) whole ≡ all_digits (n / 2 ^ k))
    × (drop (length digits - k) digits ≡ low_digits k (n % 2 ^ k * 5 ^ k))
placed digits n k some are fits =
    let w = length digits - k in
    let long : length digits ≡ w + k = omega arith in
    let front = low_digits w (n / 2 ^ k) in
    let back = low_digits k (n % 2 ^ k * 5 ^ k) in
    let is : digits ≡ front ++ back = are ∙ ap₂ low_digits long (point_moved n k) ∙ low_digits-join w k (n / 2 ^ k) (n % 2 ^ k * 5 ^ k) (fraction_small n k) in
    let at = length-low_digits w (n / 2 ^ k) in
    let front_is : take w digits ≡ front = ap (take w) is ∙ take_at front back w at in
    let back_is : drop w digits ≡ back = ap (drop w) is ∙ drop_at front back w at in
    (rw (front_is, at) (stripped w (n / 2 ^ k) (omega arith) (whole_small n k w (rw long at fits))), back_is)

-- what is below a power behind zeros is below it
pub below_behind_zeros : (n z w : ℕ) → n * 10 ^ z < 10 ^ w → n < 10 ^ w
below_behind_zeros n z w h = omega (arith, mul-le-mul_left n (power_pos 10 z (lit< tt)))
