-- The number that limbs are, and how a product goes over them.
use Rattle.std.proofs.Common.{◌≡◌, ℕ, zero, suc, ◌+◌, ◌-◌, ◌*◌, ◌/◌, ◌%◌, ◌^◌, ◌<◌, ◌≤◌, List, [], ◌∷◌, ◌++◌, length, get_or, take, set}
use Rattle.std.proofs.Common.{ap, ◌∙◌, arith, lit<, pow-suc, pow-add, length-take-le, length-append, mul-pos, mul-le-mul_left}
use native.Mathlib.Nat.{pow-zero}
use Rattle.std.proofs.lemmas.List.{take_more, take_more_set}
use Rattle.real_texts.specs.Naturals.{limbs_number, AreLimbs, billion}

-- ---- powers

pub power_pos : (b k : ℕ) → 0 < b → 0 < b ^ k
power_pos b zero p = rw pow-zero (omega arith)
power_pos b (suc k) p = rw pow-suc (mul-pos (power_pos b k p) p)

-- k of the n factors
pub power_split : (b k n : ℕ) → k ≤ n → b ^ n ≡ b ^ k * b ^ (n - k)
power_split b k n h = let e : n ≡ k + (n - k) = omega arith in ap (λ y. b ^ y) e ∙ pow-add b k (n - k)

pub power_most : (b k n : ℕ) → 0 < b → k ≤ n → b ^ k ≤ b ^ n
power_most b k n p h = omega (arith, power_split b k n h, mul-le-mul_left (b ^ k) (power_pos b (n - k) p))

-- k of the n factors are multiplied in first
pub power_step : (b k x n : ℕ) → k ≤ n → x * b ^ k * b ^ (n - k) ≡ x * b ^ n
power_step b k x n h = omega (arith, ap (λ y. x * y) (power_split b k n h))

-- ---- one limb more above

pub limbs_number-push : (xs : List ℕ) (x : ℕ) → limbs_number (xs ++ (x ∷ [])) ≡ limbs_number xs + billion ^ length xs * x
limbs_number-push [] x = rw pow-zero (omega arith)
limbs_number-push (y ∷ ys) x = rw pow-suc (omega (arith, limbs_number-push ys x))

pub AreLimbs-push : (xs : List ℕ) (x : ℕ) → AreLimbs xs → x < billion → AreLimbs (xs ++ (x ∷ []))
AreLimbs-push [] x h l zero = l
AreLimbs-push [] x h l (suc i) = lit< tt
AreLimbs-push (y ∷ ys) x h l zero = h 0
AreLimbs-push (y ∷ ys) x h l (suc i) = AreLimbs-push ys x (λ k. h (suc k)) l i

AreLimbs-tail : (x : ℕ) (xs : List ℕ) → AreLimbs (x ∷ xs) → AreLimbs xs
AreLimbs-tail x xs h i = h (suc i)

pub AreLimbs-set : (xs : List ℕ) (i x : ℕ) → AreLimbs xs → x < billion → AreLimbs (set xs i x)
AreLimbs-set [] i x h l k = h k
AreLimbs-set (y ∷ ys) zero x h l zero = l
AreLimbs-set (y ∷ ys) zero x h l (suc k) = h (suc k)
AreLimbs-set (y ∷ ys) (suc i) x h l zero = h 0
AreLimbs-set (y ∷ ys) (suc i) x h l (suc k) = AreLimbs-set ys i x (AreLimbs-tail y ys h) l k

pub limbs_number-lt : (xs : List ℕ) → AreLimbs xs → limbs_number xs < billion ^ length xs
limbs_number-lt [] h = lit< tt
limbs_number-lt (x ∷ xs) h = rw pow-suc (omega (arith, limbs_number-lt xs (AreLimbs-tail x xs h), h 0))

-- ---- a product

product_parts : (done old x factor carry w : ℕ) → done + carry * w ≡ old * factor
    → done + w * ((x * factor + carry) % billion) + (x * factor + carry) / billion * (w * billion) ≡ (old + w * x) * factor
product_parts done old x factor carry w h =
    let wide = x * factor + carry in
    let parts : wide % billion + wide / billion * billion ≡ x * factor + carry = omega arith in
    omega (arith, ap (λ t. t * w) parts)

-- the next limb is multiplied, and the rest carried
pub product_step : (xs old : List ℕ) (i factor carry x : ℕ) → i < length xs → i < length old → get_or old i 0 ≡ x
    → limbs_number (take i xs) + carry * billion ^ i ≡ limbs_number (take i old) * factor
    → limbs_number (take (i + 1) (set xs i ((x * factor + carry) % billion))) + (x * factor + carry) / billion * billion ^ (i + 1)
    ≡ limbs_number (take (i + 1) old) * factor
product_step xs old i factor carry x p q e h =
    let a : i ≤ length xs = omega arith in
    let b : i ≤ length old = omega arith in
    let y = (x * factor + carry) % billion in
    rw (take_more_set xs i y p, take_more old i 0 q, e, limbs_number-push (take i xs) y, limbs_number-push (take i old) x, length-take-le i xs a, length-take-le i old b, pow-add billion i 1)
    (product_parts (limbs_number (take i xs)) (limbs_number (take i old)) x factor carry (billion ^ i) h)

-- nothing is carried beyond the base
pub carried : (x factor carry : ℕ) → x < billion → factor ≤ billion → carry < billion → x * factor + carry < billion * billion
carried x factor carry p q r = omega (arith, mul-le-mul_left x q)

-- the next limb of a number that is cut into limbs
pub number_step : (xs : List ℕ) (left n : ℕ) → limbs_number xs + billion ^ length xs * left ≡ n
    → limbs_number (xs ++ ((left % billion) ∷ [])) + billion ^ length (xs ++ ((left % billion) ∷ [])) * (left / billion) ≡ n
number_step xs left n h =
    let parts : left % billion + billion * (left / billion) ≡ left = omega arith in
    rw (limbs_number-push xs (left % billion), length-append xs ((left % billion) ∷ []), pow-add billion (length xs) 1)
    (omega (arith, h, ap (λ t. billion ^ length xs * t) parts))
