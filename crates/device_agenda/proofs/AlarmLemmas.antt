-- Agendas in two words.
use Rattle.std.proofs.Common.{◌≡◌, ℕ, ◌-◌, ◌<◌, ◌≤◌, ◌==◌, ◌^◌, ◌||◌, Bool, true, false, Some, None}
use Rattle.std.proofs.Common.{refl, ap, ◌∙◌, arith}
use Rattle.std.specs.Prelude.{if◌then◌else◌, min}
use Rattle.std.proofs.lemmas.Bool.Decides.{nat_tests}
use Rattle.base.specs.Moments.{earlier}
use Rattle.device_agenda.specs.Alarms.{due_at, is_now}

-- the greatest moment that an alarm can hold
abbrev pub top : ℕ
top = 2 ^ 64 - 1

is_top : (n : ℕ) → (n == top) ≡ true → n ≡ top
is_top n e = grind (arith, nat_tests)

isnt_top : (n : ℕ) → (n == top) ≡ false → n ≤ top → n < top
isnt_top n e h = grind (arith, nat_tests)

no_top : (n : ℕ) → n < top → (n == top) ≡ false
no_top n h = grind (arith, nat_tests)

chosen : (m n : ℕ) (b : Bool) → m ≡ n → (n == top) ≡ b → due_at m ≡ (if b then None else Some n)
chosen m n b e f = ap due_at e ∙ ap (λ (x : Bool). if x then None else Some n) f

-- ---- of devices and others

pub either_now : (a b : ℕ) → is_now (min a b) ≡ is_now a || is_now b
either_now a b = by (a == 0) (b == 0) refl refl
  where
    by : (x y : Bool) → (a == 0) ≡ x → (b == 0) ≡ y → (min a b == 0) ≡ x || y
    by true y e f = grind (arith, nat_tests)
    by false true e f = grind (arith, nat_tests)
    by false false e f = grind (arith, nat_tests)

pub earlier_at : (a b : ℕ) → a ≤ top → b ≤ top → due_at (min a b) ≡ earlier (due_at a) (due_at b)
earlier_at a b low high = by (a == top) (b == top) refl refl
  where
    by : (x y : Bool) → (a == top) ≡ x → (b == top) ≡ y
        → due_at (min a b) ≡ earlier (if x then None else Some a) (if y then None else Some b)
    by true y e f = let is = is_top a e in chosen (min a b) b y (omega (arith, is, high)) f
    by false true e f = let is = is_top b f in chosen (min a b) a false (omega (arith, is, low)) e
    by false false e f =
        let one = isnt_top a e low in
        let other = isnt_top b f high in
        chosen (min a b) (min a b) false refl (no_top (min a b) (omega (arith, one, other)))
