-- Contenders stand in a total order.
use Rattle.std.proofs.Common.{◌≡◌, ℕ, ◌<◌, ◌≤◌, true, false, ap, ◌∙◌, arith}
use Rattle.std.specs.Prelude.{nat_lt, ◌==◌, ◌&&◌, ◌||◌}
use Rattle.std.proofs.lemmas.Bool.Decides.{nat_tests}
use Rattle.can_frame.specs.declared.contender.Contender.{Contender}
use Rattle.can_frame.specs.Winner.{is_below}

-- ---- over numbers

one_way : (i n p j m q : ℕ) → (nat_lt i j || (i == j) && (nat_lt n m || (n == m) && nat_lt p q)) ≡ true
    → (nat_lt j i || (j == i) && (nat_lt m n || (m == n) && nat_lt q p)) ≡ false
one_way i n p j m q h = grind (arith, nat_tests)

chain : (i n p j m q k o r : ℕ) → (nat_lt i j || (i == j) && (nat_lt n m || (n == m) && nat_lt p q)) ≡ false
    → (nat_lt j k || (j == k) && (nat_lt m o || (m == o) && nat_lt q r)) ≡ false
    → (nat_lt i k || (i == k) && (nat_lt n o || (n == o) && nat_lt p r)) ≡ false
chain i n p j m q k o r g h = grind (arith, nat_tests)

neither : (i n p j m q : ℕ) → (nat_lt i j || (i == j) && (nat_lt n m || (n == m) && nat_lt p q)) ≡ false
    → (nat_lt j i || (j == i) && (nat_lt m n || (m == n) && nat_lt q p)) ≡ false → (i ≡ j) × (n ≡ m) × (p ≡ q)
neither i n p j m q g h = (grind (arith, nat_tests), grind (arith, nat_tests), grind (arith, nat_tests))

itself : (i n p : ℕ) → (nat_lt i i || (i == i) && (nat_lt n n || (n == n) && nat_lt p p)) ≡ false
itself i n p = grind (arith, nat_tests)

later : (i j n p q : ℕ) → i ≤ j → (q < p → i < j)
    → (nat_lt j i || (j == i) && (nat_lt n n || (n == n) && nat_lt q p)) ≡ false
later i j n p q h k = grind (arith, nat_tests)

-- ---- over contenders

-- of two, one is not below the other
pub below-one_way : (a b : Contender) → is_below a b ≡ true → is_below b a ≡ false
below-one_way a b h = one_way a.id a.sender a.place b.id b.sender b.place h

-- what is not below one that is not below a third is not below the third
pub below-chain : (a b c : Contender) → is_below a b ≡ false → is_below b c ≡ false → is_below a c ≡ false
below-chain a b c g h = chain a.id a.sender a.place b.id b.sender b.place c.id c.sender c.place g h

-- none is below itself
pub below-itself : (a : Contender) → is_below a a ≡ false
below-itself a = itself a.id a.sender a.place

-- two of which neither is below the other are one
pub below-neither : (a b : Contender) → is_below a b ≡ false → is_below b a ≡ false → a ≡ b
below-neither a b g h =
    let same = neither a.id a.sender a.place b.id b.sender b.place g h in
    let made : ℕ → ℕ → ℕ → Contender = λ id node place. record { id = id; sender = node; place = place } in
    ap (λ id. made id a.sender a.place) same.0 ∙ ap (λ node. made b.id node a.place) same.1
    ∙ ap (λ place. made b.id b.sender place) same.2

-- of a node's frames one is not below another that has a lower identifier, or no higher one and an earlier place
pub below-later : (i j node place other : ℕ) → i ≤ j → (other < place → i < j)
    → is_below (record { id = j; sender = node; place = other }) (record { id = i; sender = node; place = place }) ≡ false
below-later i j node place other h k = later i j node place other h k
