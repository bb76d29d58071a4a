-- Private numbers.
use Rattle.std.proofs.Common.{◌≡◌, ℕ, ◌+◌, ◌≤◌, true, false, sym, ap, ◌∙◌, arith, refl}
use Rattle.std.specs.Prelude.{◌==◌}
use Rattle.std.proofs.lemmas.Bool.Decides.{nat_tests}
use Rattle.trace_spans.specs.Numbers.{KeepsMeaning, StandsFor, with_meaning}

module _ {X : Type 0} where
  -- one number, one value
  pub same_number : (meaning : ℕ → X) (given m n : ℕ) (a b : X) → m ≡ n → StandsFor meaning given m a
      → StandsFor meaning given n b → a ≡ b
  same_number meaning given m n a b e h k = sym h.1 ∙ ap meaning e ∙ k.1

  -- once more numbers were given
  pub stands_later : (old new : ℕ → X) (given later n : ℕ) (a : X) → KeepsMeaning given old new → given ≤ later
      → StandsFor old given n a → StandsFor new later n a
  stands_later old new given later n a keeps more h = (omega (arith, h.0, more), keeps n h.0 ∙ h.1)

  pub given_keeps : (meaning : ℕ → X) (given : ℕ) (a : X) → KeepsMeaning given meaning (with_meaning meaning given a)
  given_keeps meaning given a n h =
      let other : (n == given) ≡ false = grind (arith, nat_tests) in
      rw other refl

  pub given_stands : (meaning : ℕ → X) (given : ℕ) (a : X)
      → StandsFor (with_meaning meaning given a) (given + 1) given a
  given_stands meaning given a =
      let same : (given == given) ≡ true = grind (arith, nat_tests) in
      (omega arith, rw same refl)

  pub keeps_all : (meaning : ℕ → X) (given : ℕ) → KeepsMeaning given meaning meaning
  keeps_all meaning given n h = refl

  pub keeps_in_turn : (a b c : ℕ → X) (given later : ℕ) → given ≤ later → KeepsMeaning given a b
      → KeepsMeaning later b c → KeepsMeaning given a c
  keeps_in_turn a b c given later more h k n within = k n (omega (arith, within, more)) ∙ h n within
