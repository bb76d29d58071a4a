-- Entries under their keys.
use Rattle.std.proofs.Common.{◌≡◌, ℕ, zero, suc, ◌+◌, ◌<◌, false, ◌⊎◌, inl, inr, List, [], ◌∷◌, take, length, get_or, Contains, nat_eq, refl, ap, arith}
use Rattle.std.proofs.lemmas.Bool.Decides.{nat_tests}
use Rattle.std.specs.List.{AllByRecursion}
use Rattle.std.specs.Map.{keys_of}
use Rattle.lru.proofs.CallerLemmas.{Contains-take}
use Rattle.kept_values.specs.LastUsed.{AreGiven}

pub head_in : {X : Type 0} (x : X) (xs : List X) → Contains (x ∷ xs) x
head_in x xs = (0, omega arith, refl)

pub tail_in : {X : Type 0} (y : X) (xs : List X) (x : X) → Contains xs x → Contains (y ∷ xs) x
tail_in y xs x c = (suc c.0, omega (arith, c.1), c.2)

at : {X : Type 0} (y : X) (xs : List X) (x : X) (k : ℕ) → k < length (y ∷ xs) → get_or (y ∷ xs) k x ≡ x → (y ≡ x) ⊎ Contains xs x
at y xs x zero h e = inl e
at y xs x (suc k) h e = inr (k, omega (arith, h), e)

pub in_cons : {X : Type 0} (y : X) (xs : List X) (x : X) → Contains (y ∷ xs) x → (y ≡ x) ⊎ Contains xs x
in_cons y xs x c = at y xs x c.0 c.1 c.2

pub none_in : {X : Type 0} (x : X) → Contains [] x → ⊥
none_in x c = absurd (omega (arith, c.1))

pub flip : (a b : ℕ) → nat_eq a b ≡ nat_eq b a
flip a b = grind (arith, nat_tests)

another : (a b : ℕ) → b < a → nat_eq a b ≡ false
another a b h = grind (arith, nat_tests)

module _ {V : Type 0} where
  -- a key that is yet to be given differs from those
  pub new_keys : (key : ℕ) (es : List (ℕ × V)) → AreGiven key es → AllByRecursion (λ y. nat_eq key y ≡ false) (keys_of es)
  new_keys key [] h = tt
  new_keys key (e ∷ es) h = (another key e.0 (h e (head_in e es)), new_keys key es (λ f c. h f (tail_in e es f c)))

  pub given_added : (given n : ℕ) (v : V) (es : List (ℕ × V)) → AreGiven given es → AreGiven (given + 1) (take n ((given, v) ∷ es))
  given_added given n v es h = λ e c. by e (in_cons (given, v) es e (Contains-take n ((given, v) ∷ es) e c))
    where
      by : (e : ℕ × V) → ((given, v) ≡ e) ⊎ Contains es e → e.0 < given + 1
      by e (inl is) = omega (arith, ap (λ (x : ℕ × V). x.0) is)
      by e (inr c) = omega (arith, h e c)
