-- The PDOs of a device, number by number.
use Rattle.std.proofs.Common.{◌≡◌, ℕ, zero, suc, ◌+◌, ◌-◌, ◌≤◌, Bool, true, false, List, [], ◌∷◌, ◌++◌, filter, map}
use Rattle.std.proofs.Common.{append-nil, refl, sym, ap, ◌∙◌, arith}
use Rattle.std.specs.List.{range_with_len}
use Rattle.std.proofs.lemmas.List.{map-append}
use Rattle.std.proofs.lemmas.List.Elements.{filter-append}
use Rattle.co_dict.specs.Shapes.{Shaped}
use Rattle.pdo_rules.specs.Working.{is_pdo}
use Rattle.device_pdos.specs.Objects.{numbers_of}

-- those of the numbers from 1 to n
unfoldable pub numbers_to : (ℕ → ℕ) → Shaped → ℕ → List ℕ
numbers_to object_of shape n = filter (λ number. is_pdo shape (object_of number)) (range_with_len 1 n)

range_more : (a n j : ℕ) → a + n ≡ j → range_with_len a (n + 1) ≡ range_with_len a n ++ j ∷ []
range_more a zero j e = let same : a ≡ j = omega (arith, e) in ap (λ (k : ℕ). k ∷ []) same
range_more a (suc n) j e =
    let one : suc n + 1 ≡ suc (n + 1) = omega arith in
    ap (range_with_len a) one ∙ ap (λ xs. a ∷ xs) (range_more (a + 1) n j (omega (arith, e)))

filter_more : (p : ℕ → Bool) (xs : List ℕ) (x : ℕ) → filter p (xs ++ x ∷ []) ≡ filter p xs ++ filter p (x ∷ [])
filter_more p xs x = filter-append p xs (x ∷ [])

module _ (object_of : ℕ → ℕ) (shape : Shaped) where
  next : (number : ℕ) → 1 ≤ number → numbers_to object_of shape (number + 1 - 1)
      ≡ numbers_to object_of shape (number - 1) ++ filter (λ n. is_pdo shape (object_of n)) (number ∷ [])
  unfolding numbers_to
  next number low =
      let p : ℕ → Bool = λ n. is_pdo shape (object_of n) in
      let up : number + 1 - 1 ≡ number - 1 + 1 = omega arith in
      ap (λ n. filter p (range_with_len 1 n)) up
      ∙ ap (filter p) (range_more 1 (number - 1) number (omega arith))
      ∙ filter_more p (range_with_len 1 (number - 1)) number

  pub none_at_first : {X : Type 0} (f : ℕ → X) → map f (numbers_to object_of shape 0) ≡ []
  unfolding numbers_to
  none_at_first f = refl

  pub one_more : {X : Type 0} (f : ℕ → X) (number : ℕ) (before after : List X) → 1 ≤ number
      → is_pdo shape (object_of number) ≡ true
      → before ≡ map f (numbers_to object_of shape (number - 1)) → after ≡ before ++ f number ∷ []
      → after ≡ map f (numbers_to object_of shape (number + 1 - 1))
  one_more f number before after low is so_far added =
      added
      ∙ ap (λ xs. xs ++ f number ∷ []) so_far
      ∙ sym (map-append f (numbers_to object_of shape (number - 1)) (number ∷ []))
      ∙ ap (map f) (sym (next number low ∙ (rw is refl)))

  pub skipped : {X : Type 0} (f : ℕ → X) (number : ℕ) (before : List X) → 1 ≤ number
      → is_pdo shape (object_of number) ≡ false
      → before ≡ map f (numbers_to object_of shape (number - 1))
      → before ≡ map f (numbers_to object_of shape (number + 1 - 1))
  skipped f number before low not so_far =
      so_far ∙ ap (map f) (sym (next number low ∙ (rw (not, append-nil) refl)))

  pub all : {X : Type 0} (f : ℕ → X) → map f (numbers_to object_of shape 512) ≡ map f (numbers_of object_of shape)
  unfolding numbers_to numbers_of
  all f = refl
