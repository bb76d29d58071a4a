-- The earliest of moments, list by list.
use Rattle.std.proofs.Common.{◌≡◌, ℕ, suc, ◌+◌, ◌<◌, ◌≤◌, List, [], ◌∷◌, ◌++◌, Option, Some, None, refl, sym, ap, ◌∙◌}
use Rattle.std.proofs.Common.{length, get_or, drop, arith}
use Rattle.std.specs.Prelude.{flat_map, min}
use Rattle.std.proofs.Math.Seq.{drop-cons}
use Rattle.std.proofs.lemmas.List.{drop_all}
use Rattle.base.specs.Moments.{earlier, earliest, moments_of}

min_apart : (a b c : ℕ) → min (min a b) c ≡ min a (min b c)
min_apart a b c = omega arith

pub in_turn : (a b c : Option ℕ) → earlier (earlier a b) c ≡ earlier a (earlier b c)
in_turn None b c = refl
in_turn (Some a) None c = refl
in_turn (Some a) (Some b) None = refl
in_turn (Some a) (Some b) (Some c) = ap (λ (n : ℕ). Some n) (min_apart a b c)

pub earlier_none : (a : Option ℕ) → earlier a None ≡ a
earlier_none None = refl
earlier_none (Some a) = refl

pub earliest_of : (a : Option ℕ) → earliest (moments_of a) ≡ a
earliest_of None = refl
earliest_of (Some a) = refl

pub earliest_append : (xs ys : List ℕ) → earliest (xs ++ ys) ≡ earlier (earliest xs) (earliest ys)
earliest_append [] ys = refl
earliest_append (x ∷ xs) ys = ap (earlier (Some x)) (earliest_append xs ys)
    ∙ sym (in_turn (Some x) (earliest xs) (earliest ys))

pub earliest_both : (a b : Option ℕ) → earliest (moments_of a ++ moments_of b) ≡ earlier a b
earliest_both a b = earliest_append (moments_of a) (moments_of b) ∙ (rw (earliest_of a, earliest_of b) refl)

-- the earliest of what each element has, from the place i on
module _ {X : Type 0} (f : X → List ℕ) (xs : List X) (i : ℕ) (next : Option ℕ) where
  pub one_more : (d : X) → i < length xs → earlier (earlier next (earliest (f (get_or xs i d))))
      (earliest (flat_map f (drop (i + 1) xs))) ≡ earlier next (earliest (flat_map f (drop i xs)))
  one_more d within =
      let after : suc i ≡ i + 1 = omega arith in
      let left : drop i xs ≡ get_or xs i d ∷ drop (i + 1) xs = drop-cons xs i d within
      ∙ ap (λ n. get_or xs i d ∷ drop n xs) after in
      in_turn next (earliest (f (get_or xs i d))) (earliest (flat_map f (drop (i + 1) xs)))
      ∙ ap (earlier next) (sym (earliest_append (f (get_or xs i d)) (flat_map f (drop (i + 1) xs))))
      ∙ ap (λ ys. earlier next (earliest (flat_map f ys))) (sym left)

  pub none_more : length xs ≤ i → earlier next (earliest (flat_map f (drop i xs))) ≡ next
  none_more past = ap (λ ys. earlier next (earliest (flat_map f ys))) (drop_all i xs past) ∙ earlier_none next
