-- Lists of waiting frames of which one leaves, and lists of at most one.
use Rattle.std.proofs.Common.{◌≡◌, ◌≢◌, ℕ, zero, suc, ◌+◌, ◌<◌, Bool, true, false, List, [], ◌∷◌, ◌++◌, length, get_or}
use Rattle.std.proofs.Common.{◌⊎◌, inl, inr, refl, sym, ap, ◌∙◌, arith}
use Rattle.std.specs.Prelude.{cond, drop, filter, remove, ◌||◌}
use Rattle.std.specs.List.{list_any}
use Rattle.std.proofs.lemmas.Bool.{cases_eq, false≢true}
use Rattle.can_frame.specs.declared.waiting.Waiting.{Waiting}
use Rattle.network_laws.specs.Exchanges.{bytes_of}

-- ---- numbers, and places of entries

-- below the next of a number, and not that number
pub below_next : (a b : ℕ) → a < b + 1 → a ≢ b → a < b
below_next a b l d = by (cases_eq a b)
  where
    by : (a ≡ b) ⊎ (a ≢ b) → a < b
    by (inl e) = absurd (d e)
    by (inr e) = omega (arith, l, e)

pub place_or_not : (p q : ℕ × ℕ) → (p ≡ q) ⊎ (p ≢ q)
place_or_not p q = by (cases_eq p.0 q.0) (cases_eq p.1 q.1)
  where
    by : (p.0 ≡ q.0) ⊎ (p.0 ≢ q.0) → (p.1 ≡ q.1) ⊎ (p.1 ≢ q.1) → (p ≡ q) ⊎ (p ≢ q)
    by (inl a) (inl b) = inl (λ i. (a i, b i))
    by (inr a) b = inr (λ e. a (ap (λ (x : ℕ × ℕ). x.0) e))
    by (inl a) (inr b) = inr (λ e. b (ap (λ (x : ℕ × ℕ). x.1) e))

-- ---- lists of at most one

module _ {X : Type 0} where
  pub head_is : (x y : X) (xs ys : List X) → x ∷ xs ≡ y ∷ ys → x ≡ y
  head_is x y xs ys e = ap (λ (zs : List X). get_or zs 0 x) e

  pub tail_is : (x y : X) (xs ys : List X) → x ∷ xs ≡ y ∷ ys → xs ≡ ys
  tail_is x y xs ys e = ap (λ (zs : List X). drop 1 zs) e

  pub not_empty : {A : Type 0} (x : X) (xs : List X) → x ∷ xs ≡ [] → A
  not_empty x xs e = absurd cc

  pub both_empty : (xs ys : List X) → xs ++ ys ≡ [] → (xs ≡ []) × (ys ≡ [])
  both_empty [] ys e = (refl, e)
  both_empty (x ∷ xs) ys e = not_empty x (xs ++ ys) e

  -- the one is in the one list or in the other
  pub one_of_two : (xs ys : List X) (a : X) → xs ++ ys ≡ a ∷ []
      → ((xs ≡ a ∷ []) × (ys ≡ [])) ⊎ ((xs ≡ []) × (ys ≡ a ∷ []))
  one_of_two [] ys a e = inr (refl, e)
  one_of_two (x ∷ xs) ys a e =
      let rest = both_empty xs ys (tail_is x a (xs ++ ys) [] e) in
      inl (λ i. head_is x a (xs ++ ys) [] e i ∷ rest.0 i, rest.1)

pub none_has_bytes : (ws : List Waiting) → bytes_of ws ≡ [] → ws ≡ []
none_has_bytes [] e = refl
none_has_bytes (w ∷ ws) e = not_empty w.frame.bytes (bytes_of ws) e

pub one_has_bytes : (ws : List Waiting) (a : List ℕ) → bytes_of ws ≡ a ∷ []
    → (w : Waiting) × ((ws ≡ w ∷ []) × (w.frame.bytes ≡ a))
one_has_bytes [] a e = not_empty a [] (sym e)
one_has_bytes (w ∷ ws) a e =
    let rest = none_has_bytes ws (tail_is w.frame.bytes a (bytes_of ws) [] e) in
    (w, (ap (λ (vs : List Waiting). w ∷ vs) rest, head_is w.frame.bytes a (bytes_of ws) [] e))

-- ---- one that leaves its list

module _ (p : Waiting → Bool) (none : Waiting) where
  kept : (b : Bool) (w : Waiting) (xs ys : List Waiting) → xs ≡ ys → cond b (w ∷ xs) xs ≡ cond b (w ∷ ys) ys
  kept true w xs ys e = ap (λ (zs : List Waiting). w ∷ zs) e
  kept false w xs ys e = e

  pub others_left : (ws : List Waiting) (k : ℕ) → k < length ws → p (get_or ws k none) ≡ false
      → filter p (remove ws k) ≡ filter p ws
  others_left [] k h e = absurd (omega (arith, h))
  others_left (w ∷ ws) zero h e = rw e refl
  others_left (w ∷ ws) (suc k) h e =
      kept (p w) w (filter p (remove ws k)) (filter p ws) (others_left ws k (omega (arith, h)) e)

  pub any_left : (ws : List Waiting) (k : ℕ) → k < length ws → p (get_or ws k none) ≡ false
      → list_any p (remove ws k) ≡ list_any p ws
  any_left [] k h e = absurd (omega (arith, h))
  any_left (w ∷ ws) zero h e = rw e refl
  any_left (w ∷ ws) (suc k) h e = ap (λ (b : Bool). p w || b) (any_left ws k (omega (arith, h)) e)

  pub none_passes : (ws : List Waiting) (k : ℕ) → k < length ws → filter p ws ≡ [] → p (get_or ws k none) ≡ false
  none_passes [] k h e = absurd (omega (arith, h))
  none_passes (w ∷ ws) zero h e = by (p w) refl e
    where
      by : (b : Bool) → p w ≡ b → cond b (w ∷ filter p ws) (filter p ws) ≡ [] → p w ≡ false
      by true is f = not_empty w (filter p ws) f
      by false is f = is
  none_passes (w ∷ ws) (suc k) h e = none_passes ws k (omega (arith, h)) (by (p w) e)
    where
      by : (b : Bool) → cond b (w ∷ filter p ws) (filter p ws) ≡ [] → filter p ws ≡ []
      by true f = not_empty w (filter p ws) f
      by false f = f

  pub one_left : (ws : List Waiting) (k : ℕ) (v : Waiting) → k < length ws → p (get_or ws k none) ≡ true
      → filter p ws ≡ v ∷ [] → (filter p (remove ws k) ≡ []) × (get_or ws k none ≡ v)
  one_left [] k v h e f = absurd (omega (arith, h))
  one_left (w ∷ ws) zero v h e f =
      let is : w ∷ filter p ws ≡ v ∷ [] = ap (λ (b : Bool). cond b (w ∷ filter p ws) (filter p ws)) (sym e) ∙ f in
      (tail_is w v (filter p ws) [] is, head_is w v (filter p ws) [] is)
  one_left (w ∷ ws) (suc k) v h e f =
      by (one_left ws k v (omega (arith, h)) e) (none_passes ws k (omega (arith, h))) (p w) refl f
    where
      by : (filter p ws ≡ v ∷ [] → (filter p (remove ws k) ≡ []) × (get_or ws k none ≡ v))
          → (filter p ws ≡ [] → p (get_or ws k none) ≡ false) → (b : Bool) → p w ≡ b
          → cond b (w ∷ filter p ws) (filter p ws) ≡ v ∷ []
          → (cond b (w ∷ filter p (remove ws k)) (filter p (remove ws k)) ≡ []) × (get_or ws k none ≡ v)
      by rest passes true is g =
          absurd (false≢true (sym (passes (tail_is w v (filter p ws) [] g)) ∙ e))
      by rest passes false is g = rest g
