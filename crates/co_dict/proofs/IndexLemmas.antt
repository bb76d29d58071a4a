-- The test of an index, and what it says.
use Rattle.std.proofs.Common.{◌≡◌, ◌==◌, ◌||◌, ◌↔◌, ℕ, List, [], ◌∷◌, Bool, true, false, T, IsTrue, refl, sym, ap}
use Rattle.std.proofs.Common.{subst, ◌∙◌, eq-eqb, eqb→eq}
use Rattle.std.specs.Prelude.{is_some, Some}
use Rattle.std.specs.List.{list_any}
use Rattle.std.specs.Ordering.{eq_by_cmp, is_eq}
use Rattle.std.specs.Cmp.{tied_itself}
use Rattle.std.specs.FinMap.{contains_key-keys, get, keys}
use Rattle.co_dict.specs.declared.entry.Entry.{Entry}
use Rattle.co_dict.specs.Checks.{has_index}
use Rattle.co_dict.specs.Places.{place_cmp}
use Rattle.co_dict.specs.Shapes.{Shaped, HasIndex}
use Rattle.co_dict.proofs.PlaceLemmas.{places_exact, places_total, tied}

-- a key that passes the test stands among the keys
abbrev IsFound : (ℕ × ℕ → Bool) → List (ℕ × ℕ) → Type 0
IsFound p ks = (k : ℕ × ℕ) × ((p k ≡ true) × (list_any (eq_by_cmp place_cmp k) ks ≡ true))

either : (a b : Bool) → b ≡ true → a || b ≡ true
either true b e = refl
either false b e = e

any_found : (p : ℕ × ℕ → Bool) (ks : List (ℕ × ℕ)) → list_any p ks ≡ true → IsFound p ks
any_found p [] e = cc
any_found p (k ∷ ks) e = by (p k) refl e (any_found p ks)
  where
    by : (b : Bool) → p k ≡ b → b || list_any p ks ≡ true → (list_any p ks ≡ true → IsFound p ks) → IsFound p (k ∷ ks)
    by true is h rest = (k, (is, ap (λ r. is_eq r || list_any (eq_by_cmp place_cmp k) ks) (tied_itself places_total k)))
    by false is h rest = (((rest h).0), ((rest h).1.0, either (eq_by_cmp place_cmp (rest h).0 k) _ (rest h).1.1))

one_of : (a b c d : Bool) → (a ≡ true → b ≡ true) → (c ≡ true → d ≡ true) → a || c ≡ true → b || d ≡ true
one_of true b c d first rest e = ap (λ t. t || d) (first refl)
one_of false b c d first rest e = either b d (rest e)

any_from : (p q : ℕ × ℕ → Bool) (ks : List (ℕ × ℕ)) → ((k : ℕ × ℕ) → p k ≡ true → q k ≡ true) → list_any p ks ≡ true
    → list_any q ks ≡ true
any_from p q [] h e = cc
any_from p q (k ∷ ks) h e = one_of (p k) (q k) _ _ (h k) (any_from p q ks h) e

-- the test of an index holds where some entry has it
pub has_index_is : (shape : Shaped) (index : ℕ) → (has_index shape index ≡ true → HasIndex shape index)
    × (HasIndex shape index → has_index shape index ≡ true)
unfolding has_index
has_index_is shape index = (
  (λ e.
      let found = any_found (λ place. place.0 == index) (keys shape.entries) e in
      let k = found.0 in
      let same : k.0 ≡ index = eqb→eq k.0 index (subst T (sym found.1.0) tt) in
      let there : is_some (get shape.entries k) ≡ true = contains_key-keys shape.entries k ∙ found.1.1 in
      (k.1, ap (λ (i : ℕ). is_some (get shape.entries (i, k.1))) (sym same) ∙ there)),
  (λ found.
      let place : ℕ × ℕ = (index, found.0) in
      any_from (eq_by_cmp place_cmp place) (λ (k : ℕ × ℕ). k.0 == index) (keys shape.entries)
      (λ k e. eq-eqb k.0 index (ap (λ (p : ℕ × ℕ). p.0) (sym (places_exact place k (tied _ e)))))
      (sym (contains_key-keys shape.entries place) ∙ found.1)),
)

-- so an answer that says the one says the other
pub index_test : (shape : Shaped) (index : ℕ) (test : Bool) → (IsTrue test ↔ HasIndex shape index)
    → test ≡ has_index shape index
index_test shape index true h = sym ((has_index_is shape index).1 (h.0 refl))
index_test shape index false h = by (has_index shape index) refl
  where
    by : (b : Bool) → has_index shape index ≡ b → false ≡ b
    by true is = h.1 ((has_index_is shape index).0 is)
    by false is = refl

-- an entry that is there has its index
pub index_there : (shape : Shaped) (index sub : ℕ) (entry : Entry) → Some entry ≡ get shape.entries (index, sub)
    → has_index shape index ≡ true
index_there shape index sub entry there = (has_index_is shape index).1 (sub, subst (λ o. is_some o ≡ true) there refl)
