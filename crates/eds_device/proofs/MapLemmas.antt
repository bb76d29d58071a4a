-- Maps that have what a function gives, place by place.
use Rattle.std.proofs.Common.{◌≡◌, ℕ, ◌+◌, ◌<◌, Bool, true, false, ◌||◌, List, [], ◌∷◌, ◌++◌, length, take, get_or}
use Rattle.std.proofs.Common.{Option, None, Some, refl, sym, ap, ◌∙◌}
use Rattle.std.specs.Prelude.{if◌then◌else◌}
use Rattle.std.specs.BTreeMap.{is_at}
use Rattle.std.specs.FinMap.{FinMap, empty, find, from_entries, get, get-empty, get-from_entries, get-insert, insert}
use Rattle.std.specs.FinMap.{same_map}
use Rattle.std.specs.Option.{option_map_or}
use Rattle.std.proofs.lemmas.List.{take_more}
use Rattle.std.proofs.lemmas.List.Folds.{list_any-append}
use Rattle.co_dict.proofs.PlaceLemmas.{places_exact, places_total}
use Rattle.co_dict.specs.Places.{place_cmp}
use Rattle.eds_device.specs.Entries.{given_at}
use Rattle.eds_places.proofs.PlaceLemmas.{alike, has_place}

module _ {X : Type 0} (f : ℕ × ℕ → Option X) where
  abbrev pub among : ℕ × ℕ → List (ℕ × ℕ) → Option X
  among q ps = if has_place q ps then f q else None

  abbrev pub Has : FinMap place_cmp X → List (ℕ × ℕ) → Type 0
  Has m ps = (q : ℕ × ℕ) → get m q ≡ among q ps

  pub has_none : Has empty []
  has_none q = get-empty place_cmp q

  pub has_more : (m new : FinMap place_cmp X) (ps : List (ℕ × ℕ)) (i : ℕ) (d p : ℕ × ℕ) → i < length ps
      → p ≡ get_or ps i d → new ≡ option_map_or (insert m p) (f p) m → Has m (take i ps) → Has new (take (i + 1) ps)
  has_more m new ps i d p lt is change h = λ q.
      let more : take (i + 1) ps ≡ take i ps ++ p ∷ [] = take_more ps i d lt ∙ ap (λ x. take i ps ++ x ∷ []) (sym is) in
      let now : has_place q (take (i + 1) ps) ≡ (has_place q (take i ps) || (is_at (place_cmp q) p || false)) =
      ap (has_place q) more ∙ list_any-append (is_at (place_cmp q)) (take i ps) (p ∷ []) in
      rw (change, now) (by q (has_place q (take i ps)) (is_at (place_cmp q) p) (f p) refl refl (h q))
    where
      by : (q : ℕ × ℕ) (a t : Bool) (o : Option X) → is_at (place_cmp q) p ≡ t → f p ≡ o
          → get m q ≡ (if a then f q else None) → get (option_map_or (insert m p) o m) q
          ≡ (if a || (t || false) then f q else None)
      by q true true None e g k = k
      by q true false None e g k = k
      by q false true None e g k = k ∙ sym g ∙ ap f (sym (alike q p e))
      by q false false None e g k = k
      by q true true (Some x) e g k = get-insert places_total m p x q ∙ ap (λ b. if b then Some x else get m q) e
          ∙ sym g ∙ ap f (sym (alike q p e))
      by q true false (Some x) e g k = get-insert places_total m p x q ∙ ap (λ b. if b then Some x else get m q) e ∙ k
      by q false true (Some x) e g k = get-insert places_total m p x q ∙ ap (λ b. if b then Some x else get m q) e
          ∙ sym g ∙ ap f (sym (alike q p e))
      by q false false (Some x) e g k = get-insert places_total m p x q ∙ ap (λ b. if b then Some x else get m q) e ∙ k

  find_given : (q : ℕ × ℕ) (ps : List (ℕ × ℕ)) → find place_cmp q (given_at f ps) ≡ among q ps
  find_given q [] = refl
  find_given q (p ∷ ps) = by (is_at (place_cmp q) p) (has_place q ps) (f p) refl refl (find_given q ps)
    where
      by : (t a : Bool) (o : Option X) → is_at (place_cmp q) p ≡ t → f p ≡ o
          → find place_cmp q (given_at f ps) ≡ (if a then f q else None)
          → find place_cmp q (option_map_or (λ x. (p, x) ∷ given_at f ps) o (given_at f ps))
          ≡ (if t || a then f q else None)
      by true true None e g k = k
      by true false None e g k = k ∙ sym g ∙ ap f (sym (alike q p e))
      by false a None e g k = k
      by true a (Some x) e g k = ap (λ b. if b then Some x else find place_cmp q (given_at f ps)) e ∙ sym g
          ∙ ap f (sym (alike q p e))
      by false a (Some x) e g k = ap (λ b. if b then Some x else find place_cmp q (given_at f ps)) e ∙ k

  -- what the map of all that is given has
  pub get_given : (ps : List (ℕ × ℕ)) (q : ℕ × ℕ) → get (from_entries {R = place_cmp} (given_at f ps)) q ≡ among q ps
  get_given ps q = get-from_entries places_total (given_at f ps) q ∙ find_given q ps

  pub has_all : (m : FinMap place_cmp X) (ps : List (ℕ × ℕ)) → Has m ps
      → m ≡ from_entries {R = place_cmp} (given_at f ps)
  has_all m ps h = same_map places_total places_exact m (from_entries (given_at f ps)) (λ q. h q ∙ sym (get_given ps q))
