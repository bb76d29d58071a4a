-- Defaults that are the same at every node, and the others.
use Rattle.std.proofs.Common.{◌≡◌, ℕ, zero, suc, ◌+◌, ◌<◌, ◌≤◌, Bool, true, false, List, [], ◌∷◌, ◌++◌, length, take, get_or}
use Rattle.std.proofs.Common.{Option, None, Some, refl, sym, ap, ◌∙◌, arith, subst}
use Rattle.std.specs.Prelude.{if◌then◌else◌, option_map, option_and_then}
use Rattle.std.specs.BTreeMap.{is_at}
use Rattle.std.specs.FinMap.{empty, get, get-insert, insert, same_map}
use Rattle.std.specs.Option.{option_map_or, option_or}
use Rattle.std.proofs.lemmas.List.{take_all, take_more}
use Rattle.co_dict.proofs.PlaceLemmas.{places_exact, places_total}
use Rattle.co_dict.specs.Places.{place_cmp}
use Rattle.co_dict.specs.Values.{Values}
use Rattle.eds_places.proofs.PlaceLemmas.{alike}
use Rattle.eds_device.specs.Common.{with_default, with_defaults}
use Rattle.eds_device.specs.Described.{Described, description_of}
use Rattle.eds_device.specs.Entries.{default_at, default_by, defaults_of}
use Rattle.eds_device.proofs.MapLemmas.{Has, has_all, has_more, has_none}
use Rattle.eds_device.specs.Sheets.{Sheet}
use Rattle.eds_places.specs.Places.{pairs_of}

module _ (sheet : Sheet) (node : ℕ) where
  -- what a place has once a default was set
  get_with : (m : Values) (p q : ℕ × ℕ) → get (with_default sheet node p m) q
      ≡ (if is_at (place_cmp q) p then option_or (default_at sheet node q.0 q.1) (get m q) else get m q)
  get_with m p q = by (is_at (place_cmp q) p) (default_at sheet node p.0 p.1) refl refl
    where
      by : (t : Bool) (o : Option (List ℕ)) → is_at (place_cmp q) p ≡ t → default_at sheet node p.0 p.1 ≡ o
          → get (option_map_or (insert m p) o m) q
          ≡ (if t then option_or (default_at sheet node q.0 q.1) (get m q) else get m q)
      by true None e g =
          let same : default_at sheet node q.0 q.1 ≡ None = ap (λ (x : ℕ × ℕ). default_at sheet node x.0 x.1) (alike q p e) ∙ g in
          rw same refl
      by false None e g = refl
      by true (Some x) e g =
          let same : default_at sheet node q.0 q.1 ≡ Some x = ap (λ (x : ℕ × ℕ). default_at sheet node x.0 x.1) (alike q p e) ∙ g in
          get-insert places_total m p x q ∙ ap (λ b. if b then Some x else get m q) e
          ∙ sym (ap (λ (o : Option (List ℕ)). option_or o (get m q)) same)
      by false (Some x) e g = get-insert places_total m p x q ∙ ap (λ b. if b then Some x else get m q) e

  -- two defaults are set in either order
  in_either_order : (m : Values) (p q : ℕ × ℕ)
      → with_default sheet node q (with_default sheet node p m) ≡ with_default sheet node p (with_default sheet node q m)
  in_either_order m p q = same_map places_total places_exact _ _ (λ x.
      get_with (with_default sheet node p m) q x
      ∙ ap (λ (o : Option (List ℕ)). if is_at (place_cmp x) q then option_or (default_at sheet node x.0 x.1) o else o)
      (get_with m p x)
      ∙ by x (is_at (place_cmp x) p) (is_at (place_cmp x) q) (default_at sheet node x.0 x.1)
      ∙ sym (get_with (with_default sheet node q m) p x
      ∙ ap (λ (o : Option (List ℕ)). if is_at (place_cmp x) p then option_or (default_at sheet node x.0 x.1) o else o)
      (get_with m q x)))
    where
      by : (x : ℕ × ℕ) (t u : Bool) (d : Option (List ℕ))
          → (if u then option_or d (if t then option_or d (get m x) else get m x)
          else (if t then option_or d (get m x) else get m x))
          ≡ (if t then option_or d (if u then option_or d (get m x) else get m x)
          else (if u then option_or d (get m x) else get m x))
      by x true true d = refl
      by x true false d = refl
      by x false true d = refl
      by x false false d = refl

  -- one that is set first is set last
  pub set_first : (ps : List (ℕ × ℕ)) (m : Values) (p : ℕ × ℕ)
      → with_defaults sheet node ps (with_default sheet node p m) ≡ with_default sheet node p (with_defaults sheet node ps m)
  unfolding with_defaults
  set_first [] m p = refl
  set_first (q ∷ qs) m p = ap (with_defaults sheet node qs) (in_either_order m p q) ∙ set_first qs (with_default sheet node q m) p

  pub set_last : (ps : List (ℕ × ℕ)) (m : Values) (p : ℕ × ℕ)
      → with_defaults sheet node (ps ++ p ∷ []) m ≡ with_default sheet node p (with_defaults sheet node ps m)
  unfolding with_defaults
  set_last [] m p = refl
  set_last (q ∷ qs) m p = set_last qs (with_default sheet node q m) p

  pub one_more_set : (places : List (ℕ × ℕ)) (i : ℕ) (d : ℕ × ℕ) (m now new : Values) → i < length places
      → now ≡ with_defaults sheet node (take i places) m → new ≡ with_default sheet node (get_or places i d) now
      → new ≡ with_defaults sheet node (take (i + 1) places) m
  one_more_set places i d m now new lt is change =
      change ∙ ap (with_default sheet node (get_or places i d)) is ∙ sym (set_last (take i places) m (get_or places i d))
      ∙ sym (ap (λ ps. with_defaults sheet node ps m) (take_more places i d lt))

  -- the defaults of all entries, one after the other
  set_more : (ps : List (ℕ × ℕ)) (i : ℕ) → i ≤ length ps
      → Has (λ p. default_at sheet node p.0 p.1) (with_defaults sheet node (take i ps) empty) (take i ps)
  unfolding with_defaults
  set_more ps zero h = has_none (λ p. default_at sheet node p.0 p.1)
  set_more ps (suc i) h =
      let f : ℕ × ℕ → Option (List ℕ) = λ p. default_at sheet node p.0 p.1 in
      let d : ℕ × ℕ = (0, 0) in
      let lt : i < length ps = omega (arith, h) in
      let next : i + 1 ≡ suc i = omega arith in
      subst (λ (k : ℕ). Has f (with_defaults sheet node (take k ps) empty) (take k ps)) next
      (has_more f (with_defaults sheet node (take i ps) empty) (with_defaults sheet node (take (i + 1) ps) empty) ps i d
      (get_or ps i d) lt refl (sym (one_more_set ps i d empty (with_defaults sheet node (take i ps) empty)
      (with_default sheet node (get_or ps i d) (with_defaults sheet node (take i ps) empty)) lt refl refl))
      (set_more ps i (omega (arith, h))))

  pub all_set : with_defaults sheet node (pairs_of sheet.sections) empty ≡ defaults_of sheet node
  unfolding defaults_of
  all_set =
      let ps = pairs_of sheet.sections in
      let whole : take (length ps) ps ≡ ps = take_all (length ps) ps (omega arith) in
      has_all (λ p. default_at sheet node p.0 p.1) (with_defaults sheet node ps empty) ps
      (rw whole at (set_more ps (length ps) (omega arith)))

-- a default is the same where what is described is
pub default_alike : (sheet : Sheet) (index sub : ℕ) (o : Option Described) → o ≡ description_of sheet index sub
    → ((node other : ℕ) → option_and_then (default_by node) o ≡ option_and_then (default_by other) o)
    → (node other : ℕ) → default_at sheet node index sub ≡ default_at sheet other index sub
unfolding default_at
default_alike sheet index sub o is h = λ node other. rw (← is) (h node other)
