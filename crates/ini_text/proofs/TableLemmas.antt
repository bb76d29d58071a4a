-- A table of sections after a write through `get_index_mut`, and what a look-up in a table finds.
use Rattle.std.proofs.Common.{◌≡◌, ℕ, zero, suc, Bool, true, false, cond, List, [], ◌∷◌, ◌++◌, None, Some, Result, Ok}
use Rattle.std.proofs.Common.{Err, OnOk, OnErr, slice_get, refl, ap, ◌∙◌, sym}
use Rattle.std.specs.Global.{Vec}
use Rattle.std.specs.Map.{lookup, set_value, values_of}
use Rattle.std.specs.Option.{option_and_then}
use Rattle.std.specs.Str.{bytes_eq}
use Rattle.indexmap.specs.IndexMap.{set_value_at}
use Rattle.ini_text.specs.Content.{Section, lower_case, same, value_at, content_at}
use Rattle.ini_text.specs.Keyed.{AreFolded}
use Rattle.ini_text.specs.Reading.{has_key, with_pair, with_pair_at}
use Rattle.ini_text.specs.Change.{put_in_section}

pub with_pair-name : (s : Section) (key value : List ℕ) → (with_pair s key value).name ≡ s.name
with_pair-name s key value =
    elim (has_key s.pairs key) as
    (λ t. (cond t s (record { name = s.name; pairs = s.pairs ++ record { key = key; value = value } ∷ [] })).name
    ≡ s.name) [ true ↦ refl | false ↦ refl ]

-- what `add` leaves has the name
pub name_stays : {T E : Type 0} (r : Result T E) (old new : Section) (key value : List ℕ)
    → OnOk r (new ≡ with_pair old key value) → OnErr r (new ≡ old) → new.name ≡ old.name
name_stays (Ok x) old new key value f g = ap (λ s. s.name) f ∙ with_pair-name old key value
name_stays (Err e) old new key value f g = ap (λ s. s.name) g

-- the keys are still the names of their values
pub folded_at : (es : List (Vec ℕ × Section)) (i : ℕ) (old w : Section) → AreFolded (λ s. s.name) es
    → slice_get (values_of es) i ≡ Some old → w.name ≡ old.name → AreFolded (λ s. s.name) (set_value_at es i w)
folded_at [] i old w h at n = tt
folded_at (e ∷ es) zero old w h at n = let x : e.1 ≡ old = cc
    in (h.0 ∙ ap (λ s. lower_case s.name) x ∙ ap lower_case (sym n), h.1)
folded_at (e ∷ es) (suc i) old w h at n = (h.0, folded_at es i old w h.1 at n)

pub put_at : (es : List (Vec ℕ × Section)) (i : ℕ) (old w : Section) (key value : List ℕ)
    → slice_get (values_of es) i ≡ Some old → w ≡ with_pair old key value
    → values_of (set_value_at es i w) ≡ with_pair_at (values_of es) i key value
put_at [] i old w key value at g = refl
put_at (e ∷ es) zero old w key value at g = let x : e.1 ≡ old = cc
    in ap (λ s. s ∷ values_of es) (g ∙ ap (λ s. with_pair s key value) (sym x))
put_at (e ∷ es) (suc i) old w key value at g = ap (λ ss. e.1 ∷ ss) (put_at es i old w key value at g)

pub back_at : (es : List (Vec ℕ × Section)) (i : ℕ) (old w : Section) → slice_get (values_of es) i ≡ Some old → w ≡ old
    → values_of (set_value_at es i w) ≡ values_of es
back_at [] i old w at g = refl
back_at (e ∷ es) zero old w at g = let x : e.1 ≡ old = cc in ap (λ s. s ∷ values_of es) (g ∙ sym x)
back_at (e ∷ es) (suc i) old w at g = ap (λ ss. e.1 ∷ ss) (back_at es i old w at g)

pub nothing_at : (ss : List Section) (i : ℕ) (key value : List ℕ) → slice_get ss i ≡ None
    → with_pair_at ss i key value ≡ ss
nothing_at [] i key value h = refl
nothing_at (s ∷ ss) zero key value h = cc
nothing_at (s ∷ ss) (suc i) key value h = ap (λ xs. s ∷ xs) (nothing_at ss i key value h)

module _ (q k : List ℕ) (is_folded : k ≡ lower_case q) where
  -- what a table of sections has at a folded name
  pub content_found : (es : List (Vec ℕ × Section)) (key : List ℕ) → AreFolded (λ s. s.name) es
      → content_at (values_of es) q key ≡ option_and_then (λ s. value_at s.pairs key)
      (lookup (λ v. bytes_eq k v.items) es)
  content_found [] key h = refl
  content_found (e ∷ es) key h =
      let t : bytes_eq k e.0.items ≡ same q e.1.name = rw (is_folded, h.0) refl in
      rw t (elim (same q e.1.name) as (λ t. cond t (value_at e.1.pairs key) (content_at (values_of es) q key)
      ≡ option_and_then (λ s. value_at s.pairs key)
      (cond t (Some e.1) (lookup (λ v. bytes_eq k v.items) es))) [ true ↦ refl | false ↦ content_found es key h.1 ])

pub on_ok : {T E : Type 0} {P Q : Type 0} (r : Result T E) → OnOk r P → (P → Q) → OnOk r Q
on_ok (Ok x) h f = f h
on_ok (Err e) h f = tt

pub on_err : {T E : Type 0} {P Q : Type 0} (r : Result T E) → OnErr r P → (P → Q) → OnErr r Q
on_err (Ok x) h f = tt
on_err (Err e) h f = f h

-- the values after a write through `get_mut` of what was there
module _ (k : List ℕ) where
  pub put_back : (es : List (Vec ℕ × Section)) (old w : Section) → lookup (λ v. bytes_eq k v.items) es ≡ Some old
      → w ≡ old → values_of (set_value (λ v. bytes_eq k v.items) es w) ≡ values_of es
  put_back [] old w at g = refl
  put_back (e ∷ es) old w at g = by (bytes_eq k e.0.items) at (λ f. put_back es old w f g)
    where
      by : (t : Bool) → cond t (Some e.1) (lookup (λ v. bytes_eq k v.items) es) ≡ Some old
          → (lookup (λ v. bytes_eq k v.items) es ≡ Some old
          → values_of (set_value (λ v. bytes_eq k v.items) es w) ≡ values_of es)
          → values_of (cond t ((e.0, w) ∷ es) (e ∷ set_value (λ v. bytes_eq k v.items) es w)) ≡ e.1 ∷ values_of es
      by true f ih = let x : e.1 ≡ old = cc in ap (λ s. s ∷ values_of es) (g ∙ sym x)
      by false f ih = ap (λ ss. e.1 ∷ ss) (ih f)

-- what `set` leaves has the name
pub set_name_stays : {T E : Type 0} (r : Result T E) (old new : Section) (key value : List ℕ)
    → OnOk r (new ≡ put_in_section old key value) → OnErr r (new ≡ old) → new.name ≡ old.name
set_name_stays (Ok x) old new key value f g = ap (λ s. s.name) f
set_name_stays (Err e) old new key value f g = ap (λ s. s.name) g
