-- The pairs of a section: what a look-up finds, and what they are after one is put.
use Rattle.std.proofs.Common.{◌≡◌, ℕ, Bool, true, false, cond, List, [], ◌∷◌, ◌++◌, Some, refl, ap, ◌∙◌, sym}
use Rattle.std.specs.List.{find, list_any}
use Rattle.std.specs.Option.{option_map}
use Rattle.indexmap.specs.IndexSet.{replace_key, swap_key}
use Rattle.ini_text.specs.Content.{Pair, same, same_key, value_at}
use Rattle.ini_text.specs.Change.{put_value}
use Rattle.ini_text.proofs.NameLemmas.{same_as}
use Rattle.ini_text.proofs.ChangeLemmas.{change_or_add-new}
use Rattle.ini_text.proofs.ContentLemmas.{any_same}

-- the value at a key is that of the pair that a look-up finds
pub value_found : (ps : List Pair) (key : List ℕ)
    → value_at ps key ≡ option_map (λ p. p.value) (find (λ p. same key p.key) ps)
value_found [] key = refl
value_found (p ∷ ps) key = elim (same key p.key) as (λ t. cond t (Some p.value) (value_at ps key)
    ≡ option_map (λ q. q.value) (cond t (Some p) (find (λ q. same key q.key) ps)))
    [ true ↦ refl | false ↦ value_found ps key ]

module _ (key value : List ℕ) where
  -- what is found has the key
  has_the_key : (ps : List Pair) (old : Pair) → find (λ p. same key p.key) ps ≡ Some old → same key old.key ≡ true
  has_the_key [] old h = cc
  has_the_key (p ∷ ps) old h = by (same key p.key) refl h (has_the_key ps old)
    where
      by : (t : Bool) → same key p.key ≡ t → cond t (Some p) (find (λ q. same key q.key) ps) ≡ Some old
          → (find (λ q. same key q.key) ps ≡ Some old → same key old.key ≡ true) → same key old.key ≡ true
      by true e g rest = let x : p ≡ old = cc in ap (λ (q : Pair). same key q.key) (sym x) ∙ e
      by false e g rest = rest g

  swapped : (test : Pair → Bool) → ((p : Pair) → test p ≡ same key p.key) → (new : Pair) (ps : List Pair) (old : Pair)
      → find (λ p. same key p.key) ps ≡ Some old → new ≡ record { key = old.key; value = value }
      → swap_key test ps new ≡ put_value ps key value
  swapped test agrees new [] old h g = cc
  swapped test agrees new (p ∷ ps) old h g = rw (agrees p)
      (by (same key p.key) h (λ f. swapped test agrees new ps old f g))
    where
      by : (t : Bool) → cond t (Some p) (find (λ q. same key q.key) ps) ≡ Some old
          → (find (λ q. same key q.key) ps ≡ Some old → swap_key test ps new ≡ put_value ps key value)
          → cond t (new ∷ ps) (p ∷ swap_key test ps new) ≡ cond t (record { key = p.key; value = value } ∷ ps)
          (p ∷ put_value ps key value)
      by true f rest = let x : p ≡ old = cc in ap (λ q. q ∷ ps)
          (g ∙ (λ i. record { key = (sym x i).key; value = value }))
      by false f rest = ap (λ qs. p ∷ qs) (rest f)

  -- a pair with the spelling that was found takes its place
  pub put_there : (ps : List Pair) (old new : Pair) → find (λ p. same key p.key) ps ≡ Some old
      → list_any (λ p. same key p.key) ps ≡ true → new ≡ record { key = old.key; value = value }
      → replace_key same_key ps new ≡ put_value ps key value
  put_there ps old new h there g =
      let agrees : (p : Pair) → same_key new p ≡ same key p.key = λ p. ap (λ (n : Pair). same n.key p.key) g
      ∙ sym (same_as key old.key p.key (has_the_key ps old h)) in
      rw (any_same (same_key new) (λ p. same key p.key) ps agrees ∙ there)
      (swapped (same_key new) agrees new ps old h g)

  -- a pair of a new key goes last
  pub put_new : (ps : List Pair) (new : Pair) → list_any (λ p. same key p.key) ps ≡ false
      → new ≡ record { key = key; value = value } → replace_key same_key ps new ≡ put_value ps key value
  put_new ps new none g =
      let absent : list_any (same_key new) ps ≡ false = ap (λ (n : Pair). list_any (same_key n) ps) g ∙ none in
      rw absent (ap (λ (n : Pair). ps ++ n ∷ []) g
      ∙ sym (change_or_add-new (λ p. same key p.key) (λ p. record { key = p.key; value = value })
      (record { key = key; value = value }) ps none))
