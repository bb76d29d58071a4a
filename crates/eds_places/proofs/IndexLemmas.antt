-- Tables of the positions of first sections.
use Rattle.std.proofs.Common.{◌≡◌, ℕ, ◌+◌, ◌<◌, Bool, true, false, List, [], ◌∷◌, ◌++◌, length, take, get_or, Option}
use Rattle.std.proofs.Common.{None, Some, refl, sym, ap, ◌∙◌}
use Rattle.std.specs.Prelude.{if◌then◌else◌, option_map, option_and_then}
use Rattle.std.specs.declared.cmp.Ordering.{Ordering}
use Rattle.std.specs.BTreeMap.{is_at}
use Rattle.std.specs.Map.{lookup}
use Rattle.std.specs.List.{find, slice_get}
use Rattle.std.specs.Option.{option_or}
use Rattle.std.proofs.lemmas.List.{take_more}
use Rattle.std.proofs.lemmas.List.Folds.{find-append}
use Rattle.std.proofs.lemmas.Option.{slice_get-get_or}
use Rattle.eds_places.specs.Index.{FindsFirsts}

map_or : {X Y : Type 0} (f : X → Y) (a b : Option X)
    → option_map f (option_or a b) ≡ option_or (option_map f a) (option_map f b)
map_or f None b = refl
map_or f (Some x) b = refl

one : {X : Type 0} (test : X → Bool) (s : X) (all : List X) (i : ℕ) → slice_get all i ≡ Some s
    → let at : Option ℕ = if test s then Some i else None
    in option_map (slice_get all) at ≡ option_map Some (find test (s ∷ []))
one {X} test s all i h = by (test s)
  where
    by : (t : Bool) → let at : Option ℕ = if t then Some i else None in let none : Option X = None
        in option_map (slice_get all) at ≡ option_map Some (if t then Some s else none)
    by true = ap Some h
    by false = refl

module _ {K X : Type 0} (cmp : K → K → Ordering) (test : K → X → Bool) where
  pub no_sections : (entries : List (K × ℕ)) (all : List X) → entries ≡ [] → FindsFirsts cmp test entries all []
  unfolding FindsFirsts
  no_sections entries all h = λ key. rw h refl

  -- one more section is seen
  pub one_more : (old new : List (K × ℕ)) (all : List X) (i : ℕ) (s : X) → i < length all → s ≡ get_or all i s
      → ((key : K) → lookup (is_at (cmp key)) new ≡ option_or (lookup (is_at (cmp key)) old)
      (if test key s then Some i else None))
      → FindsFirsts cmp test old all (take i all) → FindsFirsts cmp test new all (take (i + 1) all)
  unfolding FindsFirsts
  one_more old new all i s lt is h so_far = λ key.
      let more : take (i + 1) all ≡ take i all ++ s ∷ [] = take_more all i s lt
      ∙ ap (λ x. take i all ++ x ∷ []) (sym is) in
      let there : slice_get all i ≡ Some s = slice_get-get_or all i s lt ∙ ap Some (sym is) in
      ap (option_map (slice_get all)) (h key)
      ∙ map_or (slice_get all) (lookup (is_at (cmp key)) old) (if test key s then Some i else None)
      ∙ ap (λ o. option_or o (option_map (slice_get all) (if test key s then Some i else None))) (so_far key)
      ∙ ap (option_or (option_map Some (find (test key) (take i all)))) (one (test key) s all i there)
      ∙ sym (map_or Some (find (test key) (take i all)) (find (test key) (s ∷ [])))
      ∙ ap (option_map Some) (sym (find-append (test key) (take i all) (s ∷ [])) ∙ ap (find (test key)) (sym more))

  -- the section at the position that a table has is the first one
  pub finds : (entries : List (K × ℕ)) (all : List X) → FindsFirsts cmp test entries all all → (key : K)
      → option_and_then (slice_get all) (lookup (is_at (cmp key)) entries) ≡ find (test key) all
  unfolding FindsFirsts
  finds entries all h key = by (lookup (is_at (cmp key)) entries) (find (test key) all) (h key)
    where
      by : (o : Option ℕ) (p : Option X) → option_map (slice_get all) o ≡ option_map Some p
          → option_and_then (slice_get all) o ≡ p
      by None None e = refl
      by None (Some s) e = cc
      by (Some i) None e = cc
      by (Some i) (Some s) e = cc
