-- A key's value is that of the pair at its position.
use Rattle.std.proofs.Common.{◌≡◌, ℕ, ◌+◌, ◌<◌, ◌≤◌, Bool, true, false, cond, List, [], ◌∷◌, length, Option, Some, None}
use Rattle.std.proofs.Common.{refl, sym, ap, ◌∙◌, ltb-false}
use Rattle.std.specs.Prelude.{option_map, option_and_then, nat_lt}
use Rattle.std.specs.List.{find, position, position_or_len, slice_get}
use Rattle.std.proofs.lemmas.List.Folds.{find_at}
use Rattle.std.proofs.lemmas.Option.{slice_get_past}
use Rattle.ini_text.specs.Content.{Pair, Section, same, value_at}
use Rattle.ini_text.proofs.PairLemmas.{value_found}
use Rattle.eds_entries.specs.Said.{pair_of, value_from}

found_there : {X : Type 0} (test : X → Bool) (xs : List X)
    → option_and_then (slice_get xs) (position test xs) ≡ find test xs
found_there {X} test xs = by (nat_lt (position_or_len test xs) (length xs)) refl ∙ sym (find_at test xs)
  where
    by : (t : Bool) → nat_lt (position_or_len test xs) (length xs) ≡ t
        → option_and_then (slice_get xs) (cond t (Some (position_or_len test xs)) None)
        ≡ slice_get xs (position_or_len test xs)
    by true e = refl
    by false e = sym (slice_get_past xs (position_or_len test xs) (ltb-false _ _ e))

-- a key's value is that of the pair at its position
pub value_is_from : (section : Section) (key : List ℕ)
    → value_from section (pair_of section key) ≡ value_at section.pairs key
unfolding pair_of
value_is_from section key = ap (option_map (λ (p : Pair). p.value)) (found_there (λ p. same key p.key) section.pairs)
    ∙ sym (value_found section.pairs key)
