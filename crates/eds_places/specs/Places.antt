-- The entries that the sections of an EDS give (CiA 306), each once, by index and sub-index.
use Rattle.std.specs.Prelude.{ℕ, ◌+◌, zero, suc, if◌then◌else◌, List, [], ◌∷◌, ◌++◌}
use Rattle.std.specs.BTreeSet.{insert_key}
use Rattle.std.specs.List.{flat_map}
use Rattle.std.specs.Option.{option_map_or}
use Rattle.ini_text.specs.Content.{Section}
use Rattle.co_dict.specs.Places.{place_cmp}
use Rattle.eds_entries.specs.Names.{index_named, place_named}
use Rattle.eds_entries.specs.Sections.{is_plain, compact_count}

-- the first subs of an object, as many as n
abbrev pub first_subs : ℕ → ℕ → List (ℕ × ℕ)
first_subs index zero = []
first_subs index (suc n) = first_subs index n ++ (index, n) ∷ []

-- an object's own section gives sub 0, that of a compact object subs 0 to its highest, any other none
abbrev pub object_places : Section → ℕ → List (ℕ × ℕ)
object_places section index =
    if is_plain section then first_subs index 1
    else option_map_or (λ n. first_subs index (n + 1)) (compact_count section) []

-- the entries that a section gives, wherever else they are given too
unfoldable pub places_given : Section → List (ℕ × ℕ)
places_given section = option_map_or (λ p. p ∷ []) (place_named section.name)
    (option_map_or (object_places section) (index_named section.name) [])

-- each put in by index and sub, unless it is there
abbrev pub put_in_order : List (ℕ × ℕ) → List (ℕ × ℕ) → List (ℕ × ℕ)
put_in_order done [] = done
put_in_order done (p ∷ ps) = put_in_order (insert_key place_cmp done p) ps

-- the entries of a device; of a text they are, by a law, those that the rules of `Origins` give
unfoldable pub pairs_of : List Section → List (ℕ × ℕ)
pairs_of ss = put_in_order [] (flat_map places_given ss)
