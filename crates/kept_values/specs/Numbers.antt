-- Keys by the numbers of their values.
use Rattle.std.specs.Prelude.{◌≡◌, ℕ, List, [], filter, get_or, ◌==◌, if◌then◌else◌, nat_eq}
use Rattle.std.specs.List.{position, remove}
use Rattle.std.specs.Map.{keys_of}
use Rattle.std.specs.Option.{option_map_or}

-- the entries whose value has a number
abbrev pub of_number : {V : Type 0} → (V → ℕ) → ℕ → List (ℕ × V) → List (ℕ × V)
of_number number_of n = filter (λ e. number_of e.1 == n)

-- the keys that stand under a number
abbrev pub keys_under : ℕ → List (List ℕ) → List ℕ
keys_under n index = get_or index n []

-- UNDER EACH NUMBER STAND THE KEYS OF ITS VALUES, in their order
unfoldable pub IsIndexOf : {V : Type 0} → (V → ℕ) → List (ℕ × V) → List (List ℕ) → Type 0
IsIndexOf number_of entries index = (n : ℕ) → keys_under n index ≡ keys_of (of_number number_of n entries)

-- the keys under one number change so, and no others do
unfoldable pub Changes : ℕ → (List ℕ → List ℕ) → List (List ℕ) → List (List ℕ) → Type 0
Changes number change old new = (n : ℕ) → keys_under n new ≡ (if n == number then change (keys_under n old) else keys_under n old)

-- the same keys stand under each number
unfoldable pub HasSameKeys : List (List ℕ) → List (List ℕ) → Type 0
HasSameKeys old new = (n : ℕ) → keys_under n new ≡ keys_under n old

-- a key is taken out, if it is there
abbrev pub without_key : ℕ → List ℕ → List ℕ
without_key key keys = option_map_or (λ place. remove keys place) (position (nat_eq key) keys) keys
