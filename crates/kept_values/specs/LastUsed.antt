-- What a contract sees of the values that were last used.
use Rattle.std.specs.Prelude.{◌≡◌, ℕ, ◌+◌, ◌<◌, List, [], ◌∷◌, Contains, Some, nat_eq, refl, take}
use Rattle.std.specs.Map.{lookup}
use Rattle.lru.specs.LruCache.{promoted}
use Rattle.std.specs.Coded.{Coded, code_by, coded×, coded_list, coded_ℕ}

-- how many values it holds at most, the values under their keys, the last added or used first, how many keys were given,
-- the number whose turn it is in the round, and the entries that were used one after the other from that number on in the
-- round before, and aren't yet in this one
pub record LastUsed (V : Type 0) : Type 0 where
  pub capacity : ℕ
  pub entries : List (ℕ × V)
  pub given : ℕ
  pub turn : ℕ
  pub ahead : List (ℕ × V)

abbrev pub last_used_code : {V : Type 0} → Coded V → Coded (LastUsed V)
last_used_code {V} v = code_by (ℕ × (List (ℕ × V) × (ℕ × (ℕ × List (ℕ × V))))) (coded× coded_ℕ (coded× (coded_list (coded× coded_ℕ v)) (coded× coded_ℕ (coded× coded_ℕ (coded_list (coded× coded_ℕ v)))))) (λ s. (s.capacity, (s.entries, (s.given, (s.turn, s.ahead))))) (λ p. record { capacity = p.0; entries = p.1.0; given = p.1.1.0; turn = p.1.1.1.0; ahead = p.1.1.1.1 }) (λ _. refl)

-- the value under a key has a number
abbrev pub HasNumber : {V : Type 0} → (V → ℕ) → ℕ → ℕ → List (ℕ × V) → Type 0
HasNumber {V} number_of key number entries = (v : V) × ((lookup (nat_eq key) entries ≡ Some v) × (number_of v ≡ number))

-- each key is one of those given
abbrev pub AreGiven : {V : Type 0} → ℕ → List (ℕ × V) → Type 0
AreGiven {V} given entries = (e : ℕ × V) → Contains entries e → e.0 < given

-- ---- what becomes of them

-- a value is put first under a new key, and the last goes where there are too many; it was the turn of its number
abbrev pub put_first : {V : Type 0} → V → LastUsed V → LastUsed V
put_first value s = record {
  capacity = s.capacity;
  entries = take s.capacity ((s.given, value) ∷ s.entries);
  given = s.given + 1;
  turn = s.turn + 1;
  ahead = [];
}

-- the value under a key is used and goes first; it was the turn of its number
abbrev pub use_first : {V : Type 0} → ℕ → LastUsed V → LastUsed V
use_first key s = record s { entries = promoted (nat_eq key) s.entries; turn = s.turn + 1 }
