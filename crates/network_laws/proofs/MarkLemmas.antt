-- The marks of one entry of a node, write by write.
use Rattle.std.proofs.Common.{◌≡◌, ◌≢◌, ℕ, zero, suc, ◌<◌, Bool, true, false, List, [], ◌∷◌, ◌++◌, length, get_or}
use Rattle.std.proofs.Common.{refl, sym, ap, ◌∙◌, arith}
use Rattle.std.specs.Prelude.{Contains, if◌then◌else◌, ◌==◌, ◌&&◌}
use Rattle.std.specs.List.{AllByRecursion, flat_map}
use Rattle.std.proofs.lemmas.Bool.{false≢true}
use Rattle.std.proofs.lemmas.List.Elements.{All-head, All-tail}
use Rattle.network_laws.specs.Written.{AreOf, EntryValue, Event, NoneBySdo, Rpdo, Sdo, Writer, Written, written_by}
use Rattle.network_laws.specs.Marks.{MarkedEntries, after_writes, is_marking, is_write_of, marked_after}
use Rattle.network_laws.proofs.WaitingLemmas.{number_itself, number_other}

-- the entry is among those written
abbrev pub IsWritten : ℕ × ℕ → List Written → Type 0
IsWritten place writes = (w : Written) × (Contains writes w × (w.place ≡ place))

-- whether a pair is marked after writes, where it was or wasn't before
abbrev pub told : Bool → List Written → ℕ → ℕ × ℕ → Bool
told before [] node place = before
told before (w ∷ writes) node place = told (marked_after w node place before) writes node place

pub after_told : (marks : MarkedEntries) (writes : List Written) (node : ℕ) (place : ℕ × ℕ)
    → after_writes marks writes node place ≡ told (marks node place) writes node place
after_told marks [] node place = refl
after_told marks (w ∷ writes) node place = after_told (λ n p. marked_after w n p (marks n p)) writes node place

pub told-append : (before : Bool) (one other : List Written) (node : ℕ) (place : ℕ × ℕ)
    → told before (one ++ other) node place ≡ told (told before one node place) other node place
told-append before [] other node place = refl
told-append before (w ∷ one) other node place = told-append (marked_after w node place before) one other node place

module _ (node : ℕ) (place : ℕ × ℕ) where
  of_another : (w : Written) (before : Bool) → w.node ≢ node → marked_after w node place before ≡ before
  of_another w before apart = rw (number_other w.node node apart) refl

  elsewhere : (w : Written) (before : Bool) → w.place ≢ place → marked_after w node place before ≡ before
  elsewhere w before apart =
      by (w.node == node) (w.place.0 == place.0) (w.place.1 == place.1) refl refl
    where
      same : (a b : ℕ) → (a == b) ≡ true → a ≡ b
      same a b e = grind (arith, Rattle.std.proofs.lemmas.Bool.Decides.nat_tests)

      by : (a b c : Bool) → (w.place.0 == place.0) ≡ b → (w.place.1 == place.1) ≡ c
          → (if a && (b && c) then is_marking w.by else before) ≡ before
      by false b c e f = refl
      by true false c e f = refl
      by true true false e f = refl
      by true true true e f = absurd (apart (λ i. (same w.place.0 place.0 e i, same w.place.1 place.1 f i)))

  pub itself : (w : Written) (before : Bool) → w.node ≡ node → w.place ≡ place
      → marked_after w node place before ≡ is_marking w.by
  itself w before e f =
      rw (
        e,
        ap (λ (p : ℕ × ℕ). p.0) f,
        ap (λ (p : ℕ × ℕ). p.1) f,
        number_itself node,
        number_itself place.0,
        number_itself place.1,
      ) refl

  marking : (w : Writer) → w ≢ Sdo → is_marking w ≡ true
  marking Event e = refl
  marking Rpdo e = refl
  marking Sdo e = absurd (e refl)

  -- writes of another node leave it
  pub told_by_others : (k : ℕ) → k ≢ node → (writes : List Written) → AreOf k writes → (before : Bool)
      → told before writes node place ≡ before
  told_by_others k apart [] h before = refl
  told_by_others k apart (w ∷ writes) h before =
      told_by_others k apart writes (All-tail (λ (v : Written). v.node ≡ k) w writes h)
      (marked_after w node place before)
      ∙ of_another w before (λ e. apart (sym (All-head (λ (v : Written). v.node ≡ k) w writes h) ∙ e))

  -- none but a write by SDO takes a mark away
  pub stays_marked : (writes : List Written) → NoneBySdo writes → told true writes node place ≡ true
  stays_marked [] h = refl
  stays_marked (w ∷ writes) h =
      ap (λ (b : Bool). told b writes node place) (by (is_write_of w node place))
      ∙ stays_marked writes (All-tail (λ (v : Written). v.by ≢ Sdo) w writes h)
    where
      by : (b : Bool) → (if b then is_marking w.by else true) ≡ true
      by true = marking w.by (All-head (λ (v : Written). v.by ≢ Sdo) w writes h)
      by false = refl

  -- what was written and not by SDO is marked
  pub gets_marked : (writes : List Written) → NoneBySdo writes → AreOf node writes → (k : ℕ) (w : Written)
      → k < length writes → get_or writes k w ≡ w → w.place ≡ place → (before : Bool)
      → told before writes node place ≡ true
  gets_marked [] none own k w within is at before = absurd (omega (arith, within))
  gets_marked (v ∷ writes) none own zero w within is at before =
      ap (λ (b : Bool). told b writes node place)
      (itself v before (All-head (λ (x : Written). x.node ≡ node) v writes own)
      (ap (λ (x : Written). x.place) is ∙ at)
      ∙ marking v.by (All-head (λ (x : Written). x.by ≢ Sdo) v writes none))
      ∙ stays_marked writes (All-tail (λ (x : Written). x.by ≢ Sdo) v writes none)
  gets_marked (v ∷ writes) none own (suc k) w within is at before =
      gets_marked writes (All-tail (λ (x : Written). x.by ≢ Sdo) v writes none)
      (All-tail (λ (x : Written). x.node ≡ node) v writes own) k w (omega (arith, within)) is at
      (marked_after v node place before)

  pub written_is_marked : (writes : List Written) → NoneBySdo writes → AreOf node writes → IsWritten place writes
      → (before : Bool) → told before writes node place ≡ true
  written_is_marked writes none own h before =
      gets_marked writes none own h.1.0.0 h.0 h.1.0.1 h.1.0.2 h.1.1 before

-- a write by SDO leaves the marks of all other entries
pub stored_elsewhere : (node : ℕ) (stored : EntryValue) (place : ℕ × ℕ) → stored.place ≢ place → (before : Bool)
    → told before (written_by Sdo node (stored ∷ [])) node place ≡ before
stored_elsewhere node stored place apart before =
    elsewhere node place (record { node = node; place = stored.place; bytes = stored.bytes; by = Sdo }) before apart

-- ---- of a list of devices, the writes of one

module _ {X : Type 0} (writes : X → List Written) (number : X → ℕ)
    (own : (x : X) → AreOf (number x) (writes x)) (node : ℕ) (place : ℕ × ℕ) where
  none_of : (xs : List X) → AllByRecursion (λ x. number x ≢ node) xs → (before : Bool)
      → told before (flat_map writes xs) node place ≡ before
  none_of [] h before = refl
  none_of (x ∷ xs) h before =
      told-append before (writes x) (flat_map writes xs) node place
      ∙ none_of xs h.1 (told before (writes x) node place)
      ∙ told_by_others node place (number x) h.0 (writes x) (own x) before

  pub one_of_them : (xs : List X) (i : ℕ) (none : X) → i < length xs
      → ((k : ℕ) → k < length xs → number (get_or xs k none) ≡ node → k ≡ i) → (before : Bool)
      → told before (flat_map writes xs) node place ≡ told before (writes (get_or xs i none)) node place
  one_of_them [] i none within alone before = absurd (omega (arith, within))
  one_of_them (x ∷ xs) zero none within alone before =
      told-append before (writes x) (flat_map writes xs) node place
      ∙ none_of xs (others xs (λ k h e. absurd (no_suc k (alone (suc k) (omega (arith, h)) e))))
      (told before (writes x) node place)
    where
      no_suc : (k : ℕ) → suc k ≡ 0 → ⊥
      no_suc k e = omega (arith, e)

      others : (ys : List X) → ((k : ℕ) → k < length ys → number (get_or ys k none) ≢ node)
          → AllByRecursion (λ y. number y ≢ node) ys
      others [] h = tt
      others (y ∷ ys) h = (h 0 (omega arith), others ys (λ k l. h (suc k) (omega (arith, l))))
  one_of_them (x ∷ xs) (suc i) none within alone before =
      told-append before (writes x) (flat_map writes xs) node place
      ∙ one_of_them xs i none (omega (arith, within))
      (λ k h e. minus k i (alone (suc k) (omega (arith, h)) e)) (told before (writes x) node place)
      ∙ ap (λ (b : Bool). told b (writes (get_or xs i none)) node place)
      (told_by_others node place (number x) (λ e. no_zero i (alone 0 (omega arith) e)) (writes x) (own x) before)
    where
      minus : (k j : ℕ) → suc k ≡ suc j → k ≡ j
      minus k j e = omega (arith, e)

      no_zero : (j : ℕ) → 0 ≡ suc j → ⊥
      no_zero j e = omega (arith, e)
