-- What the write check says, in the subject's words.
use Rattle.std.proofs.Common.{◌≡◌, ℕ, ◌≤◌, ◌==◌, ℤ, ◌≤ℤ◌, int_lt, IfSome, ◌&&◌, Bool, true, false, not, List, length}
use Rattle.std.proofs.Common.{Option, Some, None, Result, Ok, Err, cond, refl, sym, ap, subst, ◌∙◌, arith}
use Rattle.std.specs.Prelude.{IsOk, MatchOption, is_ok, is_none, is_some, nat_lt}
use Rattle.std.specs.FinMap.{get, get-insert, insert}
use Rattle.std.specs.Option.{option_map_or}
use Rattle.std.specs.Ordering.{eq_by_cmp}
use Rattle.std.proofs.lemmas.Bool.Decides.{nat_tests}
use Rattle.std.proofs.lemmas.Int.{ints}
use Rattle.base.specs.Bytes.{AreBytes}
use Rattle.byteorder.specs.Endian.{little_number}
use Rattle.co_values.specs.declared.form.Form.{Form}
use Rattle.co_values.specs.declared.form.Form.TheVariants.{Flag, Signed, Unsigned, Decimal, Characters, HexPairs, Unmodelled}
use Rattle.co_values.specs.Types.{form, is_integer, is_modelled, len_of_form}
use Rattle.co_values.specs.Values.{IsLaidOut, longest_value, number_in}
use Rattle.co_values.proofs.Printed.{octets_most, real_width}
use Rattle.co_dict.specs.declared.abort.Abort.{Abort}
use Rattle.co_dict.specs.declared.entry.Entry.{Entry}
use Rattle.co_dict.specs.Accesses.{is_writable}
use Rattle.co_dict.specs.Checks.{access_check, access_lines, has_index, is_flag, is_above_limit, is_below_limit}
use Rattle.co_dict.specs.Checks.{is_entry_that, is_no_flag, length_check, first_refusal, value_lines}
use Rattle.co_dict.specs.Mappings.{mapping_bits, mapping_of}
use Rattle.co_dict.specs.PdoChecks.{cob_id_lines, count_lines, mapping_check, mapping_lines, new_count_lines}
use Rattle.cia301.specs.PdoObjects.{is_mapping_object, is_communication_object, is_of_pdos}
use Rattle.co_dict.specs.Places.{place_cmp}
use Rattle.co_dict.specs.Shapes.{Shaped}
use Rattle.co_dict.specs.Values.{HasLength, HoldEach, Values}
use Rattle.co_dict.specs.WriteCheck.{Suits, write_check}
use Rattle.co_dict.proofs.CheckLemmas.{fits_passed, no_more, none_holds, then_check, write_check_in_turn}
use Rattle.co_dict.proofs.IndexLemmas.{has_index_is}
use Rattle.co_dict.proofs.PlaceLemmas.{places_exact, places_total, tied}

-- ---- in turn

pub access_refuses_first : (shape : Shaped) (values : Values) (place : ℕ × ℕ) (bytes : List ℕ) (abort : Abort)
    → access_check shape place ≡ Err abort → write_check shape values place bytes ≡ Err abort
access_refuses_first shape values place bytes abort e = rw (write_check_in_turn, e) refl

pub length_refuses_next : (shape : Shaped) (values : Values) (place : ℕ × ℕ) (bytes : List ℕ) (abort : Abort)
    → access_check shape place ≡ Ok tt → length_check shape place (length bytes) ≡ Err abort
    → write_check shape values place bytes ≡ Err abort
length_refuses_next shape values place bytes abort granted e = rw (write_check_in_turn, granted, e) refl

pub ruleset in_turn = (access_refuses_first, length_refuses_next)

-- ---- what is taken

each_ok : (a b c d : Result (Unit {0}) Abort) → then_check a (then_check b (then_check c d)) ≡ Ok tt
    → IsOk a × IsOk b × IsOk c
each_ok (Ok x) (Ok y) (Ok z) d e = (refl, refl, refl)
each_ok (Ok x) (Ok y) (Err abort) d e = cc
each_ok (Ok x) (Err abort) c d e = cc
each_ok (Err abort) b c d e = cc

found : {X : Type 0} (o : Option X) → is_none o ≡ false → (x : X) × (o ≡ Some x)
found None e = cc
found (Some x) e = (x, refl)

unnot : (b : Bool) → not b ≡ false → b ≡ true
unnot true e = refl
unnot false e = cc

-- no limit is broken where the test of it doesn't hold, and the other way
at_least : (a b : ℤ) → int_lt a b ≡ false → b ≤ℤ a
at_least a b test = grind (arith, ints)

not_less : (a b : ℤ) → b ≤ℤ a → int_lt a b ≡ false
not_less a b le = grind (arith, ints)

above_low : (integer : Bool) (o : Option ℤ) (low : Option ℤ)
    → integer && option_map_or (λ number. option_map_or (λ l. int_lt number l) low false) o false ≡ false
    → (number : ℤ) → integer ≡ true → o ≡ Some number → IfSome low (λ l. l ≤ℤ number)
above_low integer o None test number of_integer is = tt
above_low true None (Some low) test number of_integer is = cc
above_low true (Some read) (Some low) test number of_integer is = let same : read ≡ number = cc
    in subst (λ n. low ≤ℤ n) same (at_least read low test)
above_low false o (Some low) test number of_integer is = cc

below_high : (integer : Bool) (o : Option ℤ) (high : Option ℤ)
    → integer && option_map_or (λ number. option_map_or (λ h. int_lt h number) high false) o false ≡ false
    → (number : ℤ) → integer ≡ true → o ≡ Some number → IfSome high (λ h. number ≤ℤ h)
below_high integer o None test number of_integer is = tt
below_high true None (Some high) test number of_integer is = cc
below_high true (Some read) (Some high) test number of_integer is = let same : read ≡ number = cc
    in subst (λ n. n ≤ℤ high) same (at_least high read test)
below_high false o (Some high) test number of_integer is = cc

module _ (shape : Shaped) (values : Values) (place : ℕ × ℕ) (bytes : List ℕ) where
  abbrev WriteOk : Type 0
  WriteOk = write_check shape values place bytes ≡ Ok tt

  -- what is taken suits its entry
  pub taken_suits : AreBytes bytes → WriteOk → (entry : Entry) × Suits shape place bytes entry
  unfolding access_check length_check
  taken_suits are_bytes e =
      let passed : IsOk (access_check shape place) × IsOk (length_check shape place (length bytes))
      × IsOk (first_refusal (value_lines shape place bytes)) =
      each_ok _ _ _ (then_check (first_refusal (cob_id_lines shape values place bytes))
      (then_check (first_refusal (mapping_lines shape values place))
      (first_refusal (new_count_lines shape values place bytes))))
      (sym (write_check_in_turn shape values place bytes) ∙ e) in
      let lines = none_holds (access_lines shape place) passed.0 in
      let there = found (get shape.entries place) lines.1.0 in
      let entry : Entry = there.0 in
      let at : (test : Entry → Bool) → is_entry_that test shape place ≡ false
      → test entry ≡ false = λ test none. sym (ap (λ o. option_map_or test o false) there.1) ∙ none in
      let limits = none_holds (value_lines shape place bytes) passed.2 in (
        entry,
        record {
          there = there.1;
          modelled = unnot _ (at (λ e. not (is_modelled e.kind)) lines.1.1.0);
          writable = unnot _ (at (λ e. not (is_writable e.access)) lines.1.1.1.0);
          fits = fits_passed shape place entry bytes (sym there.1) passed.0 passed.1 (at (is_no_flag bytes) limits.0)
              are_bytes;
          above_low = above_low (is_integer entry.kind)
              (number_in entry.kind bytes) entry.low (at (is_below_limit bytes) limits.1.0);
          below_high = below_high (is_integer entry.kind)
              (number_in entry.kind bytes) entry.high (at (is_above_limit bytes) limits.1.1.0);
        },
      )

-- ---- outside the objects of PDOs

no_communication : (index : ℕ) → is_of_pdos index ≡ false → is_communication_object index ≡ false
no_communication index e = grind (arith, nat_tests)

no_mapping : (index : ℕ) → is_of_pdos index ≡ false → is_mapping_object index ≡ false
no_mapping index e = grind (arith, nat_tests)

last_passed : (r : Result (Unit {0}) Abort) → then_check r (Ok tt) ≡ r
last_passed (Ok nothing) = refl
last_passed (Err abort) = refl

module _ (shape : Shaped) (values : Values) (place : ℕ × ℕ) (bytes : List ℕ)
    (outside : is_of_pdos place.0 ≡ false) where
  abbrev Plain : Result (Unit {0}) Abort
  Plain = then_check (access_check shape place)
      (then_check (length_check shape place (length bytes)) (first_refusal (value_lines shape place bytes)))

  -- the lines of PDO objects don't apply
  plain_check : write_check shape values place bytes ≡ Plain
  plain_check =
      let communication = no_communication place.0 outside in
      let mapping = no_mapping place.0 outside in
      let cob_id : first_refusal (cob_id_lines shape values place bytes) ≡ Ok tt = rw communication refl in
      let open_mapping : first_refusal (mapping_lines shape values place) ≡ Ok tt = rw mapping refl in
      let count : first_refusal (new_count_lines shape values place bytes) ≡ Ok tt = rw mapping refl in
      rw (write_check_in_turn, cob_id, open_mapping, count, last_passed) refl

pub checked_alike : (shape : Shaped) (place : ℕ × ℕ) (bytes : List ℕ) → is_of_pdos place.0 ≡ false
    → (values others : Values)
    → write_check shape values place bytes ≡ write_check shape others place bytes
checked_alike shape place bytes outside values others = plain_check shape values place bytes outside
    ∙ sym (plain_check shape others place bytes outside)

-- ---- what suits

same_test : (m n : ℕ) → m ≡ n → not (m == n) ≡ false
same_test m n e = grind (arith, nat_tests)

short_test : (m n : ℕ) → n ≤ m → nat_lt m n ≡ false
short_test m n le = grind (arith, nat_tests)

length_suits : (f : Form) (bytes : List ℕ) → IsLaidOut f bytes
    → option_map_or (λ n. not (length bytes == n)) (len_of_form f) false ≡ false
length_suits Flag bytes fits = same_test _ _ fits.0
length_suits (Signed width) bytes fits = same_test _ _ fits
length_suits (Unsigned width) bytes fits = same_test _ _ fits
length_suits (Decimal real) bytes fits = same_test _ _ fits
length_suits Characters bytes fits = refl
length_suits HexPairs bytes fits = refl
length_suits Unmodelled bytes fits = refl

length_few : (f : Form) (bytes : List ℕ) → IsLaidOut f bytes → nat_lt longest_value (length bytes) ≡ false
length_few Flag bytes fits = let one = fits.0 in short_test _ _ (omega arith)
length_few (Signed width) bytes fits = let few = octets_most width in short_test _ _ (omega arith)
length_few (Unsigned width) bytes fits = let few = octets_most width in short_test _ _ (omega arith)
length_few (Decimal real) bytes fits =
    let same = real_width real in
    let few = octets_most same.0 in
    short_test _ _ (omega (arith, same.1))
length_few Characters bytes fits = short_test _ _ fits
length_few HexPairs bytes fits = short_test _ _ fits
length_few Unmodelled bytes fits = absurd fits

flag_suits : (f : Form) (bytes : List ℕ) → IsLaidOut f bytes → is_flag f && nat_lt 1 (little_number 1 bytes) ≡ false
flag_suits Flag bytes fits = let low = fits.1 in short_test _ _ (omega arith)
flag_suits (Signed width) bytes fits = refl
flag_suits (Unsigned width) bytes fits = refl
flag_suits (Decimal real) bytes fits = refl
flag_suits Characters bytes fits = refl
flag_suits HexPairs bytes fits = refl
flag_suits Unmodelled bytes fits = refl

low_suits : (integer : Bool) (o : Option ℤ) (low : Option ℤ)
    → ((number : ℤ) → integer ≡ true → o ≡ Some number → IfSome low (λ l. l ≤ℤ number))
    → integer && option_map_or (λ number. option_map_or (λ l. int_lt number l) low false) o false ≡ false
low_suits false o low h = refl
low_suits true None low h = refl
low_suits true (Some number) None h = refl
low_suits true (Some number) (Some low) h = not_less number low (h number refl refl)

high_suits : (integer : Bool) (o : Option ℤ) (high : Option ℤ)
    → ((number : ℤ) → integer ≡ true → o ≡ Some number → IfSome high (λ h. number ≤ℤ h))
    → integer && option_map_or (λ number. option_map_or (λ h. int_lt h number) high false) o false ≡ false
high_suits false o high h = refl
high_suits true None high h = refl
high_suits true (Some number) None h = refl
high_suits true (Some number) (Some high) h = not_less high number (h number refl refl)

module _ (shape : Shaped) (values : Values) (place : ℕ × ℕ) (bytes : List ℕ) (entry : Entry)
    (suits : Suits shape place bytes entry) where
  access_suits : access_check shape place ≡ Ok tt
  unfolding access_check
  access_suits =
      let index : has_index shape place.0 ≡ true =
      (has_index_is shape place.0).1 (place.1, ap (λ o. is_some o) suits.there) in
      rw (index, suits.there, suits.modelled, suits.writable) refl

  size_suits : length_check shape place (length bytes) ≡ Ok tt
  unfolding length_check
  size_suits = rw (
    suits.there,
    length_suits (form entry.kind) bytes suits.fits.1,
    length_few (form entry.kind) bytes suits.fits.1,
  ) refl

  value_suits : first_refusal (value_lines shape place bytes) ≡ Ok tt
  value_suits = rw (
    suits.there,
    flag_suits (form entry.kind) bytes suits.fits.1,
    low_suits (is_integer entry.kind) (number_in entry.kind bytes) entry.low suits.above_low,
    high_suits (is_integer entry.kind) (number_in entry.kind bytes) entry.high suits.below_high,
  ) refl

  pub suits_taken : is_of_pdos place.0 ≡ false → write_check shape values place bytes ≡ Ok tt
  suits_taken outside = rw (plain_check, access_suits, size_suits, value_suits) refl

pub ruleset outside_pdos = (checked_alike, suits_taken)

-- ---- what mappings and dictionaries keep

pub mapping_fits : (shape : Shaped) (values : Values) (object count : ℕ)
    → mapping_check shape values object count ≡ Ok tt → mapping_bits (mapping_of values object count) ≤ 64
unfolding mapping_check
mapping_fits shape values object count e =
    no_more 64 _ (none_holds (count_lines shape values object count) (ap is_ok e)).1.1.0

has_length : (f : Form) (bytes : List ℕ) → IsLaidOut f bytes
    → MatchOption (len_of_form f) (length bytes ≤ longest_value) (λ n. length bytes ≡ n)
has_length Flag bytes fits = fits.0
has_length (Signed width) bytes fits = fits
has_length (Unsigned width) bytes fits = fits
has_length (Decimal real) bytes fits = fits
has_length Characters bytes fits = fits
has_length HexPairs bytes fits = fits
has_length Unmodelled bytes fits = absurd fits

module _ (shape : Shaped) (values : Values) (place : ℕ × ℕ) (bytes : List ℕ) (are_bytes : AreBytes bytes)
    (ok : write_check shape values place bytes ≡ Ok tt) where
  abbrev HasOne : ℕ × ℕ → Entry → Option (List ℕ) → Type 0
  HasOne q entry o = (found : List ℕ) × ((o ≡ Some found) × HasLength entry.kind found)

  -- what is taken has the length of its type
  taken_length : (q : ℕ × ℕ) (entry : Entry) → q ≡ place → get shape.entries q ≡ Some entry → HasLength entry.kind bytes
  taken_length q entry at there =
      let taken = taken_suits shape values place bytes are_bytes ok in
      let one : Some taken.0 ≡ Some entry = sym taken.1.there ∙ sym (ap (get shape.entries) at) ∙ there in
      let same : taken.0 ≡ entry = cc in
      subst (λ (e : Entry). HasLength e.kind bytes) same (has_length (form taken.0.kind) bytes taken.1.fits.1)

  pub each_held : HoldEach shape.entries values → HoldEach shape.entries (insert values place bytes)
  each_held held q entry there modelled =
      subst (HasOne q entry) (sym (get-insert places_total values place bytes q))
      (by (eq_by_cmp place_cmp q place) (λ same. places_exact q place (tied _ same)))
    where
      by : (b : Bool) → (b ≡ true → q ≡ place) → HasOne q entry (cond b (Some bytes) (get values q))
      by true same = (bytes, (refl, taken_length q entry (same refl) there))
      by false same = held q entry there modelled
