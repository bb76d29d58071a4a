-- What a section `[xxxxValue]` has at the key of a sub.
use Rattle.std.proofs.Common.{◌≡◌, ◌==◌, ℕ, zero, suc, ◌+◌, ◌^◌, ◌<◌, ◌≤◌, Bool, true, false, cond, not, ◌&&◌, ◌||◌}
use Rattle.std.proofs.Common.{List, [], ◌∷◌, ◌++◌, length, filter, filter_map, option_to_list, codes, decimal, Option}
use Rattle.std.proofs.Common.{None, Some, option_map, option_and_then, ℤ, pos, negsuc, nat_lt, nat_le, refl, sym, ap}
use Rattle.std.proofs.Common.{subst, ◌∙◌, arith}
use Rattle.std.proofs.lemmas.Bool.{false≢true}
use Rattle.std.proofs.lemmas.Bool.Decides.{nat_tests}
use Rattle.std.proofs.lemmas.Fmt.{decimal_injective, decimal_is_IsNumeral}
use Rattle.std.proofs.lemmas.List.{length-map}
use Rattle.std.proofs.lemmas.List.Folds.{list_all-map}
use Rattle.std.specs.Char.{digit_value, is_digit, to_ascii_lowercase}
use Rattle.std.specs.List.{list_all, list_any}
use Rattle.std.specs.Option.{option_map_or, option_or, unwrap_or}
use Rattle.std.specs.Str.Parse.{AllDigits}
use Rattle.ini_text.proofs.NameLemmas.{same_as, same_folded, same_sym}
use Rattle.ini_text.specs.Change.{put_value}
use Rattle.ini_text.specs.Content.{Pair, Section, lower_case, same, value_at}
use Rattle.co_values.specs.declared.data_type.DataType.{DataType}
use Rattle.co_values.specs.Values.{text_of_value}
use Rattle.eds_device.specs.Described.{kind_at}
use Rattle.eds_device.specs.Places.{first_subs}
use Rattle.eds_device.specs.Sections.{compact_count, in_subs, is_compact_type, number_at, object_type}
use Rattle.eds_device.specs.Origins.{object_section, origin_of}
use Rattle.eds_device.specs.Sheets.{Sheet}
use Rattle.eds_dcf.specs.Compact.{compact_object, is_compact, is_decimal, value_pair, values_pairs, values_pairs_at}
use Rattle.eds_dcf.specs.Compact.{values_set, with_count}
use Rattle.eds_dcf.specs.Entries.{says_modelled}
use Rattle.eds_dcf.proofs.LawLemmas.{or_none, value_append}
use Rattle.eds_dcf.proofs.TextLemmas.{filter_map-push}

-- ---- digits

lower_digit : (c : ℕ) → is_digit (to_ascii_lowercase c) 10 ≡ is_digit c 10
lower_digit c = grind (arith, nat_tests)

low_digit : (c : ℕ) → digit_value c < 10 → to_ascii_lowercase c ≡ c
low_digit c h = grind (arith, nat_tests)

below_test : (a b : ℕ) → a < b → nat_lt a b ≡ true
below_test a b h = grind (arith, nat_tests)

decimal_folded : (a : List ℕ) → is_decimal (lower_case a) ≡ is_decimal a
decimal_folded a =
    ap (λ n. not (n == 0) && list_all (λ c. is_digit c 10) (lower_case a)) (length-map a to_ascii_lowercase)
    ∙ ap (λ t. not (length a == 0) && t) (list_all-map (λ c. is_digit c 10) to_ascii_lowercase a
    ∙ (let q : (λ (c : ℕ). is_digit (to_ascii_lowercase c) 10) ≡ (λ (c : ℕ). is_digit c 10) = λ i c. lower_digit c i
    in ap (λ (p : ℕ → Bool). list_all p a) q))

-- keys that are equal without case are decimal together
pub decimal_same : (a b : List ℕ) → same a b ≡ true → is_decimal a ≡ is_decimal b
decimal_same a b h = sym (decimal_folded a) ∙ ap is_decimal (same_folded a b h) ∙ decimal_folded b

all_digits : (ds : List ℕ) → AllDigits 10 ds → list_all (λ c. is_digit c 10) ds ≡ true
all_digits [] h = refl
all_digits (c ∷ cs) h = rw (below_test (digit_value c) 10 h.0) (all_digits cs h.1)

folded_digits : (ds : List ℕ) → AllDigits 10 ds → lower_case ds ≡ ds
folded_digits [] h = refl
folded_digits (c ∷ cs) h = λ i. low_digit c h.0 i ∷ folded_digits cs h.1 i

some_digit : (n : ℕ) → 0 < n → not (n == 0) ≡ true
some_digit n h = grind (arith, nat_tests)

decimal_is : (n : ℕ) → n < 2 ^ 64 → is_decimal (decimal n) ≡ true
decimal_is n h =
    let numeral = decimal_is_IsNumeral n h in
    ap (λ t. t && list_all (λ c. is_digit c 10) (decimal n)) (some_digit (length (decimal n)) numeral.0.0)
    ∙ all_digits (decimal n) numeral.0.1

pub same_decimal : (j k : ℕ) → j < 2 ^ 64 → k < 2 ^ 64 → same (decimal j) (decimal k) ≡ true → j ≡ k
same_decimal j k hj hk h =
    decimal_injective j k hj hk (sym (folded_digits (decimal j) (decimal_is_IsNumeral j hj).0.1)
    ∙ same_folded (decimal j) (decimal k) h ∙ folded_digits (decimal k) (decimal_is_IsNumeral k hk).0.1)

pub untrue : (t : Bool) → (t ≡ true → ⊥) → t ≡ false
untrue true denied = absurd (denied refl)
untrue false denied = refl

-- ---- pairs that stay and go

module _ (key : List ℕ) where
  kept_others : is_decimal key ≡ false → (ps : List Pair)
      → value_at (filter (λ p. not (is_decimal p.key)) ps) key ≡ value_at ps key
  kept_others is [] = refl
  kept_others is (p ∷ ps) = by (is_decimal p.key) (same key p.key) refl refl (kept_others is ps)
    where
      by : (t u : Bool) → is_decimal p.key ≡ t → same key p.key ≡ u
          → value_at (filter (λ p. not (is_decimal p.key)) ps) key ≡ value_at ps key
          → value_at (cond (not t) (p ∷ filter (λ p. not (is_decimal p.key)) ps)
          (filter (λ p. not (is_decimal p.key)) ps)) key ≡ cond u (Some p.value) (value_at ps key)
      by true true e f ih = absurd (false≢true (sym is ∙ decimal_same key p.key f ∙ e))
      by true false e f ih = ih
      by false true e f ih = rw f refl
      by false false e f ih = rw f ih

-- another key has what it had
put_aside : (ps : List Pair) (key value k : List ℕ) → same key k ≡ false
    → value_at (put_value ps key value) k ≡ value_at ps k
put_aside [] key value k other = ap (λ t. cond t (Some value) None) (same_sym k key ∙ other)
put_aside (p ∷ ps) key value k other = by (same key p.key) (same k p.key) refl refl (put_aside ps key value k other)
  where
    by : (t u : Bool) → same key p.key ≡ t → same k p.key ≡ u → value_at (put_value ps key value) k ≡ value_at ps k
        → value_at (cond t (record { key = p.key; value = value } ∷ ps) (p ∷ put_value ps key value)) k
        ≡ cond u (Some p.value) (value_at ps k)
    by true true e f ih = absurd (false≢true (sym other ∙ same_as key p.key k e ∙ same_sym p.key k ∙ f))
    by true false e f ih = rw f refl
    by false true e f ih = rw f refl
    by false false e f ih = rw f ih

pub count_is_no_number : (key : List ℕ) → is_decimal key ≡ true → same (codes "NrOfEntries") key ≡ false
count_is_no_number key is = untrue (same (codes "NrOfEntries") key)
    (λ h. false≢true (decimal_same (codes "NrOfEntries") key h ∙ is))

-- ---- the set values

module _ (h : ℕ × ℕ → Option Pair) (keyed : (place : ℕ × ℕ) (p : Pair) → h place ≡ Some p → p.key ≡ decimal place.1)
    (index : ℕ) where
  pushed : (n : ℕ) (key : List ℕ) → value_at (filter_map h (first_subs index (suc n))) key
      ≡ option_or (value_at (filter_map h (first_subs index n)) key) (value_at (option_to_list (h (index, n))) key)
  pushed n key = ap (λ ps. value_at ps key) (filter_map-push h (first_subs index n) (index, n))
      ∙ value_append (filter_map h (first_subs index n)) (option_to_list (h (index, n))) key

  none_elsewhere : (n : ℕ) (key : List ℕ) → is_decimal key ≡ false → n ≤ 2 ^ 64
      → value_at (filter_map h (first_subs index n)) key ≡ None
  none_elsewhere zero key is hn = refl
  none_elsewhere (suc n) key is hn =
      pushed n key
      ∙ ap (λ o. option_or o (value_at (option_to_list (h (index, n))) key)) (none_elsewhere n key is (omega arith))
      ∙ by (h (index, n)) refl (λ p e. untrue (same key p.key)
      (λ f. false≢true (sym is ∙ decimal_same key p.key f ∙ ap is_decimal (keyed (index, n) p e)
      ∙ decimal_is n (omega arith))))
    where
      by : (o : Option Pair) → h (index, n) ≡ o → ((p : Pair) → h (index, n) ≡ Some p → same key p.key ≡ false)
          → value_at (option_to_list o) key ≡ None
      by None e other = refl
      by (Some p) e other = rw (other p e) refl

keyed_value : (values : Option (List ℕ)) (t : Bool) (key : List ℕ) (kind : DataType) (p : Pair)
    → cond t (option_map (λ bytes. record { key = key; value = text_of_value kind bytes }) values) None ≡ Some p
    → p.key ≡ key
keyed_value None true key kind p e = absurd (cc)
keyed_value (Some bytes) true key kind p e = let is : record { key = key; value = text_of_value kind bytes } ≡ p = cc
    in ap (λ (q : Pair). q.key) (sym is)
keyed_value values false key kind p e = absurd (cc)

pub value_pair_keyed : (sheet : Sheet) (values : ℕ × ℕ → Option (List ℕ)) (place : ℕ × ℕ) (p : Pair)
    → value_pair sheet values place ≡ Some p → p.key ≡ decimal place.1
unfolding value_pair
value_pair_keyed sheet values place p e =
    keyed_value (values place) (is_compact (origin_of sheet.sections place.0 place.1))
    (decimal place.1) (kind_at sheet place) p e

value_of_pair : (values : Option (List ℕ)) (key : List ℕ) (kind : DataType)
    → option_map (λ (p : Pair). p.value)
    (option_map (λ bytes. record { key = key; value = text_of_value kind bytes }) values)
    ≡ option_map (text_of_value kind) values
value_of_pair None key kind = refl
value_of_pair (Some bytes) key kind = refl

pub value_pair_value : (sheet : Sheet) (values : ℕ × ℕ → Option (List ℕ)) (place : ℕ × ℕ)
    → is_compact (origin_of sheet.sections place.0 place.1) ≡ true
    → option_map (λ (p : Pair). p.value) (value_pair sheet values place)
    ≡ option_map (text_of_value (kind_at sheet place))
    (values place)
unfolding value_pair
value_pair_value sheet values place is = rw is (value_of_pair (values place) (decimal place.1) (kind_at sheet place))

-- ---- the section

module _ (pairs set : List Pair) (key : List ℕ) where
  changed_others : is_decimal key ≡ false → same (codes "NrOfEntries") key ≡ false → value_at set key ≡ None
      → value_at (with_count (filter (λ p. not (is_decimal p.key)) pairs ++ set)) key ≡ value_at pairs key
  changed_others is other unset =
      put_aside (filter (λ p. not (is_decimal p.key)) pairs ++ set) (codes "NrOfEntries") _ key other
      ∙ value_append (filter (λ p. not (is_decimal p.key)) pairs) set key
      ∙ ap (option_or (value_at (filter (λ p. not (is_decimal p.key)) pairs) key)) unset
      ∙ or_none (value_at (filter (λ p. not (is_decimal p.key)) pairs) key)
      ∙ kept_others key is pairs

  other_value : is_decimal key ≡ false → same (codes "NrOfEntries") key ≡ false → value_at set key ≡ None
      → value_at (values_pairs true pairs set) key ≡ value_at pairs key
  unfolding values_pairs
  other_value is other unset = by ((true && list_any (λ p. is_decimal p.key) pairs) || not (length set == 0))
    where
      by : (t : Bool) → value_at (cond t (with_count (filter (λ p. not (is_decimal p.key)) pairs ++ set)) pairs) key
          ≡ value_at pairs key
      by true = changed_others is other unset
      by false = refl

highest_bound : (z : ℤ) (n : ℕ) → in_subs z ≡ Some n → n ≤ 254
highest_bound (pos m) n e = by (nat_le m 254) refl (nat_lt 0 m) e
  where
    by : (t : Bool) → nat_le m 254 ≡ t → (u : Bool) → cond (u && t) (Some m) None ≡ Some n → n ≤ 254
    by true h true e = let le : m ≤ 254 = grind (arith, nat_tests) in let is : m ≡ n = cc
        in subst (λ (k : ℕ). k ≤ 254) is le
    by true h false e = absurd (cc)
    by false h true e = absurd (cc)
    by false h false e = absurd (cc)
highest_bound (negsuc m) n e = absurd (cc)

count_bound : (s : Section) (n : ℕ) → compact_count s ≡ Some n → n ≤ 254
unfolding compact_count
count_bound s n e = by (is_compact_type (object_type s)) (number_at s (codes "CompactSubObj")) e
  where
    by : (t : Bool) (o : Option ℤ) → cond t (option_and_then in_subs o) None ≡ Some n → n ≤ 254
    by true None e = absurd (cc)
    by true (Some z) e = highest_bound z n e
    by false o e = absurd (cc)

pub object_bound : (sheet : Sheet) (index : ℕ) (object : Section) (highest : ℕ)
    → compact_object sheet index ≡ Some (object, highest) → highest ≤ 254
unfolding compact_object
object_bound sheet index object highest e = by (object_section sheet.sections index) e
  where
    one : (s : Section) (o : Option ℕ) → compact_count s ≡ o
        → option_map {T = ℕ} {U = Section × ℕ} (λ n. (s, n)) o ≡ Some (object, highest) → highest ≤ 254
    one s None h e = absurd (cc)
    one s (Some n) h e =
        let given : Section × ℕ = (s, n) in
        let is : given ≡ (object, highest) = ap (λ (o : Option (Section × ℕ)). unwrap_or o given) e in
        subst (λ (k : ℕ). k ≤ 254) (ap (λ (p : Section × ℕ). p.1) is) (count_bound s n h)

    by : (o : Option Section)
        → option_and_then (λ s. option_map {T = ℕ} {U = Section × ℕ} (λ n. (s, n)) (compact_count s)) o
        ≡ Some (object, highest) → highest ≤ 254
    by None e = absurd (cc)
    by (Some s) e = one s (compact_count s) refl e

-- every key that is no number, but NrOfEntries, has what it had
pub others_there : (sheet : Sheet) (values : ℕ × ℕ → Option (List ℕ)) (index : ℕ) (object : Section) (highest : ℕ)
    (pairs : List Pair) (key : List ℕ) → compact_object sheet index ≡ Some (object, highest)
    → says_modelled sheet object ≡ true → is_decimal key ≡ false → same (codes "NrOfEntries") key ≡ false
    → value_at (values_pairs_at sheet values index pairs) key ≡ value_at pairs key
unfolding values_pairs_at values_set
others_there sheet values index object highest pairs key is modelled plain other =
    let bound : highest ≤ 254 = object_bound sheet index object highest is in
    ap (λ (o : Option (Section × ℕ)). value_at
    (option_map_or (λ c. values_pairs (says_modelled sheet c.0) pairs (filter_map (value_pair sheet values)
    (first_subs index (c.1 + 1)))) o pairs) key) is
    ∙ ap (λ t. value_at (values_pairs t pairs
    (filter_map (value_pair sheet values) (first_subs index (highest + 1)))) key)
    modelled
    ∙ other_value pairs (filter_map (value_pair sheet values) (first_subs index (highest + 1))) key plain other
    (none_elsewhere (value_pair sheet values) (value_pair_keyed sheet values) index (highest + 1) key plain
    (omega arith))
