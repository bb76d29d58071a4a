-- Values of entries: of their types, and not too long.
use Rattle.std.proofs.Common.{◌≡◌, ℕ, ◌≤◌, Bool, true, false, cond, ◌==◌, ◌&&◌, List, [], ◌∷◌, ◌++◌, length, reverse}
use Rattle.std.proofs.Common.{All, IfSome, Option, None, Some, is_some, option_copied, option_map, codes, decimal, refl}
use Rattle.std.proofs.Common.{sym, ap, subst, ◌∙◌, append-nil, arith}
use Rattle.std.specs.Prelude.{if◌then◌else◌}
use Rattle.std.proofs.lemmas.Bool.Decides.{nat_tests}
use Rattle.std.proofs.lemmas.List.{reverse-append}
use Rattle.std.proofs.lemmas.List.Elements.{All-head, All-tail, All-weaker}
use Rattle.std.proofs.lemmas.List.Folds.{find-append}
use Rattle.std.specs.Borrow.{Bor}
use Rattle.std.specs.List.{find, flat_map}
use Rattle.std.specs.Option.{option_or}
use Rattle.ini_text.specs.Content.{Pair, Section}
use Rattle.ini_text.specs.Change.{pair_text, section_text}
use Rattle.concise_dcf.specs.declared.write.Write.{Write}
use Rattle.co_values.specs.declared.data_type.DataType.{DataType}
use Rattle.co_values.specs.declared.form.Form.{Form}
use Rattle.co_values.specs.declared.form.Form.TheVariants.{Flag, Signed, Unsigned, Decimal, Characters, HexPairs}
use Rattle.co_values.specs.declared.form.Form.TheVariants.{Unmodelled}
use Rattle.co_values.specs.declared.form.Width.{Width}
use Rattle.co_values.specs.declared.form.Width.TheVariants.{Bits8, Bits16, Bits24, Bits32, Bits40, Bits48, Bits56, Bits64}
use Rattle.co_values.specs.Types.{form, octets}
use Rattle.co_values.specs.Values.{Fits, FitsForm, text_of_value}
use Rattle.co_values.specs.Values.{longest_value}
use Rattle.real_texts.specs.declared.real.Real.{Real}
use Rattle.real_texts.specs.declared.real.Real.TheVariants.{Real32, Real64}
use Rattle.real_texts.specs.Reals.{format_of, octets as octets_of_format}
use Rattle.eds_device.specs.Described.{kind_at}
use Rattle.eds_device.specs.Names.{values_named}
use Rattle.eds_device.specs.Origins.{origin_of, values_section}
use Rattle.eds_device.specs.Sheets.{Sheet}
use Rattle.eds_dcf.specs.Compact.{compact_object, is_compact, made_section, new_values, value_pair, values_pairs_at}
use Rattle.eds_dcf.specs.Compact.{values_set}
use Rattle.eds_dcf.specs.Dcf.{pairs_with}
use Rattle.eds_dcf.specs.Entries.{parameter_pairs, parameter_place}
use Rattle.eds_dcf.specs.Pairs.{without}
use Rattle.eds_dcf.specs.Writes.{is_to, last_of}
use Rattle.eds_dcf.proofs.TextLemmas.{two_parts}

-- a write of a value of its entry's type
abbrev FitsEntry : Sheet → Write → Type 0
FitsEntry sheet write = Fits (kind_at sheet (write.index, write.sub)) write.bytes

few_octets : (width : Width) → octets width ≤ longest_value
few_octets Bits8 = omega arith
few_octets Bits16 = omega arith
few_octets Bits24 = omega arith
few_octets Bits32 = omega arith
few_octets Bits40 = omega arith
few_octets Bits48 = omega arith
few_octets Bits56 = omega arith
few_octets Bits64 = omega arith

few_in_format : (real : Real) → octets_of_format (format_of real) ≤ longest_value
few_in_format Real32 = omega arith
few_in_format Real64 = omega arith

short_form : (f : Form) (bytes : List ℕ) → FitsForm f bytes → length bytes ≤ longest_value
short_form Flag bytes h = let one : length bytes ≡ 1 = h.0 in omega arith
short_form (Signed width) bytes h = subst (λ (n : ℕ). n ≤ longest_value) (sym h) (few_octets width)
short_form (Unsigned width) bytes h = subst (λ (n : ℕ). n ≤ longest_value) (sym h) (few_octets width)
short_form (Decimal real) bytes h = subst (λ (n : ℕ). n ≤ longest_value) (sym h.0) (few_in_format real)
short_form Characters bytes h = h
short_form HexPairs bytes h = h
short_form Unmodelled bytes h = absurd h

-- values of a type are not too long
pub all_short : (sheet : Sheet) (writes : List Write) → All (FitsEntry sheet) writes
    → All (λ w. length w.bytes ≤ longest_value) writes
all_short sheet writes all = All-weaker (FitsEntry sheet) (λ w. length w.bytes ≤ longest_value)
    (λ w h. short_form (form (kind_at sheet (w.index, w.sub))) w.bytes h.1) writes all

equal_from_test : (a b : ℕ) → (a == b) ≡ true → a ≡ b
equal_from_test a b h = grind (arith, nat_tests)

both_true : (t u : Bool) → (t && u) ≡ true → (t ≡ true) × (u ≡ true)
both_true true u h = (refl, h)
both_true false u h = absurd (cc)

-- what holds of each write's entry and bytes holds of those that are left
module _ (P : ℕ × ℕ → List ℕ → Type 0) where
  last_of_one : (write : Write) (place : ℕ × ℕ) → P (write.index, write.sub) write.bytes → (t : Bool)
      → is_to place write ≡ t → IfSome (option_map (λ (w : Write). w.bytes) (cond t (Some write) None)) (P place)
  last_of_one write place holds true e =
      let here = both_true (place.0 == write.index) (place.1 == write.sub) e in
      let index : place.0 ≡ write.index = equal_from_test place.0 write.index here.0 in
      let sub : place.1 ≡ write.sub = equal_from_test place.1 write.sub here.1 in
      let same : place ≡ (write.index, write.sub) = λ i. (index i, sub i) in
      subst (λ (p : ℕ × ℕ). P p write.bytes) (sym same) holds
  last_of_one write place holds false e = tt

  either : (a b : Option Write) (Q : List ℕ → Type 0) → IfSome (option_map (λ (w : Write). w.bytes) a) Q
      → IfSome (option_map (λ (w : Write). w.bytes) b) Q
      → IfSome (option_map (λ (w : Write). w.bytes) (option_or a b)) Q
  either None b Q h k = k
  either (Some a) b Q h k = h

  found_holds : (writes : List Write) (place : ℕ × ℕ) → All (λ w. P (w.index, w.sub) w.bytes) writes
      → IfSome (option_map (λ (w : Write). w.bytes) (find (is_to place) (reverse writes))) (P place)
  found_holds [] place all = tt
  found_holds (w ∷ ws) place all =
      subst (λ (o : Option Write). IfSome (option_map (λ (w : Write). w.bytes) o) (P place))
      (sym (ap (find (is_to place)) (reverse-append (w ∷ []) ws) ∙ find-append (is_to place) (reverse ws) (w ∷ [])))
      (either _ _ (P place) (found_holds ws place (All-tail (λ w. P (w.index, w.sub) w.bytes) w ws all))
      (last_of_one w place (All-head (λ w. P (w.index, w.sub) w.bytes) w ws all) _ refl))

  pub left_holds : (writes : List Write) (place : ℕ × ℕ) → All (λ w. P (w.index, w.sub) w.bytes) writes
      → IfSome (last_of writes place) (P place)
  unfolding last_of
  left_holds writes place all = found_holds writes place all

-- what writes leave at an entry is a value of its type
pub left_fits : (sheet : Sheet) (writes : List Write) (values : ℕ × ℕ → Option (List ℕ)) → All (FitsEntry sheet) writes
    → ((place : ℕ × ℕ) → values place ≡ last_of writes place)
    → (place : ℕ × ℕ) → IfSome (values place) (Fits (kind_at sheet place))
left_fits sheet writes values all is place = subst (λ (o : Option (List ℕ)). IfSome o (Fits (kind_at sheet place)))
    (sym (is place)) (left_holds (λ place. Fits (kind_at sheet place)) writes place all)

-- the bytes at an entry are a value of its type
pub found_fits_at : (sheet : Sheet) (values : ℕ × ℕ → Option (List ℕ)) (place : ℕ × ℕ) (kind : DataType)
    (bytes : List ℕ) → ((place : ℕ × ℕ) → IfSome (values place) (Fits (kind_at sheet place)))
    → kind ≡ kind_at sheet place → values place ≡ Some bytes → Fits kind bytes
found_fits_at sheet values place kind bytes fits is found =
    subst (λ (k : DataType). Fits k bytes) (sym is)
    (subst (λ (o : Option (List ℕ)). IfSome o (Fits (kind_at sheet place))) found (fits place))

module _ (sheet : Sheet) (values : ℕ × ℕ → Option (List ℕ)) (place : ℕ × ℕ) where
  pub no_compact_sub : is_compact (origin_of sheet.sections place.0 place.1) ≡ false
      → None ≡ value_pair sheet values place
  unfolding value_pair
  no_compact_sub is = rw is refl

  pub no_value : values place ≡ None → None ≡ value_pair sheet values place
  unfolding value_pair
  no_value none = rw none (by (is_compact (origin_of sheet.sections place.0 place.1)))
    where
      by : (t : Bool) → let nothing : Option Pair = None in nothing ≡ (if t then nothing else nothing)
      by true = refl
      by false = refl

  pub pair_of_value : (kind : DataType) (bytes key text : List ℕ)
      → is_compact (origin_of sheet.sections place.0 place.1) ≡ true
      → values place ≡ Some bytes → kind ≡ kind_at sheet place → key ≡ decimal place.1 → text ≡ text_of_value kind bytes
      → Some (record { key = key; value = text }) ≡ value_pair sheet values place
  unfolding value_pair
  pair_of_value kind bytes key text is found is_kind is_key is_text = rw (is, found, is_key, is_text, is_kind) refl

shown_fits : (kind : DataType) (given : Option (Bor (List ℕ))) → IfSome (option_copied given) (Fits kind)
    → IfSome given (λ bytes. Fits kind bytes.now)
shown_fits kind None h = tt
shown_fits kind (Some bytes) h = h

-- and so are those that are read there
pub read_fits : (kind : DataType) (given : Option (Bor (List ℕ))) (value : Option (List ℕ))
    → option_copied given ≡ value → IfSome value (Fits kind) → IfSome given (λ bytes. Fits kind bytes.now)
read_fits kind given value e h = shown_fits kind given (subst (λ (o : Option (List ℕ)). IfSome o (Fits kind)) (sym e) h)

-- the section of an entry with a value
pub entry_text : (name shown : List ℕ) (pairs seen : List Pair) (kind : DataType) (bytes text : List ℕ)
    (given : Option (List ℕ)) (out a b c : List ℕ)
    → shown ≡ name → seen ≡ pairs → given ≡ Some bytes → text ≡ text_of_value kind bytes
    → a ≡ out ++ section_text (record { name = shown; pairs = [] })
    → b ≡ a ++ flat_map pair_text (without (codes "ParameterValue") seen)
    → c ≡ b ++ pair_text (record { key = codes "ParameterValue"; value = text })
    → c ≡ out ++ section_text (record { name = name; pairs = parameter_pairs pairs kind given })
entry_text name shown pairs seen kind bytes text given out a b c is_shown is_seen is_given is_text ha hb hc =
    two_parts out shown (without (codes "ParameterValue") seen)
    (record { key = codes "ParameterValue"; value = text } ∷ []) a b c ha hb (hc
    ∙ ap (λ t. b ++ t) (sym (append-nil (pair_text (record { key = codes "ParameterValue"; value = text })))))
    ∙ ap (λ t. out
    ++ section_text (record {
      name = shown;
      pairs = without (codes "ParameterValue") seen
          ++ record { key = codes "ParameterValue"; value = t } ∷ [];
    })) is_text
    ∙ ap (λ n. out
    ++ section_text (record {
      name = n;
      pairs = without (codes "ParameterValue") seen
          ++ record { key = codes "ParameterValue"; value = text_of_value kind bytes } ∷ [];
    })) is_shown
    ∙ ap (λ ps. out
    ++ section_text (record {
      name = name;
      pairs = without (codes "ParameterValue") ps
          ++ record { key = codes "ParameterValue"; value = text_of_value kind bytes } ∷ [];
    })) is_seen
    ∙ ap (λ o. out ++ section_text (record { name = name; pairs = parameter_pairs pairs kind o })) (sym is_given)

module _ (sheet : Sheet) (values : ℕ × ℕ → Option (List ℕ)) (s : Section) where
  pub with_parameter : (place : ℕ × ℕ) (kind : DataType) (given : Option (List ℕ))
      → parameter_place sheet s.name ≡ Some place → kind ≡ kind_at sheet place → given ≡ values place
      → parameter_pairs s.pairs kind given ≡ pairs_with sheet values s
  unfolding pairs_with
  with_parameter place kind given is is_kind found = rw (is, is_kind, found) refl

  pub with_compact : (index : ℕ) → parameter_place sheet s.name ≡ None → values_named s.name ≡ Some index
      → values_pairs_at sheet values index s.pairs ≡ pairs_with sheet values s
  unfolding pairs_with
  with_compact index none named = rw (none, named) refl

  pub with_none : parameter_place sheet s.name ≡ None → values_named s.name ≡ None → s.pairs ≡ pairs_with sheet values s
  unfolding pairs_with
  with_none none unnamed = rw (none, unnamed) refl

module _ (sheet : Sheet) (values : ℕ × ℕ → Option (List ℕ)) (index : ℕ) where
  pub not_made_beside : is_some (values_section sheet.sections index) ≡ true → made_section sheet values index ≡ None
  unfolding made_section
  not_made_beside there = rw there refl

  pub not_made_of_others : is_some (values_section sheet.sections index) ≡ false → compact_object sheet index ≡ None
      → made_section sheet values index ≡ None
  unfolding made_section
  not_made_of_others there none = rw (there, none) refl

  pub made_of_compact : (section : Section) (highest : ℕ) → is_some (values_section sheet.sections index) ≡ false
      → compact_object sheet index ≡ Some (section, highest)
      → new_values index (values_set sheet values index highest) ≡ made_section sheet values index
  unfolding made_section
  made_of_compact section highest there is = rw (there, is) refl

pub is_some_copied : {X : Type 0} (o : Option (Bor X)) → is_some (option_copied o) ≡ is_some o
is_some_copied None = refl
is_some_copied (Some x) = refl
