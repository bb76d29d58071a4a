-- What the sections of a DCF have at a key.
use Rattle.std.proofs.Common.{◌≡◌, ◌==◌, ℕ, Bool, true, false, cond, not, ◌&&◌, List, [], ◌∷◌, ◌++◌, length, drop}
use Rattle.std.proofs.Common.{option_to_list, slice_get, codes, Option, None, Some, option_map, option_and_then, nat_le}
use Rattle.std.proofs.Common.{refl, sym, ap, subst, ◌∙◌, arith}
use Rattle.std.proofs.lemmas.Bool.{false≢true}
use Rattle.std.proofs.lemmas.Bool.Decides.{nat_tests}
use Rattle.std.proofs.lemmas.List.{drop_all}
use Rattle.std.proofs.lemmas.List.Folds.{find_at}
use Rattle.std.proofs.lemmas.Slice.Eq.{bytes_eq-Decides}
use Rattle.std.specs.List.{find, position_or_len}
use Rattle.std.specs.Option.{option_or}
use Rattle.ini_text.proofs.NameLemmas.{same_as, same_sym}
use Rattle.ini_text.specs.Content.{Pair, Section, same, value_at}
use Rattle.co_values.specs.declared.data_type.DataType.{DataType}
use Rattle.base.specs.Digits.{digits_number}
use Rattle.co_values.specs.Types.{is_modelled}
use Rattle.co_values.specs.Values.{text_of_value}
use Rattle.eds_device.specs.Described.{kind_at}
use Rattle.eds_device.specs.Names.{index_named, place_named, values_named}
use Rattle.eds_device.specs.Sections.{compact_count, is_plain}
use Rattle.eds_device.specs.Origins.{Origin, own, compact, is_index, is_place, object_section, origin_of, sub_section}
use Rattle.eds_device.specs.Sheets.{Sheet}
use Rattle.eds_dcf.specs.Dcf.{with_values}
use Rattle.eds_dcf.specs.Entries.{own_place, parameter_place}
use Rattle.eds_dcf.specs.Pairs.{without}
use Rattle.eds_dcf.proofs.EntryLemmas.{with_none, with_parameter}

-- ---- pairs

pub value_append : (ps qs : List Pair) (key : List ℕ)
    → value_at (ps ++ qs) key ≡ option_or (value_at ps key) (value_at qs key)
value_append [] qs key = refl
value_append (p ∷ ps) qs key = by (same key p.key) (value_append ps qs key)
  where
    by : (t : Bool) → value_at (ps ++ qs) key ≡ option_or (value_at ps key) (value_at qs key)
        → cond t (Some p.value) (value_at (ps ++ qs) key) ≡ option_or (cond t (Some p.value) (value_at ps key))
        (value_at qs key)
    by true ih = refl
    by false ih = ih

-- a key that goes is gone
gone : (key : List ℕ) (ps : List Pair) → value_at (without key ps) key ≡ None
gone key [] = refl
gone key (p ∷ ps) = by (same key p.key) refl (gone key ps)
  where
    by : (t : Bool) → same key p.key ≡ t → value_at (without key ps) key ≡ None
        → value_at (cond (not t) (p ∷ without key ps) (without key ps)) key ≡ None
    by true e ih = ih
    by false e ih = rw e ih

-- and every other key stays
stays : (key q : List ℕ) (ps : List Pair) → same key q ≡ false → value_at (without key ps) q ≡ value_at ps q
stays key q [] other = refl
stays key q (p ∷ ps) other = by (same key p.key) (same q p.key) refl refl (stays key q ps other)
  where
    by : (t u : Bool) → same key p.key ≡ t → same q p.key ≡ u → value_at (without key ps) q ≡ value_at ps q
        → value_at (cond (not t) (p ∷ without key ps) (without key ps)) q ≡ cond u (Some p.value) (value_at ps q)
    by true true e f ih = absurd (false≢true (sym other ∙ same_as key p.key q e ∙ same_sym p.key q ∙ f))
    by true false e f ih = ih
    by false true e f ih = rw f refl
    by false false e f ih = rw f ih

pub or_none : (o : Option (List ℕ)) → option_or o None ≡ o
or_none None = refl
or_none (Some x) = refl

abbrev parameter_key : List ℕ
parameter_key = codes "ParameterValue"

abbrev set_pairs : DataType → Option (List ℕ) → List Pair
set_pairs kind value =
    option_to_list (option_map (λ bytes. record { key = codes "ParameterValue"; value = text_of_value kind bytes })
    value)

set_there : (kind : DataType) (value : Option (List ℕ))
    → value_at (set_pairs kind value) (codes "ParameterValue") ≡ option_map (text_of_value kind) value
set_there kind None = refl
set_there kind (Some bytes) = refl

set_nowhere_else : (kind : DataType) (value : Option (List ℕ)) (key : List ℕ)
    → same (codes "ParameterValue") key ≡ false → value_at (set_pairs kind value) key ≡ None
set_nowhere_else kind None key other = refl
set_nowhere_else kind (Some bytes) key other = ap (λ t. cond t (Some (text_of_value kind bytes)) None)
    (same_sym key (codes "ParameterValue") ∙ other)

-- the section of an entry has its value as ParameterValue, and its other keys as they were
module _ (sheet : Sheet) (values : ℕ × ℕ → Option (List ℕ)) (s : Section) (place : ℕ × ℕ)
    (is : parameter_place sheet s.name ≡ Some place) where
  pub parameter_there : value_at (with_values sheet values s).pairs (codes "ParameterValue")
      ≡ option_map (text_of_value (kind_at sheet place)) (values place)
  parameter_there =
      ap (λ ps. value_at ps (codes "ParameterValue"))
      (sym (with_parameter sheet values s place (kind_at sheet place) (values place) is refl refl))
      ∙ value_append (without (codes "ParameterValue") s.pairs) (set_pairs (kind_at sheet place) (values place))
      (codes "ParameterValue")
      ∙ ap (λ o. option_or o (value_at (set_pairs (kind_at sheet place) (values place)) (codes "ParameterValue")))
      (gone (codes "ParameterValue") s.pairs)
      ∙ set_there (kind_at sheet place) (values place)

  pub parameter_others : (key : List ℕ) → same (codes "ParameterValue") key ≡ false
      → value_at (with_values sheet values s).pairs key ≡ value_at s.pairs key
  parameter_others key other =
      ap (λ ps. value_at ps key)
      (sym (with_parameter sheet values s place (kind_at sheet place) (values place) is refl refl))
      ∙ value_append (without (codes "ParameterValue") s.pairs) (set_pairs (kind_at sheet place) (values place)) key
      ∙ ap (λ o. option_or o (value_at (set_pairs (kind_at sheet place) (values place)) key))
      (stays (codes "ParameterValue") key s.pairs other)
      ∙ ap (option_or (value_at s.pairs key)) (set_nowhere_else (kind_at sheet place) (values place) key other)
      ∙ or_none (value_at s.pairs key)

-- a section of neither an entry nor values stays
pub section_stays : (sheet : Sheet) (values : ℕ × ℕ → Option (List ℕ)) (s : Section)
    → parameter_place sheet s.name ≡ None → values_named s.name ≡ None → with_values sheet values s ≡ s
section_stays sheet values s none unnamed = ap (λ (ps : List Pair). record { name = s.name; pairs = ps })
    (sym (with_none sheet values s none unnamed))

-- ---- the section of an entry

module _ {X : Type 0} (p : X → Bool) where
  pub find_passes : (xs : List X) (x : X) → find p xs ≡ Some x → p x ≡ true
  find_passes [] x e = absurd (cc)
  find_passes (y ∷ ys) x e = by (p y) refl e (find_passes ys x)
    where
      by : (t : Bool) → p y ≡ t → cond t (Some y) (find p ys) ≡ Some x → (find p ys ≡ Some x → p x ≡ true) → p x ≡ true
      by true h e ih = let same_one : y ≡ x = cc in subst (λ (z : X). p z ≡ true) same_one h
      by false h e ih = ih e

both_true : (t u : Bool) → (t && u) ≡ true → (t ≡ true) × (u ≡ true)
both_true true u h = (refl, h)
both_true false u h = absurd (cc)

number_of_test : (a b : ℕ) → (a == b) ≡ true → a ≡ b
number_of_test a b h = grind (arith, nat_tests)

pub place_of_test : (place : ℕ × ℕ) (named : Option (ℕ × ℕ)) → is_place place named ≡ true → named ≡ Some place
place_of_test place None h = absurd (cc)
place_of_test place (Some p) h =
    let here = both_true (place.0 == p.0) (place.1 == p.1) h in
    let index : p.0 ≡ place.0 = sym (number_of_test place.0 p.0 here.0) in
    let sub : p.1 ≡ place.1 = sym (number_of_test place.1 p.1 here.1) in
    let same_place : p ≡ place = λ i. (index i, sub i) in
    ap (λ (q : ℕ × ℕ). Some q) same_place

index_of_test : (index : ℕ) (named : Option ℕ) → is_index index named ≡ true → named ≡ Some index
index_of_test index None h = absurd (cc)
index_of_test index (Some n) h = ap Some (sym (number_of_test index n h))

four_digits : (name : List ℕ) (index : ℕ) → index_named name ≡ Some index → length name ≡ 4
unfolding index_named
four_digits name index e = by (length name == 4) refl e
  where
    by : (t : Bool) → (length name == 4) ≡ t → cond t (digits_number 16 name) None ≡ Some index → length name ≡ 4
    by true h e = number_of_test (length name) 4 h
    by false h e = absurd (cc)

no_sub : (name : List ℕ) → length name ≡ 4 → place_named name ≡ None
unfolding place_named
no_sub name four = let past : drop 4 name ≡ [] = drop_all 4 name (omega arith) in rw past refl

module _ (sheet : Sheet) (index sub : ℕ) where
  named_by_sub : (s : Section) → sub_section sheet.sections index sub ≡ Some s → own_place s.name ≡ Some (index, sub)
  unfolding own_place sub_section
  named_by_sub s e =
      let here : ℕ × ℕ = (index, sub) in
      rw (place_of_test here (place_named s.name)
      (find_passes (λ t. is_place (index, sub) (place_named t.name)) sheet.sections s e)) refl

  named_by_index : (s : Section) → object_section sheet.sections index ≡ Some s → sub ≡ 0
      → own_place s.name ≡ Some (index, sub)
  unfolding own_place object_section
  named_by_index s e zeroth =
      let named : index_named s.name ≡ Some index = index_of_test index (index_named s.name)
      (find_passes (λ t. is_index index (index_named t.name)) sheet.sections s e) in
      rw (no_sub s.name (four_digits s.name index named), named, zeroth) refl

  from_compact_not_own : (s : Section) (o : Option Section)
      → option_and_then (λ t. option_and_then (λ n. cond (nat_le sub n) (Some (compact t n)) None) (compact_count t)) o
      ≡ Some (own s) → ⊥
  from_compact_not_own s None e = cc
  from_compact_not_own s (Some t) e = by (compact_count t) e
    where
      bounded : (n : ℕ) (u : Bool) → cond u (Some (compact t n)) None ≡ Some (own s) → ⊥
      bounded n true e = cc
      bounded n false e = cc

      by : (c : Option ℕ) → option_and_then (λ n. cond (nat_le sub n) (Some (compact t n)) None) c ≡ Some (own s) → ⊥
      by None e = cc
      by (Some n) e = bounded n (nat_le sub n) e

  stands : (p : Section → Bool) (s : Section) → find p sheet.sections ≡ Some s
      → (i : ℕ) × (slice_get sheet.sections i ≡ Some s)
  stands p s e = (position_or_len p sheet.sections, sym (find_at p sheet.sections) ∙ e)

  named_so : (x s : Section) → x ≡ s
      → (own_place x.name ≡ Some (index, sub)) × ((i : ℕ) × (slice_get sheet.sections i ≡ Some x))
      → (own_place s.name ≡ Some (index, sub)) × ((i : ℕ) × (slice_get sheet.sections i ≡ Some s))
  named_so x s is h = subst (λ (t : Section). (own_place t.name ≡ Some (index, sub))
      × ((i : ℕ) × (slice_get sheet.sections i ≡ Some t))) is h

  by_object : (s : Section) (rest : Option Origin) → (rest ≡ Some (own s) → ⊥) → (t : Bool) → (sub == 0) ≡ t
      → (o : Option Section) → object_section sheet.sections index ≡ o
      → option_or (cond t (option_and_then (λ x. cond (is_plain x) (Some (own x)) None) o) None) rest ≡ Some (own s)
      → (own_place s.name ≡ Some (index, sub)) × ((i : ℕ) × (slice_get sheet.sections i ≡ Some s))
  unfolding object_section
  by_object s rest none true zeroth None at e = absurd (none e)
  by_object s rest none true zeroth (Some x) at e = by (is_plain x) e
    where
      by : (u : Bool) → option_or (cond u (Some (own x)) None) rest ≡ Some (own s)
          → (own_place s.name ≡ Some (index, sub)) × ((i : ℕ) × (slice_get sheet.sections i ≡ Some s))
      by true e = let is : x ≡ s = cc in named_so x s is (
        named_by_index x at (number_of_test sub 0 zeroth),
        stands (λ t. is_index index (index_named t.name)) x at,
      )
      by false e = absurd (none e)
  by_object s rest none false zeroth o at e = absurd (none e)

  by_sub : (s : Section) (a : Option Section) → sub_section sheet.sections index sub ≡ a
      → option_or (option_map own a)
      (option_or (cond (sub == 0) (option_and_then (λ x. cond (is_plain x) (Some (own x)) None)
      (object_section sheet.sections index)) None)
      (option_and_then (λ t. option_and_then (λ n. cond (nat_le sub n) (Some (compact t n)) None) (compact_count t))
      (object_section sheet.sections index))) ≡ Some (own s)
      → (own_place s.name ≡ Some (index, sub)) × ((i : ℕ) × (slice_get sheet.sections i ≡ Some s))
  unfolding sub_section
  by_sub s None at e = by_object s _ (from_compact_not_own s (object_section sheet.sections index))
      (sub == 0) refl (object_section sheet.sections index) refl e
  by_sub s (Some x) at e = let is : x ≡ s = cc
      in named_so x s is (named_by_sub x at, stands (λ t. is_place (index, sub) (place_named t.name)) x at)

  -- an entry with a section of its own is the one that the section is named for, and the section stands in the text
  own_named : (s : Section) → origin_of sheet.sections index sub ≡ Some (own s) → (own_place s.name ≡ Some (index, sub))
      × ((i : ℕ) × (slice_get sheet.sections i ≡ Some s))
  unfolding origin_of
  own_named s e = by_sub s (sub_section sheet.sections index sub) refl e

  pub entry_placed : (s : Section) → origin_of sheet.sections index sub ≡ Some (own s)
      → is_modelled (kind_at sheet (index, sub)) ≡ true → parameter_place sheet s.name ≡ Some (index, sub)
  unfolding parameter_place
  entry_placed s e modelled = rw ((own_named s e).0, e, (bytes_eq-Decides s.name s.name).1 refl, modelled) refl
