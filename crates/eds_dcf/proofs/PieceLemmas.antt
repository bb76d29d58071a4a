-- The text of a section: which values it depends on.
use Rattle.std.proofs.Common.{◌≡◌, ◌==◌, ℕ, zero, suc, ◌+◌, ◌<◌, ◌≤◌, Bool, true, false, not, ◌&&◌, List, [], ◌∷◌}
use Rattle.std.proofs.Common.{◌++◌, take, drop, length, get_or, filter, filter_map, map, option_to_list, Option, None, Some}
use Rattle.std.proofs.Common.{refl, sym, ap, ◌∙◌, append-nil, arith, ◌-◌, length-append, subst, IfSome}
use Rattle.std.specs.Prelude.{if◌then◌else◌, codes, is_some, option_and_then, option_map}
use Rattle.std.proofs.lemmas.Bool.{eqb-true}
use Rattle.std.proofs.lemmas.List.{get_or-map, map_more, take_all}
use Rattle.std.proofs.Math.ListN.{length-map}
use Rattle.std.specs.FinMap.{empty, get, get-empty}
use Rattle.std.specs.List.{flat_map}
use Rattle.std.specs.Option.{option_map_or, option_or, option_zip}
use Rattle.ini_text.specs.Content.{Pair, Section, same}
use Rattle.ini_text.specs.Change.{section_text, text_of}
use Rattle.concise_dcf.specs.declared.write.Write.{Write}
use Rattle.co_dict.specs.Places.{place_cmp}
use Rattle.co_dict.specs.Values.{Values}
use Rattle.co_values.specs.Types.{is_modelled}
use Rattle.co_values.specs.Values.{Fits}
use Rattle.eds_entries.specs.Names.{sub_named}
use Rattle.eds_device.specs.Described.{kind_at}
use Rattle.eds_device.specs.Names.{index_named, place_named, values_named}
use Rattle.eds_device.specs.Origins.{origin_of, values_section}
use Rattle.eds_device.specs.Places.{first_subs}
use Rattle.eds_device.specs.Sheets.{Sheet}
use Rattle.eds_dcf.specs.Commissioning.{commissioning, is_commissioning}
use Rattle.eds_dcf.specs.Compact.{compact_object, made_section, new_values, value_pair, values_pairs}
use Rattle.eds_dcf.specs.Compact.{values_pairs_at, values_set}
use Rattle.eds_dcf.specs.Dcf.{dcf_sections, made_sections, pairs_with, sections_with, with_values}
use Rattle.eds_dcf.specs.Entries.{is_in, own_place, parameter_pairs, parameter_place, says_modelled}
use Rattle.eds_dcf.specs.Template.{no_values, object_begun, piece, room_of, IsTemplate}
use Rattle.eds_dcf.proofs.EntryLemmas.{no_value}
use Rattle.eds_dcf.specs.Writes.{last_of}
use Rattle.eds_dcf.proofs.RunLemmas.{one_more}
use Rattle.eds_dcf.proofs.TextLemmas.{filter_map-push, three_parts}

-- ---- the object that a name begins with

whole_name : (name : List ℕ) (index : ℕ) → index_named name ≡ Some index → object_begun name ≡ Some index
unfolding object_begun index_named
whole_name name index e = by (length name == 4) refl e
  where
    by : (t : Bool) → (length name == 4) ≡ t → index_named name ≡ Some index → index_named (take 4 name) ≡ Some index
    by true four e =
        let is = eqb-true (length name) 4 four in
        let short : length name ≤ 4 = omega arith in
        ap index_named (take_all 4 name short) ∙ e
    by false other e = let none : Option ℕ = None in let nothing : none ≡ Some index = rw other at e in absurd (cc)

-- no shorter name begins with one
pub short_begins : (name : List ℕ) → length name < 4 → None ≡ object_begun name
unfolding object_begun index_named
short_begins [] h = refl
short_begins (a ∷ []) h = refl
short_begins (a ∷ b ∷ []) h = refl
short_begins (a ∷ b ∷ c ∷ []) h = refl
short_begins (a ∷ b ∷ c ∷ d ∷ rest) h = absurd (omega arith)

place_begins : (name : List ℕ) (place : ℕ × ℕ) → place_named name ≡ Some place → object_begun name ≡ Some place.0
unfolding object_begun place_named
place_begins name place e =
    by (same (take 3 (drop 4 name)) (codes "sub")) (index_named (take 4 name)) refl (sub_named (drop 7 name)) e
  where
    by : (t : Bool) (i : Option ℕ) → index_named (take 4 name) ≡ i → (s : Option ℕ)
        → (let none : Option (ℕ × ℕ) = None in if t then option_zip i s else none) ≡ Some place
        → index_named (take 4 name) ≡ Some place.0
    by true (Some a) h (Some b) e =
        let pair : ℕ × ℕ = (a, b) in
        let is : pair ≡ place = cc in
        h ∙ ap (λ (p : ℕ × ℕ). Some p.0) is
    by true (Some a) h None e = absurd (cc)
    by true None h s e = absurd (cc)
    by false i h s e = absurd (cc)

own_begins : (name : List ℕ) (place : ℕ × ℕ) → own_place name ≡ Some place → object_begun name ≡ Some place.0
unfolding own_place
own_begins name place e = by (place_named name) refl (index_named name) refl e
  where
    by : (p : Option (ℕ × ℕ)) → place_named name ≡ p → (i : Option ℕ) → index_named name ≡ i
        → option_or p (option_map (λ index. (index, 0)) i) ≡ Some place → object_begun name ≡ Some place.0
    by (Some p) h i k e = place_begins name place (h ∙ e)
    by None h (Some index) k e =
        let pair : ℕ × ℕ = (index, 0) in
        let is : pair ≡ place = cc in
        whole_name name index k ∙ ap (λ (p : ℕ × ℕ). Some p.0) is
    by None h None k e = absurd (cc)

values_begin : (name : List ℕ) (index : ℕ) → values_named name ≡ Some index → object_begun name ≡ Some index
unfolding object_begun values_named
values_begin name index e = by (same (drop 4 name) (codes "Value")) e
  where
    by : (t : Bool) → (let none : Option ℕ = None in if t then index_named (take 4 name) else none) ≡ Some index
        → index_named (take 4 name) ≡ Some index
    by true e = e
    by false e = absurd (cc)

own_of : (sheet : Sheet) (name : List ℕ) (place : ℕ × ℕ) → parameter_place sheet name ≡ Some place
    → own_place name ≡ Some place
unfolding parameter_place
own_of sheet name place e = by (own_place name) refl e
  where
    chosen : (p : ℕ × ℕ) (t : Bool) → (let none : Option (ℕ × ℕ) = None in if t then Some p else none) ≡ Some place
        → Some p ≡ Some place
    chosen p true e = e
    chosen p false e = absurd (cc)

    by : (o : Option (ℕ × ℕ)) → own_place name ≡ o
        → option_and_then (λ p. let none : Option (ℕ × ℕ) = None
        in if is_in name (origin_of sheet.sections p.0 p.1) && is_modelled (kind_at sheet p) then Some p else none) o
        ≡ Some place → own_place name ≡ Some place
    by (Some p) h e = h ∙ chosen p (is_in name (origin_of sheet.sections p.0 p.1) && is_modelled (kind_at sheet p)) e
    by None h e = absurd (cc)

-- ---- where no entry of an object has a value

module _ (sheet : Sheet) (values : ℕ × ℕ → Option (List ℕ)) (index : ℕ)
    (none : (sub : ℕ) → values (index, sub) ≡ None) where
  no_pairs : (n : ℕ) → filter_map (value_pair sheet values) (first_subs index n) ≡ []
  no_pairs zero = refl
  no_pairs (suc n) =
      filter_map-push (value_pair sheet values) (first_subs index n) (index, n)
      ∙ ap (λ t. t ++ option_to_list (value_pair sheet values (index, n))) (no_pairs n)
      ∙ ap option_to_list (sym (no_value sheet values (index, n) (none n)))

  no_set : (highest : ℕ) → values_set sheet values index highest ≡ []
  unfolding values_set
  no_set highest = no_pairs (highest + 1)

  -- nothing is made for it
  pub none_made : made_section sheet values index ≡ None
  unfolding made_section
  none_made = by (is_some (values_section sheet.sections index)) (compact_object sheet index)
    where
      by : (t : Bool) (o : Option (Section × ℕ))
          → (let nothing : Option Section = None in if t then nothing
          else option_and_then (λ c. new_values index (values_set sheet values index c.1)) o) ≡ None
      by true o = refl
      by false None = refl
      by false (Some c) = ap (new_values index) (no_set c.1)

same_values : (sheet : Sheet) (values : ℕ × ℕ → Option (List ℕ)) (index : ℕ) (pairs : List Pair)
    → ((sub : ℕ) → values (index, sub) ≡ None)
    → values_pairs_at sheet no_values index pairs ≡ values_pairs_at sheet values index pairs
unfolding values_pairs_at
same_values sheet values index pairs none = by (compact_object sheet index)
  where
    by : (o : Option (Section × ℕ))
        → option_map_or (λ c. values_pairs (says_modelled sheet c.0) pairs (values_set sheet no_values index c.1)) o
        pairs ≡ option_map_or (λ c. values_pairs (says_modelled sheet c.0) pairs (values_set sheet values index c.1)) o
        pairs
    by None = refl
    by (Some c) = ap (values_pairs (says_modelled sheet c.0) pairs)
        (no_set sheet no_values index (λ sub. refl) c.1 ∙ sym (no_set sheet values index none c.1))

-- ---- the pieces

module _ (sheet : Sheet) (values : ℕ × ℕ → Option (List ℕ)) where
  same_pairs : (s : Section) → ((index sub : ℕ) → object_begun s.name ≡ Some index → values (index, sub) ≡ None)
      → pairs_with sheet no_values s ≡ pairs_with sheet values s
  unfolding pairs_with
  same_pairs s none = by (parameter_place sheet s.name) refl (values_named s.name) refl
    where
      by : (o : Option (ℕ × ℕ)) → parameter_place sheet s.name ≡ o → (n : Option ℕ) → values_named s.name ≡ n
          → option_map_or (λ place. parameter_pairs s.pairs (kind_at sheet place) (no_values place)) o
          (option_map_or (λ index. values_pairs_at sheet no_values index s.pairs) n s.pairs)
          ≡ option_map_or (λ place. parameter_pairs s.pairs (kind_at sheet place) (values place)) o
          (option_map_or (λ index. values_pairs_at sheet values index s.pairs) n s.pairs)
      by (Some place) h n k =
          ap (parameter_pairs s.pairs (kind_at sheet place))
          (sym (none place.0 place.1 (own_begins s.name place (own_of sheet s.name place h))))
      by None h (Some index) k =
          same_values sheet values index s.pairs (λ sub. none index sub (values_begin s.name index k))
      by None h None k = refl

  -- a piece is the same with the values where its object has none
  pub same_piece : (s : Section) → ((index sub : ℕ) → object_begun s.name ≡ Some index → values (index, sub) ≡ None)
      → piece sheet no_values s ≡ piece sheet values s
  unfolding piece
  same_piece s none =
      let nothing : List ℕ = [] in
      ap (λ (ps : List Pair). if is_commissioning s.name then nothing
      else section_text (record { name = s.name; pairs = ps })) (same_pairs s none)

  pub piece_is : (s : Section) → is_commissioning s.name ≡ false
      → section_text (with_values sheet values s) ≡ piece sheet values s
  unfolding piece
  piece_is s other = rw other refl

  pub piece_of_node : (s : Section) (out : List ℕ) → is_commissioning s.name ≡ true → out ≡ out ++ piece sheet values s
  unfolding piece
  piece_of_node s out is = rw is (sym (append-nil out))

  -- the pieces are the sections with the values but the node's
  pub pieces_are : (xs : List Section) → flat_map (piece sheet values) xs
      ≡ text_of (map (with_values sheet values) (filter (λ s. not (is_commissioning s.name)) xs))
  unfolding piece
  pieces_are [] = refl
  pieces_are (x ∷ xs) = by (is_commissioning x.name) (pieces_are xs)
    where
      by : (t : Bool)
          → flat_map (piece sheet values) xs
          ≡ text_of (map (with_values sheet values) (filter (λ s. not (is_commissioning s.name)) xs))
          → (let nothing : List ℕ = [] in if t then nothing else section_text (with_values sheet values x))
          ++ flat_map (piece sheet values) xs
          ≡ text_of (map (with_values sheet values)
          (let rest = filter (λ s. not (is_commissioning s.name)) xs in if not t then x ∷ rest else rest))
      by true rest = rest
      by false rest = ap (λ t. section_text (with_values sheet values x) ++ t) rest

-- ---- what is known of the section at a position

module _ (sheet : Sheet) (rooms : List (Option ℕ × ℕ)) (i : ℕ) (d : Section) (e : Option ℕ × ℕ)
    (all : rooms ≡ map (room_of sheet) sheet.sections) (below : i < length rooms) where
  pub room_within : i < length sheet.sections
  room_within = let long : length rooms ≡ length sheet.sections = ap length all
      ∙ length-map sheet.sections (room_of sheet) in omega (arith, long)

  pub room_at : get_or rooms i e ≡ room_of sheet (get_or sheet.sections i d)
  room_at = ap (λ r. get_or r i e) all ∙ get_or-map (room_of sheet) sheet.sections i d e room_within

  -- its text is the same with values of which none is of its object
  pub same_there : (values : ℕ × ℕ → Option (List ℕ))
      → ((index sub : ℕ) → (get_or rooms i e).0 ≡ Some index → values (index, sub) ≡ None)
      → piece sheet no_values (get_or sheet.sections i d) ≡ piece sheet values (get_or sheet.sections i d)
  same_there values none = same_piece sheet values (get_or sheet.sections i d)
      (λ index sub is. none index sub (ap (λ (r : Option ℕ × ℕ). r.0) room_at ∙ is))

-- the whole text
pub whole_text : (sheet : Sheet) (node : ℕ) (name : List ℕ) (bitrate : ℕ) (writes : List Write)
    (values : ℕ × ℕ → Option (List ℕ)) (seen : List Section) (start a b c : List ℕ)
    → ((place : ℕ × ℕ) → values place ≡ last_of writes place) → seen ≡ sheet.sections → start ≡ []
    → a ≡ start ++ flat_map (piece sheet values) sheet.sections
    → b ≡ a ++ text_of (made_sections sheet values)
    → c ≡ b ++ section_text (commissioning seen node name bitrate)
    → c ≡ text_of (dcf_sections sheet node name bitrate writes)
unfolding dcf_sections sections_with
whole_text sheet node name bitrate writes values seen start a b c left is_seen is_start ha hb hc =
    let same : values ≡ last_of writes = λ i place. left place i in
    three_parts (map (with_values sheet values) (filter (λ s. not (is_commissioning s.name)) sheet.sections))
    (made_sections sheet values) (commissioning sheet.sections node name bitrate) a b c
    (ha ∙ ap (λ t. t ++ flat_map (piece sheet values) sheet.sections) is_start
    ∙ pieces_are sheet values sheet.sections) hb
    (hc ∙ ap (λ s. b ++ section_text (commissioning s node name bitrate)) is_seen)
    ∙ ap (λ (v : ℕ × ℕ → Option (List ℕ)). text_of (map (with_values sheet v)
    (filter (λ s. not (is_commissioning s.name)) sheet.sections)
    ++ (made_sections sheet v ++ commissioning sheet.sections node name bitrate ∷ []))) same

-- ---- the walk that makes a template

-- nothing is set
pub none_set : (values : Values) → values ≡ empty → get values ≡ no_values
none_set values is = ap (λ (m : Values). get m) is ∙ (λ i place. get-empty place_cmp place i)

pub none_fit : (sheet : Sheet) (values : Values) → values ≡ empty → (place : ℕ × ℕ)
    → IfSome (get values place) (Fits (kind_at sheet place))
none_fit sheet values is place =
    subst (λ (o : Option (List ℕ)). IfSome o (Fits (kind_at sheet place)))
    (sym (ap (λ (m : Values). get m place) is ∙ get-empty place_cmp place)) tt

-- one more section of those that are walked
module _ (sheet : Sheet) (xs : List Section) (values : Values) (none : values ≡ empty) (i : ℕ) (s : Section)
    (within : i < length xs) (is : s ≡ get_or xs i s) where
  pub one_more_piece : (before after : List ℕ) → before ≡ flat_map (piece sheet no_values) (take i xs)
      → after ≡ before ++ piece sheet (get values) s → after ≡ flat_map (piece sheet no_values) (take (i + 1) xs)
  one_more_piece before after hb ha =
      ha ∙ ap (λ v. before ++ piece sheet v s) (none_set values none) ∙ ap (λ t. t ++ piece sheet no_values s) hb
      ∙ sym (one_more xs (piece sheet no_values) i s s within is)

  pub one_more_room : (rooms after : List (Option ℕ × ℕ)) (before text : List ℕ) (object : Option ℕ) (size : ℕ)
      → rooms ≡ map (room_of sheet) (take i xs) → text ≡ before ++ piece sheet (get values) s
      → object ≡ object_begun s.name → size ≡ length text - length before
      → after ≡ rooms ++ (object, size) ∷ [] → after ≡ map (room_of sheet) (take (i + 1) xs)
  one_more_room rooms after before text object size hr ht is_object is_size ha =
      let long = ap length ht ∙ length-append before (piece sheet (get values) s) in
      let part : size ≡ length (piece sheet (get values) s) = omega (arith, long) in
      let same : size ≡ length (piece sheet no_values s) = part
      ∙ ap (λ v. length (piece sheet v s)) (none_set values none) in
      let room : Option ℕ × ℕ = (object, size) in
      let known : room ≡ room_of sheet s = λ j. (is_object j, same j) in
      ha ∙ ap (λ r. r ++ room ∷ []) hr
      ∙ ap (λ (r : Option ℕ × ℕ). map (room_of sheet) (take i xs) ++ r ∷ []) (known ∙ ap (room_of sheet) is)
      ∙ sym (map_more (room_of sheet) xs i s within)

-- all of them
pub whole_template : (sheet : Sheet) (xs : List Section) (i : ℕ) (rooms : List (Option ℕ × ℕ)) (text : List ℕ)
    → xs ≡ sheet.sections → length xs ≤ i → rooms ≡ map (room_of sheet) (take i xs)
    → text ≡ flat_map (piece sheet no_values) (take i xs)
    → IsTemplate sheet rooms text
whole_template sheet xs i rooms text is past hr ht = (
  hr ∙ ap (map (room_of sheet)) (take_all i xs past ∙ is),
  ht ∙ ap (flat_map (piece sheet no_values)) (take_all i xs past ∙ is),
)
