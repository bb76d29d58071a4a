-- The sections of a DCF can be printed where those of its EDS can, and the values that are set.
use Rattle.std.proofs.Common.{◌≡◌, ◌==◌, ℕ, zero, suc, ◌+◌, ◌<◌, ◌≤◌, Bool, true, false, cond, not, ◌&&◌, ◌||◌, List}
use Rattle.std.proofs.Common.{[], ◌∷◌, ◌++◌, length, filter, filter_map, map, option_to_list, codes, decimal, IfSome}
use Rattle.std.proofs.Common.{Option, None, Some, is_none, is_some, option_and_then, refl, sym, ap, subst, ◌∙◌, lit<}
use Rattle.std.proofs.Common.{arith}
use Rattle.std.proofs.lemmas.Bool.{and_parts, eq-eqb, false≢true, not-true, or_parts}
use Rattle.std.proofs.lemmas.Option.{same_Some}
use Rattle.std.specs.List.{AllByRecursion, cons_option, find, range_with_len}
use Rattle.std.specs.Option.{option_map_or}
use Rattle.ini_text.proofs.NameLemmas.{same_sym}
use Rattle.ini_text.specs.Content.{Pair, Section, same, same_key, value_at}
use Rattle.ini_text.specs.Printable.{AreApart, IsKey, IsName, IsPrintable, IsPrintableSection, IsValue, same_name}
use Rattle.ini_text.specs.Text.{trim_line}
use Rattle.co_values.specs.Values.{text_of_value}
use Rattle.eds_device.specs.Described.{kind_at}
use Rattle.eds_device.specs.Names.{values_named}
use Rattle.eds_device.specs.Origins.{is_index, values_section}
use Rattle.eds_device.specs.Sheets.{Sheet}
use Rattle.eds_dcf.specs.Commissioning.{commissioning, first_spelling, is_commissioning, is_set_anew, node_pairs}
use Rattle.eds_dcf.specs.Commissioning.{others, others_beside, pairs_named, second_spelling}
use Rattle.eds_dcf.specs.Compact.{compact_object, is_decimal, made_section, new_values, values_name, values_pairs}
use Rattle.eds_dcf.specs.Compact.{values_pairs_at, values_set}
use Rattle.eds_dcf.specs.Dcf.{indices, made_sections, pairs_with, sections_with, with_values}
use Rattle.eds_dcf.specs.Entries.{parameter_pairs, parameter_place, says_modelled}
use Rattle.eds_dcf.proofs.ApartLemmas.{all_append, all_filter, all_pass, all_weaker, apart_append, apart_filter}
use Rattle.eds_dcf.proofs.ApartLemmas.{apart_map}
use Rattle.eds_dcf.proofs.CompactLemmas.{count_is_no_number, object_bound, untrue}
use Rattle.eds_dcf.proofs.LineLemmas.{IsOpen, count_key, decimal_value, node_key, node_name_key, rate_key, set_pair}
use Rattle.eds_dcf.proofs.PrintableLemmas.{AreSound, own_sound, set_decimal, set_sound, sound_append, sound_filter}
use Rattle.eds_dcf.proofs.PrintableLemmas.{values_sound}
use Rattle.eds_dcf.proofs.ValuesNameLemmas.{named_back, not_the_node, values_name_is_name, values_named_same}

module _ (sheet : Sheet) (values : ℕ × ℕ → Option (List ℕ))
    (spelled : (place : ℕ × ℕ) → IfSome (values place)
    (λ bytes. IsValue (text_of_value (kind_at sheet place) bytes))) where
  -- ---- sections that stand

  at_sound : (index : ℕ) (ps : List Pair) → AreSound ps → AreSound (values_pairs_at sheet values index ps)
  unfolding values_pairs_at
  at_sound index ps h = by (compact_object sheet index) refl
    where
      by : (o : Option (Section × ℕ)) → compact_object sheet index ≡ o
          → AreSound (option_map_or (λ c. values_pairs (says_modelled sheet c.0) ps (values_set sheet values index c.1))
          o ps)
      by None e = h
      by (Some c) e =
          let few : c.1 ≤ 254 = object_bound sheet index c.0 c.1 e in
          values_sound (says_modelled sheet c.0) ps (values_set sheet values index c.1) h
          (set_sound sheet values spelled index c.1 few) (set_decimal sheet values spelled index c.1)

  with_sound : (s : Section) → AreSound s.pairs → AreSound (pairs_with sheet values s)
  unfolding pairs_with
  with_sound s h = by (parameter_place sheet s.name) (values_named s.name)
    where
      by : (o : Option (ℕ × ℕ)) (n : Option ℕ)
          → AreSound (option_map_or (λ place. parameter_pairs s.pairs (kind_at sheet place)
          (values place)) o (option_map_or (λ index. values_pairs_at sheet values index s.pairs) n s.pairs))
      by (Some place) n = own_sound s.pairs (kind_at sheet place) (values place) h (spelled place)
      by None (Some index) = at_sound index s.pairs h
      by None None = h

  sound_of : (s : Section) → IsPrintableSection s → AreSound s.pairs
  sound_of s h = record { each = h.pairs; apart = h.apart }

  section_of_sound : (s : Section) → IsName s.name → AreSound s.pairs → IsPrintableSection s
  section_of_sound s n h = record { name = n; pairs = h.each; apart = h.apart }

  with_printable : (s : Section) → IsPrintableSection s → IsPrintableSection (with_values sheet values s)
  with_printable s h = section_of_sound (with_values sheet values s) h.name (with_sound s (sound_of s h))

  all_with : (xs : List Section) → AllByRecursion IsPrintableSection xs
      → AllByRecursion IsPrintableSection (map (with_values sheet values) xs)
  all_with [] h = tt
  all_with (x ∷ xs) h = (with_printable x h.0, all_with xs h.1)

  -- ---- sections that are made

  pub record IsMade (low past : ℕ) (s : Section) : Type 0 where
    pub printable : IsPrintableSection s
    pub index : ℕ
    pub from : low ≤ index
    pub below : index < past
    pub named : s.name ≡ values_name index
    pub new : values_section sheet.sections index ≡ None

  new_printable : (index : ℕ) (set : List Pair) (s : Section) → index < 0x10000 → AreSound set
      → AllByRecursion (λ p. same (codes "NrOfEntries") p.key ≡ false) set → new_values index set ≡ Some s
      → (s.name ≡ values_name index) × IsPrintableSection s
  new_printable index set s low h apart e = by (length set == 0) e
    where
      by : (t : Bool)
          → cond t None (Some (record {
            name = values_name index;
            pairs = record { key = codes "NrOfEntries"; value = decimal (length set) } ∷ set;
          })) ≡ Some s
          → (s.name ≡ values_name index) × IsPrintableSection s
      by true e = absurd (cc)
      by false e =
          let fresh : Section = record {
            name = values_name index;
            pairs = record { key = codes "NrOfEntries"; value = decimal (length set) } ∷ set;
          } in
          let is : fresh ≡ s = cc in (
            ap (λ (t : Section). t.name) (sym is),
            subst IsPrintableSection is (record {
              name = values_name_is_name index low;
              pairs = (
                set_pair (codes "NrOfEntries")
                    (decimal (length set)) count_key refl (decimal_value (length set)),
                h.each,
              );
              apart = (apart, h.apart);
            }),
          )

  nothing_at : (index : ℕ) (o : Option Section) → values_section sheet.sections index ≡ o → (t : Bool) → is_some o ≡ t
      → t ≡ false
      → values_section sheet.sections index ≡ None
  nothing_at index None e t h f = e
  nothing_at index (Some s) e t h f = absurd (false≢true (sym f ∙ sym h))

  made_one : (index : ℕ) (s : Section) → index < 0x10000 → made_section sheet values index ≡ Some s
      → (s.name ≡ values_name index) × IsPrintableSection s × (values_section sheet.sections index ≡ None)
  unfolding made_section
  made_one index s low e = by (values_section sheet.sections index) refl (compact_object sheet index) refl e
    where
      by : (v : Option Section) → values_section sheet.sections index ≡ v → (o : Option (Section × ℕ))
          → compact_object sheet index ≡ o
          → cond (is_some v) None (option_and_then (λ c. new_values index (values_set sheet values index c.1)) o)
          ≡ Some s
          → (s.name ≡ values_name index) × IsPrintableSection s × (values_section sheet.sections index ≡ None)
      by (Some t) at o is e = absurd (cc)
      by None at None is e = absurd (cc)
      by None at (Some c) is e =
          let few : c.1 ≤ 254 = object_bound sheet index c.0 c.1 is in
          let ok = new_printable index (values_set sheet values index c.1) s low
          (set_sound sheet values spelled index c.1 few)
          (all_weaker (λ p. (is_decimal p.key ≡ true) × IsKey p.key × IsOpen p.key)
          (λ p. same (codes "NrOfEntries") p.key ≡ false) (λ p number. count_is_no_number p.key number.0)
          (values_set sheet values index c.1) (set_decimal sheet values spelled index c.1)) e in
          (ok.0, ok.1, at)

  made_head : (a n : ℕ) → a < 0x10000 → (o : Option Section) → made_section sheet values a ≡ o
      → AllByRecursion (IsMade a (a + 1 + n)) (option_to_list o)
  made_head a n low None e = tt
  made_head a n low (Some s) e =
      let ok = made_one a s low e in
      (record { printable = ok.1; index = a; from = omega arith; below = omega arith; named = ok.0; new = ok.2 }, tt)

  made_later : (a n : ℕ) (s : Section) → IsMade (a + 1) (a + 1 + n) s → IsMade a (a + 1 + n) s
  made_later a n s h = record {
    printable = h.printable;
    index = h.index;
    from = omega (arith, h.from);
    below = h.below;
    named = h.named;
    new = h.new;
  }

  one_and : {X : Type 0} (P : X → Type 0) (o : Option X) (xs : List X) → AllByRecursion P (option_to_list o)
      → AllByRecursion P xs → AllByRecursion P (cons_option o xs)
  one_and P None xs h g = g
  one_and P (Some x) xs h g = (h.0, g)

  made_all : (n a : ℕ) → a + n ≤ 0x10000 → AllByRecursion (IsMade a (a + n))
      (filter_map (made_section sheet values) (range_with_len a n))
  made_all zero a low = tt
  made_all (suc n) a low =
      let past : a + 1 + n ≡ a + suc n = omega arith in
      subst (λ m. AllByRecursion (IsMade a m) (filter_map (made_section sheet values) (range_with_len a (suc n)))) past
      (one_and (IsMade a (a + 1 + n)) (made_section sheet values a)
      (filter_map (made_section sheet values) (range_with_len (a + 1) n))
      (made_head a n (omega arith) (made_section sheet values a) refl)
      (all_weaker (IsMade (a + 1) (a + 1 + n)) (IsMade a (a + 1 + n)) (made_later a n)
      (filter_map (made_section sheet values) (range_with_len (a + 1) n)) (made_all n (a + 1) (omega arith))))

  -- names that are made of two indices
  names_apart : (i j : ℕ) → i < 0x10000 → j < 0x10000 → (i ≡ j → ⊥) → same (values_name i) (values_name j) ≡ false
  names_apart i j low high apart = untrue (same (values_name i) (values_name j))
      (λ h. apart (same_Some i j (sym (named_back i low) ∙ values_named_same (values_name i) (values_name j) h
      ∙ named_back j high)))

  head_apart : (a n : ℕ) → a + 1 + n ≤ 0x10000 → (s : Section) → s.name ≡ values_name a → (t : Section)
      → IsMade (a + 1) (a + 1 + n) t → same_name s t ≡ false
  head_apart a n low s is t h =
      ap (λ k. same k t.name) is ∙ ap (λ k. same (values_name a) k) h.named
      ∙ names_apart a h.index (omega arith) (omega (arith, h.below)) (λ e. omega (arith, h.from))

  cons_apart : (a n : ℕ) → a + 1 + n ≤ 0x10000 → (o : Option Section) → made_section sheet values a ≡ o
      → (xs : List Section) → AllByRecursion (IsMade (a + 1) (a + 1 + n)) xs → AreApart same_name xs
      → AreApart same_name (cons_option o xs)
  cons_apart a n low None e xs all h = h
  cons_apart a n low (Some s) e xs all h = (
    all_weaker (IsMade (a + 1) (a + 1 + n)) (λ t. same_name s t ≡ false)
        (head_apart a n low s (made_one a s (omega arith) e).0) xs all,
    h,
  )

  made_apart : (n a : ℕ) → a + n ≤ 0x10000
      → AreApart same_name (filter_map (made_section sheet values) (range_with_len a n))
  made_apart zero a low = tt
  made_apart (suc n) a low =
      cons_apart a n (omega arith) (made_section sheet values a) refl (filter_map (made_section sheet values)
      (range_with_len (a + 1) n)) (made_all n (a + 1) (omega arith)) (made_apart n (a + 1) (omega arith))

  -- a section that stands has no name that is made
  none_named : (index : ℕ) (xs : List Section) → find (λ s. is_index index (values_named s.name)) xs ≡ None
      → AllByRecursion (λ s. is_index index (values_named s.name) ≡ false) xs
  none_named index [] e = tt
  none_named index (x ∷ xs) e = by (is_index index (values_named x.name)) refl e (none_named index xs)
    where
      by : (t : Bool) → is_index index (values_named x.name) ≡ t
          → cond t (Some x) (find (λ s. is_index index (values_named s.name)) xs) ≡ None
          → (find (λ s. is_index index (values_named s.name)) xs ≡ None
          → AllByRecursion (λ s. is_index index (values_named s.name) ≡ false) xs)
          → AllByRecursion (λ s. is_index index (values_named s.name) ≡ false) (x ∷ xs)
      by true h e rest = absurd (cc)
      by false h e rest = (h, rest e)

  stands_apart : (index : ℕ) → index < 0x10000 → (s : Section) → is_index index (values_named s.name) ≡ false
      → same s.name (values_name index) ≡ false
  stands_apart index low s other =
      untrue (same s.name (values_name index))
      (λ h. false≢true (sym other ∙ ap (is_index index)
      (values_named_same s.name (values_name index) h ∙ named_back index low) ∙ eq-eqb index index refl))

  from_made : (m : Section) → IsMade 0 0x10000 m → AllByRecursion (λ s. same_name s m ≡ false) sheet.sections
  unfolding values_section
  from_made m h =
      all_weaker (λ s. is_index h.index (values_named s.name) ≡ false) (λ s. same_name s m ≡ false)
      (λ s other. ap (same s.name) h.named ∙ stands_apart h.index h.below s other)
      sheet.sections (none_named h.index sheet.sections h.new)

all_swap : {X Y : Type 0} (R : X → Y → Type 0) (xs : List X) (ys : List Y)
    → AllByRecursion (λ y. AllByRecursion (λ x. R x y) xs) ys → AllByRecursion (λ x. AllByRecursion (R x) ys) xs
all_swap R [] ys h = tt
all_swap R (x ∷ xs) ys h = (
  all_weaker (λ y. AllByRecursion (λ x. R x y) (x ∷ xs)) (R x) (λ y all. all.0) ys h,
  all_swap R xs ys (all_weaker (λ y. AllByRecursion (λ x. R x y) (x ∷ xs)) (λ y. AllByRecursion (λ x. R x y) xs)
      (λ y all. all.1) ys h),
)

-- ---- the node's section

pub found_all : {X : Type 0} (P : X → Type 0) (p : X → Bool) (xs : List X) → AllByRecursion P xs → IfSome (find p xs) P
found_all P p [] h = tt
found_all {X} P p (x ∷ xs) h = by (p x) (found_all P p xs h.1)
  where
    by : (t : Bool) → IfSome (find p xs) P → IfSome (cond t (Some x) (find p xs)) P
    by true rest = h.0
    by false rest = rest

named_sound : (ss : List Section) → AllByRecursion IsPrintableSection ss → (name : List ℕ)
    → AreSound (pairs_named ss name)
named_sound ss all name = by (find (λ s. same name s.name) ss)
    (found_all IsPrintableSection (λ s. same name s.name) ss all)
  where
    by : (o : Option Section) → IfSome o IsPrintableSection → AreSound (option_map_or (λ s. s.pairs) o [])
    by None h = record { each = tt; apart = tt }
    by (Some s) h = record { each = h.pairs; apart = h.apart }

node_sound : (node : ℕ) (label : List ℕ) (bitrate : ℕ) → IsValue label → AreSound (node_pairs node label bitrate)
node_sound node label bitrate v = record {
  each = (
    set_pair (codes "NodeID") (decimal node) node_key refl (decimal_value node),
    (
      set_pair (codes "NodeName") label node_name_key refl v,
      (set_pair (codes "Baudrate") (decimal bitrate) rate_key refl (decimal_value bitrate), tt),
    ),
  );
  apart = ((refl, (refl, tt)), ((refl, tt), (tt, tt)));
}

others_kept : (ps : List Pair) → AllByRecursion (λ q. is_set_anew q.key ≡ false) (others ps)
others_kept ps = all_weaker (λ q. not (is_set_anew q.key) ≡ true) (λ q. is_set_anew q.key ≡ false)
    (λ q h. not-true (is_set_anew q.key) h) (others ps) (all_pass (λ p. not (is_set_anew p.key)) ps)

beside_kept : (first ps : List Pair) → AllByRecursion (λ q. (is_set_anew q.key ≡ false)
    × (is_none (value_at first q.key) ≡ true)) (others_beside first ps)
beside_kept first ps =
    all_weaker (λ q. (not (is_set_anew q.key) && is_none (value_at first q.key)) ≡ true)
    (λ q. (is_set_anew q.key ≡ false) × (is_none (value_at first q.key) ≡ true))
    (λ q h. let both = and_parts (not (is_set_anew q.key)) (is_none (value_at first q.key)) h
    in (not-true (is_set_anew q.key) both.0, both.1))
    (others_beside first ps) (all_pass (λ p. not (is_set_anew p.key) && is_none (value_at first p.key)) ps)

anew_apart : (node : ℕ) (label : List ℕ) (bitrate : ℕ) (q : Pair) → is_set_anew q.key ≡ false
    → AllByRecursion (λ p. same_key p q ≡ false) (node_pairs node label bitrate)
anew_apart node label bitrate q h =
    let last = or_parts (same (codes "NodeID") q.key || same (codes "NodeName") q.key) (same (codes "Baudrate") q.key) h
    in
    let first = or_parts (same (codes "NodeID") q.key) (same (codes "NodeName") q.key) last.0 in
    (first.0, (first.1, (last.1, tt)))

not_there : (ps : List Pair) (key : List ℕ) → is_none (value_at ps key) ≡ true
    → AllByRecursion (λ p. same p.key key ≡ false) ps
not_there [] key h = tt
not_there (p ∷ ps) key h = by (same key p.key) refl h (not_there ps key)
  where
    by : (t : Bool) → same key p.key ≡ t → is_none (cond t (Some p.value) (value_at ps key)) ≡ true
        → (is_none (value_at ps key) ≡ true → AllByRecursion (λ p. same p.key key ≡ false) ps)
        → AllByRecursion (λ p. same p.key key ≡ false) (p ∷ ps)
    by true e h rest = absurd (false≢true h)
    by false e h rest = (same_sym p.key key ∙ e, rest h)

rest_sound : (first second : List Pair) → AreSound first → AreSound second
    → AreSound (others first ++ others_beside first second)
rest_sound first second h g =
    sound_append (others first) (others_beside first second) (sound_filter (λ p. not (is_set_anew p.key)) first h)
    (sound_filter (λ p. not (is_set_anew p.key) && is_none (value_at first p.key)) second g)
    (all_swap (λ p q. same_key p q ≡ false) (others first) (others_beside first second)
    (all_weaker (λ q. (is_set_anew q.key ≡ false) × (is_none (value_at first q.key) ≡ true))
    (λ q. AllByRecursion (λ p. same_key p q ≡ false) (others first))
    (λ q kept. all_filter (λ p. same_key p q ≡ false)
    (λ p. not (is_set_anew p.key)) first (not_there first q.key kept.1))
    (others_beside first second) (beside_kept first second)))

node_rest_sound : (node : ℕ) (label : List ℕ) (bitrate : ℕ) → IsValue label → (first second : List Pair)
    → AreSound first → AreSound second
    → AreSound (node_pairs node label bitrate ++ (others first ++ others_beside first second))
node_rest_sound node label bitrate v first second h g =
    sound_append (node_pairs node label bitrate) (others first ++ others_beside first second)
    (node_sound node label bitrate v) (rest_sound first second h g)
    (all_swap (λ p q. same_key p q ≡ false) (node_pairs node label bitrate) (others first ++ others_beside first second)
    (all_append (λ q. AllByRecursion (λ p. same_key p q ≡ false) (node_pairs node label bitrate)) (others first)
    (others_beside first second)
    (all_weaker (λ q. is_set_anew q.key ≡ false)
    (λ q. AllByRecursion (λ p. same_key p q ≡ false) (node_pairs node label bitrate))
    (anew_apart node label bitrate) (others first) (others_kept first))
    (all_weaker (λ q. (is_set_anew q.key ≡ false) × (is_none (value_at first q.key) ≡ true))
    (λ q. AllByRecursion (λ p. same_key p q ≡ false) (node_pairs node label bitrate))
    (λ q kept. anew_apart node label bitrate q kept.0) (others_beside first second) (beside_kept first second))))

first_spelling_is_name : IsName first_spelling
unfolding trim_line
first_spelling_is_name = record { some = lit< tt; trim = refl; on_one_line = refl; unclosed = refl }

commissioning_printable : (ss : List Section) (node : ℕ) (label : List ℕ) (bitrate : ℕ)
    → AllByRecursion IsPrintableSection ss → IsValue label → IsPrintableSection (commissioning ss node label bitrate)
unfolding commissioning
commissioning_printable ss node label bitrate all v =
    let sound = node_rest_sound node label bitrate v (pairs_named ss first_spelling) (pairs_named ss second_spelling)
    (named_sound ss all first_spelling) (named_sound ss all second_spelling) in
    record { name = first_spelling_is_name; pairs = sound.each; apart = sound.apart }

commissioning_name : (ss : List Section) (node : ℕ) (label : List ℕ) (bitrate : ℕ)
    → (commissioning ss node label bitrate).name ≡ first_spelling
unfolding commissioning
commissioning_name ss node label bitrate = refl

-- ---- all sections

map_all : {X Y : Type 0} (P : Y → Type 0) (f : X → Y) (xs : List X) → AllByRecursion (λ x. P (f x)) xs
    → AllByRecursion P (map f xs)
map_all P f [] h = tt
map_all P f (x ∷ xs) h = (h.0, map_all P f xs h.1)

both_apart : (kept new : List Section) (last : Section)
    → AllByRecursion (λ s. AllByRecursion (λ m. same_name s m ≡ false) new) kept
    → AllByRecursion (λ s. same_name s last ≡ false) kept
    → AllByRecursion (λ s. AllByRecursion (λ t. same_name s t ≡ false) (new ++ last ∷ [])) kept
both_apart [] new last h g = tt
both_apart (s ∷ ss) new last h g = (
  all_append (λ t. same_name s t ≡ false) new (last ∷ []) h.0 (g.0, tt),
  both_apart ss new last h.1 g.1,
)

pub sections_printable : (sheet : Sheet) (node : ℕ) (label : List ℕ) (bitrate : ℕ)
    (values : ℕ × ℕ → Option (List ℕ)) → IsPrintable sheet.sections → IsValue label
    → ((place : ℕ × ℕ) → IfSome (values place) (λ bytes. IsValue (text_of_value (kind_at sheet place) bytes)))
    → IsPrintable (sections_with sheet node label bitrate values)
unfolding sections_with made_sections indices
sections_printable sheet node label bitrate values h v spelled =
    let kept : List Section = filter (λ s. not (is_commissioning s.name)) sheet.sections in
    let new : List Section = filter_map (made_section sheet values) (range_with_len 0 0x10000) in
    let last : Section = commissioning sheet.sections node label bitrate in
    let all_new : AllByRecursion (IsMade sheet values spelled 0 0x10000) new =
    made_all sheet values spelled 0x10000 0 (omega arith) in
    let named : last.name ≡ first_spelling = commissioning_name sheet.sections node label bitrate in
    let all_kept : AllByRecursion IsPrintableSection kept =
    all_filter IsPrintableSection (λ s. not (is_commissioning s.name)) sheet.sections h.each in
    let other_kept : AllByRecursion (λ s. same_name s last ≡ false) kept =
    all_weaker (λ s. not (is_commissioning s.name) ≡ true) (λ s. same_name s last ≡ false)
    (λ s is. ap (same s.name) named ∙ same_sym s.name first_spelling
    ∙ (or_parts (same first_spelling s.name) (same second_spelling s.name)
    (not-true (is_commissioning s.name) is)).0)
    kept (all_pass (λ s. not (is_commissioning s.name)) sheet.sections) in
    let other_new : AllByRecursion (λ s. same_name s last ≡ false) new =
    all_weaker (IsMade sheet values spelled 0 0x10000) (λ s. same_name s last ≡ false)
    (λ s is. ap (same s.name) named ∙ same_sym s.name first_spelling ∙ ap (same first_spelling) is.named
    ∙ not_the_node is.index) new all_new in
    let kept_new : AllByRecursion (λ s. AllByRecursion (λ m. same_name s m ≡ false) new) kept =
    all_filter (λ s. AllByRecursion (λ m. same_name s m ≡ false) new) (λ s. not (is_commissioning s.name))
    sheet.sections
    (all_swap (λ s m. same_name s m ≡ false) sheet.sections new (all_weaker (IsMade sheet values spelled 0 0x10000)
    (λ m. AllByRecursion (λ s. same_name s m ≡ false) sheet.sections) (from_made sheet values spelled) new all_new)) in
    record {
      each = all_append IsPrintableSection (map (with_values sheet values) kept) (new ++ last ∷ [])
          (all_with sheet values spelled kept all_kept)
          (all_append IsPrintableSection new (last ∷ [])
          (all_weaker (IsMade sheet values spelled 0 0x10000) IsPrintableSection (λ s is. is.printable) new all_new)
          (commissioning_printable sheet.sections node label bitrate h.each v, tt));
      apart = apart_append same_name (map (with_values sheet values) kept) (new ++ last ∷ [])
          (apart_map same_name (with_values sheet values)
          (λ s t. refl) kept (apart_filter same_name (λ s. not (is_commissioning s.name)) sheet.sections h.apart))
          (apart_append same_name new (last ∷ []) (made_apart sheet values spelled 0x10000 0 (omega arith)) (tt, tt)
          (all_weaker (λ s. same_name s last ≡ false) (λ s. AllByRecursion (λ t. same_name s t ≡ false) (last ∷ []))
          (λ s is. (is, tt)) new other_new))
          (map_all (λ s. AllByRecursion (λ t. same_name s t ≡ false) (new ++ last ∷ []))
          (with_values sheet values) kept (both_apart kept new last kept_new other_kept));
    }
