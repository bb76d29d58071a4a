-- The sections of an EDS stand in its DCF, but for the one that names the node, which is the DCF's own.
use Rattle.std.proofs.Common.{◌≡◌, ℕ, Bool, true, false, cond, not, List, [], ◌∷◌, ◌++◌, Contains, filter, filter_map}
use Rattle.std.proofs.Common.{length, map, Option, None, Some, refl, sym, ap, ◌∙◌, arith}
use Rattle.std.proofs.lemmas.Bool.{false≢true, not-true, or_from}
use Rattle.std.proofs.lemmas.List.{length-map}
use Rattle.std.proofs.lemmas.List.Elements.{All-contains, All-from_recursion, Contains-append_left}
use Rattle.std.proofs.lemmas.List.Elements.{Contains-append_right}
use Rattle.std.specs.Char.{to_ascii_lowercase}
use Rattle.std.specs.List.{AllByRecursion, cons_option}
use Rattle.concise_dcf.specs.declared.write.Write.{Write}
use Rattle.ini_text.proofs.NameLemmas.{same_folded}
use Rattle.ini_text.specs.Content.{Section, same, value_at, Pair}
use Rattle.eds_device.specs.Names.{values_named}
use Rattle.eds_device.specs.Sheets.{Sheet}
use Rattle.std.specs.Prelude.{codes}
use Rattle.eds_dcf.specs.Commissioning.{commissioning, is_commissioning, second_spelling}
use Rattle.eds_dcf.specs.Compact.{compact_object, is_decimal, made_section, values_name}
use Rattle.eds_dcf.specs.Dcf.{dcf_sections, indices, made_sections, sections_with, with_values}
use Rattle.eds_dcf.specs.Entries.{says_modelled}
use Rattle.eds_dcf.specs.Writes.{last_of}
use Rattle.eds_dcf.proofs.AlikeLemmas.{made_name}
use Rattle.eds_dcf.proofs.ApartLemmas.{all_append, all_pass, all_weaker}
use Rattle.eds_dcf.proofs.CompactLemmas.{others_there, untrue}
use Rattle.eds_dcf.proofs.EntryLemmas.{with_compact}
use Rattle.eds_dcf.proofs.NamedLemmas.{values_is_other}
use Rattle.eds_dcf.proofs.StandingLemmas.{no_parameter}
use Rattle.eds_dcf.proofs.ValuesNameLemmas.{not_the_node}

-- a name of values is no name of the node
made_is_none : (index : ℕ) → is_commissioning (values_name index) ≡ false
made_is_none index = or_from _ _ (not_the_node index) (untrue (same second_spelling (values_name index))
    (λ h. let long : length second_spelling ≡ length (values_name index) =
    sym (length-map second_spelling to_ascii_lowercase)
    ∙ ap length (same_folded second_spelling (values_name index) h)
    ∙ length-map (values_name index) to_ascii_lowercase in absurd (omega arith)))

module _ (sheet : Sheet) (values : ℕ × ℕ → Option (List ℕ)) where
  abbrev kept : List Section → List Section
  kept xs = map (with_values sheet values) (filter (λ s. not (is_commissioning s.name)) xs)

  -- a section that doesn't name the node is among those of a DCF, with its values
  abbrev StandsIn : List Section → Section → Type 0
  StandsIn dcf s = is_commissioning s.name ≡ false → Contains dcf (with_values sheet values s)

  all_stand : (xs : List Section) → AllByRecursion (StandsIn (kept xs)) xs
  all_stand [] = tt
  all_stand (x ∷ xs) = by (is_commissioning x.name) refl (all_stand xs)
    where
      by : (t : Bool) → is_commissioning x.name ≡ t → AllByRecursion (StandsIn (kept xs)) xs
          → AllByRecursion (StandsIn (map (with_values sheet values)
          (cond (not t) (x ∷ filter (λ s. not (is_commissioning s.name)) xs)
          (filter (λ s. not (is_commissioning s.name)) xs)))) (x ∷ xs)
      by true e rest = ((λ plain. absurd (false≢true (sym plain ∙ e))), rest)
      by false e rest = (
        (λ plain. (0, omega arith, refl)),
        all_weaker (StandsIn (kept xs)) (StandsIn (with_values sheet values x ∷ kept xs))
            (λ s h plain. Contains-append_right (with_values sheet values x ∷ []) (kept xs) (with_values sheet values s)
            (h plain)) xs rest,
      )

  module _ (node : ℕ) (label : List ℕ) (bitrate : ℕ) where
    abbrev last : Section
    last = commissioning sheet.sections node label bitrate

    stands_with : (s : Section) → Contains sheet.sections s → is_commissioning s.name ≡ false
        → Contains (sections_with sheet node label bitrate values) (with_values sheet values s)
    unfolding sections_with
    stands_with s there plain =
        let held = kept sheet.sections in
        Contains-append_left held (made_sections sheet values ++ last ∷ []) (with_values sheet values s)
        (All-contains (StandsIn held) sheet.sections s
        (All-from_recursion (StandsIn held) sheet.sections (all_stand sheet.sections)) there plain)

    -- a section that names the node is the DCF's own
    abbrev IsOwn : Section → Type 0
    IsOwn t = is_commissioning t.name ≡ true → t ≡ last

    not_own : (t : Section) → is_commissioning t.name ≡ false → IsOwn t
    not_own t plain named = absurd (false≢true (sym plain ∙ named))

    kept_own : (xs : List Section) → AllByRecursion (λ s. not (is_commissioning s.name) ≡ true) xs
        → AllByRecursion IsOwn (map (with_values sheet values) xs)
    kept_own [] h = tt
    kept_own (x ∷ xs) h =
        (not_own (with_values sheet values x) (not-true (is_commissioning x.name) h.0), kept_own xs h.1)

    made_own : (xs : List ℕ) → AllByRecursion IsOwn (filter_map (made_section sheet values) xs)
    made_own [] = tt
    made_own (x ∷ xs) = by (made_section sheet values x) refl (made_own xs)
      where
        by : (o : Option Section) → made_section sheet values x ≡ o
            → AllByRecursion IsOwn (filter_map (made_section sheet values) xs)
            → AllByRecursion IsOwn (cons_option o (filter_map (made_section sheet values) xs))
        by None e rest = rest
        by (Some s) e rest = (not_own s (ap is_commissioning (made_name sheet values x s e) ∙ made_is_none x), rest)

    own_with : (t : Section) → Contains (sections_with sheet node label bitrate values) t → IsOwn t
    unfolding sections_with made_sections
    own_with t there =
        let held : List Section = filter (λ s. not (is_commissioning s.name)) sheet.sections in
        let new : List Section = filter_map (made_section sheet values) indices in
        let whole : List Section = map (with_values sheet values) held ++ (new ++ last ∷ []) in
        let each : AllByRecursion IsOwn whole =
        all_append IsOwn (map (with_values sheet values) held) (new ++ last ∷ [])
        (kept_own held (all_pass (λ s. not (is_commissioning s.name)) sheet.sections))
        (all_append IsOwn new (last ∷ []) (made_own indices) ((λ named. refl), tt)) in
        All-contains IsOwn whole t (All-from_recursion IsOwn whole each) there

module _ (sheet : Sheet) (node : ℕ) (name : List ℕ) (bitrate : ℕ) (writes : List Write) where
  pub section_kept : (s : Section) → Contains sheet.sections s → is_commissioning s.name ≡ false
      → Contains (dcf_sections sheet node name bitrate writes) (with_values sheet (last_of writes) s)
  unfolding dcf_sections
  section_kept s there plain = stands_with sheet (last_of writes) node name bitrate s there plain

  pub section_of_node : (t : Section) → Contains (dcf_sections sheet node name bitrate writes) t
      → is_commissioning t.name ≡ true → t ≡ commissioning sheet.sections node name bitrate
  unfolding dcf_sections
  section_of_node t there named = own_with sheet (last_of writes) node name bitrate t there named

-- the keys of a section of values that are no numbers
pub values_kept : (sheet : Sheet) (values : ℕ × ℕ → Option (List ℕ)) (s : Section) (index : ℕ) (object : Section)
    (highest : ℕ) (key : List ℕ) → values_named s.name ≡ Some index
    → compact_object sheet index ≡ Some (object, highest)
    → says_modelled sheet object ≡ true → is_decimal key ≡ false → same (codes "NrOfEntries") key ≡ false
    → value_at (with_values sheet values s).pairs key ≡ value_at s.pairs key
values_kept sheet values s index object highest key named is modelled plain other =
    let aside = values_is_other s.name index named in
    let none = no_parameter sheet s.name aside.no_place aside.no_index in
    ap (λ (ps : List Pair). value_at ps key) (sym (with_compact sheet values s index none named))
    ∙ others_there sheet values index object highest s.pairs key is modelled plain other
