-- Texts of sections, piece by piece.
use Rattle.std.proofs.Common.{◌≡◌, ◌==◌, ℕ, ◌+◌, ◌<◌, ◌≤◌, Bool, false, cond, codes, decimal, List, [], ◌∷◌, ◌++◌}
use Rattle.std.proofs.Common.{length, get_or, take, Option, None, Some, filter_map, option_to_list}
use Rattle.std.proofs.Common.{refl, sym, ap, ◌∙◌, append_assoc, append-nil, add-one}
use Rattle.std.proofs.lemmas.Bool.{ne_eqb}
use Rattle.std.proofs.lemmas.List.{take_all, take_more}
use Rattle.std.proofs.lemmas.List.Concat.{flat_map-append}
use Rattle.std.proofs.lemmas.List.Elements.{filter_map-append}
use Rattle.std.specs.List.{cons_option, flat_map}
use Rattle.std.specs.Str.{byte}
use Rattle.ini_text.specs.Content.{Pair, Section}
use Rattle.ini_text.specs.Change.{pair_text, section_text, text_of}
use Rattle.eds_device.specs.Places.{first_subs, pairs_of}
use Rattle.eds_device.specs.Sheets.{Sheet}
use Rattle.eds_dcf.specs.Commissioning.{commissioning, first_spelling, node_pairs, others}
use Rattle.eds_dcf.specs.Commissioning.{others_beside, pairs_named, second_spelling}
use Rattle.eds_dcf.specs.Compact.{made_section, new_values, value_pair, values_name, values_set}
use Rattle.eds_dcf.specs.Dcf.{made_sections}
use Rattle.eds_dcf.proofs.MadeLemmas.{at_first, walk_makes}

-- a section is its name, and then its pairs
pub begun : (name : List ℕ) (pairs : List Pair)
    → section_text (record { name = name; pairs = [] }) ++ flat_map pair_text pairs
    ≡ section_text (record { name = name; pairs = pairs })
begun name pairs = append_assoc (byte "[" ∷ name) (byte "]" ∷ 10 ∷ []) (flat_map pair_text pairs)

pub begun_after : (out : List ℕ) (name : List ℕ) (pairs : List Pair)
    → (out ++ section_text (record { name = name; pairs = [] })) ++ flat_map pair_text pairs
    ≡ out ++ section_text (record { name = name; pairs = pairs })
begun_after out name pairs = append_assoc out (section_text (record { name = name; pairs = [] }))
    (flat_map pair_text pairs) ∙ ap (λ t. out ++ t) (begun name pairs)

-- pairs in two parts
pub two_parts : (out : List ℕ) (name : List ℕ) (ps qs : List Pair) (a b c : List ℕ)
    → a ≡ out ++ section_text (record { name = name; pairs = [] }) → b ≡ a ++ flat_map pair_text ps
    → c ≡ b ++ flat_map pair_text qs
    → c ≡ out ++ section_text (record { name = name; pairs = ps ++ qs })
two_parts out name ps qs a b c ha hb hc =
    hc ∙ ap (λ t. t ++ flat_map pair_text qs) hb ∙ append_assoc a (flat_map pair_text ps) (flat_map pair_text qs)
    ∙ ap (λ t. a ++ t) (sym (flat_map-append pair_text ps qs))
    ∙ ap (λ t. t ++ flat_map pair_text (ps ++ qs)) ha
    ∙ begun_after out name (ps ++ qs)

-- the section of the node
pub node_text : (ss : List Section) (node : ℕ) (label : List ℕ) (bitrate : ℕ) (out a b c d : List ℕ)
    (shown first second : List Pair)
    → shown ≡ pairs_named ss first_spelling → first ≡ pairs_named ss first_spelling
    → second ≡ pairs_named ss second_spelling
    → a ≡ out ++ section_text (record { name = first_spelling; pairs = [] })
    → b ≡ a ++ flat_map pair_text (node_pairs node label bitrate)
    → c ≡ b ++ flat_map pair_text (others shown)
    → d ≡ c ++ flat_map pair_text (others_beside first second)
    → d ≡ out ++ section_text (commissioning ss node label bitrate)
unfolding commissioning
node_text ss node label bitrate out a b c d shown first second es ef eg ha hb hc hd =
    let rest : d ≡ b ++ flat_map pair_text (others shown ++ others_beside first second) =
    hd ∙ ap (λ t. t ++ flat_map pair_text (others_beside first second)) hc
    ∙ append_assoc b (flat_map pair_text (others shown)) (flat_map pair_text (others_beside first second))
    ∙ ap (λ t. b ++ t) (sym (flat_map-append pair_text (others shown) (others_beside first second))) in
    two_parts out first_spelling (node_pairs node label bitrate)
    (others shown ++ others_beside first second) a b d ha hb rest
    ∙ ap (λ ps. out ++ section_text (record { name = first_spelling; pairs = node_pairs node label bitrate ++ ps }))
    (ap (λ ps. others ps ++ others_beside first second) es
    ∙ ap (λ ps. others (pairs_named ss first_spelling) ++ others_beside ps second) ef
    ∙ ap (λ ps. others (pairs_named ss first_spelling) ++ others_beside (pairs_named ss first_spelling) ps) eg)

last_is : {X : Type 0} (o : Option X) → cons_option o [] ≡ option_to_list o
last_is None = refl
last_is (Some x) = refl

module _ {X Y : Type 0} (h : X → Option Y) where
  -- one more element gives one more or none
  pub filter_map-push : (xs : List X) (x : X) → filter_map h (xs ++ x ∷ []) ≡ filter_map h xs ++ option_to_list (h x)
  filter_map-push xs x = filter_map-append h xs (x ∷ []) ∙ ap (λ ys. filter_map h xs ++ ys) (last_is (h x))

-- one more sub
pub set_more : (h : ℕ × ℕ → Option Pair) (index n : ℕ) (items after : List Pair) (o : Option Pair)
    → items ≡ filter_map h (first_subs index n) → o ≡ h (index, n) → after ≡ items ++ option_to_list o
    → after ≡ filter_map h (first_subs index (n + 1))
set_more h index n items after o e is ha =
    ha ∙ ap (λ t. t ++ option_to_list o) e ∙ ap (λ p. filter_map h (first_subs index n) ++ option_to_list p) is
    ∙ sym (ap (λ m. filter_map h (first_subs index m)) (add-one n) ∙ filter_map-push h (first_subs index n) (index, n))

pub set_whole : (sheet : Sheet) (values : ℕ × ℕ → Option (List ℕ)) (index n highest : ℕ) (items : List Pair)
    → items ≡ filter_map (value_pair sheet values) (first_subs index n) → n ≡ highest + 1
    → items ≡ values_set sheet values index highest
unfolding values_set
set_whole sheet values index n highest items e is =
    e ∙ ap (λ m. filter_map (value_pair sheet values) (first_subs index m)) is

-- one more entry of which a section may be made
pub made_more : (h : ℕ → Option Section) (ps : List (ℕ × ℕ)) (i : ℕ) (d : ℕ × ℕ) (start before after : List ℕ)
    → i < length ps
    → before ≡ start ++ text_of (filter_map (at_first h) (take i ps))
    → after ≡ before ++ flat_map section_text (option_to_list (at_first h (get_or ps i d)))
    → after ≡ start ++ text_of (filter_map (at_first h) (take (i + 1) ps))
made_more h ps i d start before after within e ha =
    ha ∙ ap (λ t. t ++ text_of (option_to_list (at_first h (get_or ps i d)))) e
    ∙ append_assoc start (text_of (filter_map (at_first h) (take i ps)))
    (text_of (option_to_list (at_first h (get_or ps i d))))
    ∙ ap (λ t. start ++ t)
    (sym (flat_map-append section_text (filter_map (at_first h) (take i ps))
    (option_to_list (at_first h (get_or ps i d)))))
    ∙ ap (λ ys. start ++ text_of ys)
    (sym (ap (filter_map (at_first h)) (take_more ps i d within)
    ∙ filter_map-push (at_first h) (take i ps) (get_or ps i d)))

-- of an object's sub 0, and of another sub
pub made_here : (h : ℕ → Option Section) (place : ℕ × ℕ) (before after : List ℕ) → place.1 ≡ 0
    → after ≡ before ++ flat_map section_text (option_to_list (h place.0))
    → after ≡ before ++ flat_map section_text (option_to_list (at_first h place))
made_here h place before after zeroth is = is
    ∙ sym (ap (λ (n : ℕ). before ++ flat_map section_text (option_to_list (cond (n == 0) (h place.0) None))) zeroth)

pub made_aside : (h : ℕ → Option Section) (place : ℕ × ℕ) (before after : List ℕ) → (place.1 ≡ 0 → ⊥) → after ≡ before
    → after ≡ before ++ flat_map section_text (option_to_list (at_first h place))
made_aside h place before after other is =
    is ∙ sym (append-nil before)
    ∙ sym (ap (λ (t : Bool). before ++ flat_map section_text (option_to_list (cond t (h place.0) None)))
    (ne_eqb place.1 0 other))

-- all of them
pub made_whole : (sheet : Sheet) (values : ℕ × ℕ → Option (List ℕ)) (ps : List (ℕ × ℕ)) (i : ℕ) (start out : List ℕ)
    → ps ≡ pairs_of sheet.sections → length ps ≤ i
    → out ≡ start ++ text_of (filter_map (at_first (made_section sheet values)) (take i ps))
    → out ≡ start ++ text_of (made_sections sheet values)
made_whole sheet values ps i start out is past e =
    e ∙ ap (λ qs. start ++ text_of (filter_map (at_first (made_section sheet values)) qs)) (take_all i ps past ∙ is)
    ∙ ap (λ t. start ++ text_of t) (walk_makes sheet values)

-- nothing is added for none
pub nothing_more : (out : List ℕ) (o : Option Section) → o ≡ None
    → out ≡ out ++ flat_map section_text (option_to_list o)
nothing_more out o e = sym (append-nil out)
    ∙ ap (λ (p : Option Section). out ++ flat_map section_text (option_to_list p)) (sym e)

-- a new section of values
pub new_text : (index : ℕ) (set : List Pair) (name count : List ℕ) (out a b c : List ℕ) → (length set == 0) ≡ false
    → name ≡ values_name index → count ≡ decimal (length set)
    → a ≡ out ++ section_text (record { name = name; pairs = [] })
    → b ≡ a ++ pair_text (record { key = codes "NrOfEntries"; value = count }) → c ≡ b ++ flat_map pair_text set
    → c ≡ out ++ flat_map section_text (option_to_list (new_values index set))
new_text index set name count out a b c some is_name is_count ha hb hc =
    two_parts out name (record { key = codes "NrOfEntries"; value = count } ∷ []) set a b c ha (hb
    ∙ ap (λ t. a ++ t) (sym (append-nil (pair_text (record { key = codes "NrOfEntries"; value = count }))))) hc
    ∙ ap (λ n. out
    ++ section_text (record { name = n; pairs = record { key = codes "NrOfEntries"; value = count } ∷ set }))
    is_name
    ∙ ap (λ n. out
    ++ section_text (record {
      name = values_name index;
      pairs = record { key = codes "NrOfEntries"; value = n } ∷ set;
    })) is_count
    ∙ ap (λ t. out ++ t)
    (sym (append-nil (section_text (record {
      name = values_name index;
      pairs = record { key = codes "NrOfEntries"; value = decimal (length set) } ∷ set;
    }))))
    ∙ ap (λ (t : Bool). out
    ++ flat_map section_text (option_to_list
    (cond t None (Some (record {
      name = values_name index;
      pairs = record { key = codes "NrOfEntries"; value = decimal (length set) } ∷ set;
    }))))) (sym some)

-- sections in three parts
pub three_parts : (xs ys : List Section) (z : Section) (a b c : List ℕ) → a ≡ text_of xs → b ≡ a ++ text_of ys
    → c ≡ b ++ section_text z → c ≡ text_of (xs ++ (ys ++ z ∷ []))
three_parts xs ys z a b c ha hb hc =
    hc ∙ ap (λ t. t ++ section_text z) (hb ∙ ap (λ t. t ++ text_of ys) ha)
    ∙ append_assoc (text_of xs) (text_of ys) (section_text z)
    ∙ ap (λ t. text_of xs ++ (text_of ys ++ t)) (sym (append-nil (section_text z)))
    ∙ sym (flat_map-append section_text xs (ys ++ z ∷ [])
    ∙ ap (λ t. text_of xs ++ t) (flat_map-append section_text ys (z ∷ [])))
