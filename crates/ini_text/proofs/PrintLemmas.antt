-- What printed sections are read as.
use Rattle.std.proofs.Common.{◌≡◌, ℕ, ◌+◌, Bool, true, false, cond, not, ◌||◌, List, [], ◌∷◌, ◌++◌, map, filter, length}
use Rattle.std.proofs.Common.{None, Some, refl, ap, ◌∙◌, sym, subst, append_assoc}
use Rattle.std.specs.List.{list_any, flat_map, AllByRecursion}
use Rattle.std.specs.Option.{option_map_or}
use Rattle.ini_text.specs.Line.{Line, header}
use Rattle.ini_text.specs.Content.{Pair, Section, same, same_key, headers, pairs_under, firsts, section_of, sections_of}
use Rattle.ini_text.specs.Content.{last_header, gives_key, is_misused, is_warned, warned_after, warnings_of, content_of}
use Rattle.ini_text.specs.Change.{text_of}
use Rattle.ini_text.specs.Printable.{AreApart, same_name, IsPrintableSection, IsPrintable, UsesNoCompactPdo}
use Rattle.ini_text.proofs.NameLemmas.{append_nil, same_sym, same_refl}
use Rattle.ini_text.proofs.ContentLemmas.{here_after-last, headers-append, pairs_under-append, last_header-append}
use Rattle.ini_text.proofs.SpellLemmas.{pair_of, spelled, printed_lines}

module _ {X : Type 0} (e : X → X → Bool) where
  all_kept : (x : X) (xs : List X) → AllByRecursion (λ y. e x y ≡ false) xs → filter (λ y. not (e x y)) xs ≡ xs
  all_kept x [] h = refl
  all_kept x (y ∷ xs) h = rw h.0 (ap (λ ys. y ∷ ys) (all_kept x xs h.1))

  -- of elements that are apart each is a first one
  pub firsts_same : (xs : List X) → AreApart e xs → firsts e xs ≡ xs
  firsts_same [] h = refl
  firsts_same (x ∷ xs) h = ap (λ ys. x ∷ filter (λ y. not (e x y)) ys) (firsts_same xs h.1)
      ∙ ap (λ ys. x ∷ ys) (all_kept x xs h.0)

headers-pairs : (ps : List Pair) → headers (map pair_of ps) ≡ []
headers-pairs [] = refl
headers-pairs (p ∷ ps) = headers-pairs ps

headers-spelled : (ss : List Section) → headers (flat_map spelled ss) ≡ map (λ s. s.name) ss
headers-spelled [] = refl
headers-spelled (s ∷ ss) = ap (λ ns. s.name ∷ ns)
    (headers-append (map pair_of s.pairs) (flat_map spelled ss)
    ∙ (λ i. headers-pairs s.pairs i ++ headers-spelled ss i))

apart_names : (ss : List Section) → AreApart same_name ss → AreApart same (map (λ s. s.name) ss)
apart_names [] h = tt
apart_names (s ∷ ss) h = (all_names s.name ss h.0, apart_names ss h.1)
  where
    all_names : (n : List ℕ) (ss : List Section) → AllByRecursion (λ t. same n t.name ≡ false) ss
        → AllByRecursion (λ m. same n m ≡ false) (map (λ t. t.name) ss)
    all_names n [] h = tt
    all_names n (t ∷ ss) h = (h.0, all_names n ss h.1)

-- the pairs of the sections of a name
abbrev owned : List ℕ → List Section → List Pair
owned n ss = flat_map (λ s. cond (same n s.name) s.pairs []) ss

pairs_here : (n : List ℕ) (here : Bool) (ps : List Pair) (rest : List Line)
    → pairs_under n here (map pair_of ps ++ rest) ≡ cond here ps [] ++ pairs_under n here rest
pairs_here n true [] rest = refl
pairs_here n false [] rest = refl
pairs_here n true (p ∷ ps) rest = ap (λ qs. p ∷ qs) (pairs_here n true ps rest)
pairs_here n false (p ∷ ps) rest = pairs_here n false ps rest

pairs_under-spelled : (n : List ℕ) (here : Bool) (ss : List Section)
    → pairs_under n here (flat_map spelled ss) ≡ owned n ss
pairs_under-spelled n here [] = refl
pairs_under-spelled n here (s ∷ ss) = pairs_here n (same n s.name) s.pairs (flat_map spelled ss)
    ∙ ap (λ ps. cond (same n s.name) s.pairs [] ++ ps) (pairs_under-spelled n (same n s.name) ss)

none_owned : (n : List ℕ) (ss : List Section) → AllByRecursion (λ s. same n s.name ≡ false) ss → owned n ss ≡ []
none_owned n [] h = refl
none_owned n (s ∷ ss) h = rw h.0 (none_owned n ss h.1)

-- a section that is made of what a list of sections has under a name
abbrev made : List Section → List ℕ → Section
made ss n = record { name = n; pairs = firsts same_key (owned n ss) }

without_first : (s : Section) (all ss : List Section) → AllByRecursion (λ t. same s.name t.name ≡ false) ss
    → map (made (s ∷ all)) (map (λ t. t.name) ss) ≡ map (made all) (map (λ t. t.name) ss)
without_first s all [] h = refl
without_first s all (t ∷ ss) h =
    let e : same t.name s.name ≡ false = same_sym t.name s.name ∙ h.0 in
    let one : made (s ∷ all) t.name ≡ made all t.name =
    ap (λ u. record { name = t.name; pairs = firsts same_key (cond u s.pairs [] ++ owned t.name all) }) e in
    λ i. one i ∷ without_first s all ss h.1 i

made_again : (ss : List Section) → AllByRecursion IsPrintableSection ss → AreApart same_name ss
    → map (made ss) (map (λ s. s.name) ss) ≡ ss
made_again [] h a = refl
made_again (s ∷ ss) h a =
    let pairs_same : owned s.name (s ∷ ss) ≡ s.pairs =
    (λ i. cond (same_refl s.name i) s.pairs [] ++ none_owned s.name ss a.0 i) ∙ append_nil s.pairs in
    let one : made (s ∷ ss) s.name ≡ s = ap (λ ps. record { name = s.name; pairs = firsts same_key ps }) pairs_same
    ∙ ap (λ ps. record { name = s.name; pairs = ps }) (firsts_same same_key s.pairs h.0.apart) in
    λ i. one i ∷ (without_first s ss ss a.0 ∙ made_again ss h.1 a.1) i

map_along : {X Y : Type 0} (f g : X → Y) (xs : List X) → ((x : X) → f x ≡ g x) → map f xs ≡ map g xs
map_along f g [] h = refl
map_along f g (x ∷ xs) h = λ i. h x i ∷ map_along f g xs h i

sections_of-spelled : (ss : List Section) → AllByRecursion IsPrintableSection ss → AreApart same_name ss
    → sections_of (flat_map spelled ss) ≡ ss
unfolding sections_of
sections_of-spelled ss h a =
    ap (λ ns. map (section_of (flat_map spelled ss)) ns)
    (ap (firsts same) (headers-spelled ss) ∙ firsts_same same (map (λ s. s.name) ss) (apart_names ss a))
    ∙ map_along (section_of (flat_map spelled ss)) (made ss) (map (λ s. s.name) ss)
    (λ n. ap (λ ps. record { name = n; pairs = firsts same_key ps }) (pairs_under-spelled n false ss))
    ∙ made_again ss h a

-- printed sections are read as they are
pub sections_again : (ss : List Section) → IsPrintable ss → (content_of (text_of ss)).sections ≡ ss
unfolding content_of
sections_again ss h = ap sections_of (printed_lines ss h.each) ∙ sections_of-spelled ss h.each h.apart

-- no pair is equal to one before it
fresh : (done ps : List Pair) (p : Pair) → AreApart same_key (done ++ p ∷ ps)
    → list_any (λ q. same p.key q.key) done ≡ false
fresh [] ps p h = refl
fresh (d ∷ done) ps p h =
    let e : same p.key d.key ≡ false = same_sym p.key d.key ∙ in_middle done h.0 in
    rw e (fresh done ps p h.1)
  where
    in_middle : (done : List Pair) → AllByRecursion (λ q. same_key d q ≡ false) (done ++ p ∷ ps) → same_key d p ≡ false
    in_middle [] h = h.0
    in_middle (q ∷ done) h = in_middle done h.1

-- after some lines: the last header has the name, and the name's pairs are those done
record Reads (before : List Line) (name : List ℕ) (done : List Pair) : Type 0 where
  last : last_header before None ≡ Some name
  pairs : pairs_under name false before ≡ done

reads_more : (before : List Line) (name : List ℕ) (done : List Pair) (p : Pair) → Reads before name done
    → Reads (before ++ pair_of p ∷ []) name (done ++ p ∷ [])
reads_more before name done p r =
    let here = here_after-last name before None ∙ ap (λ o. option_map_or (same name) o false) r.last ∙ same_refl name in
    record {
      last = last_header-append before (pair_of p ∷ []) None ∙ r.last;
      pairs = pairs_under-append name false before (pair_of p ∷ [])
          ∙ (λ i. r.pairs i ++ pairs_under name (here i) (pair_of p ∷ []));
    }

quiet_pair : (before : List Line) (name : List ℕ) (done ps : List Pair) (p : Pair) → Reads before name done
    → AreApart same_key (done ++ p ∷ ps) → is_misused p.key p.value ≡ false → is_warned before (pair_of p) ≡ false
quiet_pair before name done ps p r a m =
    let new : gives_key before name p.key ≡ false = ap (list_any (λ q. same p.key q.key)) r.pairs ∙ fresh done ps p a in
    ap (λ o. option_map_or (λ name. gives_key before name p.key || is_misused p.key p.value) o true) r.last ∙ rw new m

quiet_pairs : (before : List Line) (name : List ℕ) (done ps : List Pair) (rest : List Line) → Reads before name done
    → AreApart same_key (done ++ ps) → AllByRecursion (λ p. is_misused p.key p.value ≡ false) ps
    → warned_after before (map pair_of ps ++ rest) ≡ warned_after (before ++ map pair_of ps) rest
quiet_pairs before name done [] rest r a m = ap (λ ls. warned_after ls rest) (sym (append_nil before))
quiet_pairs before name done (p ∷ ps) rest r a m =
    let tail = before ++ pair_of p ∷ [] in
    ap (λ t. cond t ((length before + 1) ∷ warned_after tail (map pair_of ps ++ rest))
    (warned_after tail (map pair_of ps ++ rest))) (quiet_pair before name done ps p r a m.0)
    ∙ quiet_pairs tail name (done ++ p ∷ []) ps rest (reads_more before name done p r)
    (subst (AreApart same_key) (sym (append_assoc done (p ∷ []) ps)) a) m.1
    ∙ ap (λ ls. warned_after ls rest) (append_assoc before (pair_of p ∷ []) (map pair_of ps))

-- no section is equal to one before it
other_names : (done ss : List Section) (s : Section) → AreApart same_name (done ++ s ∷ ss)
    → AllByRecursion (λ t. same s.name t.name ≡ false) done
other_names [] ss s h = tt
other_names (d ∷ done) ss s h = (same_sym s.name d.name ∙ in_middle done h.0, other_names done ss s h.1)
  where
    in_middle : (done : List Section) → AllByRecursion (λ q. same_name d q ≡ false) (done ++ s ∷ ss)
        → same_name d s ≡ false
    in_middle [] h = h.0
    in_middle (q ∷ done) h = in_middle done h.1

flat_map-push : {X Y : Type 0} (f : X → List Y) (xs : List X) (x : X) → flat_map f (xs ++ x ∷ []) ≡ flat_map f xs ++ f x
flat_map-push f [] x = append_nil (f x)
flat_map-push f (y ∷ xs) x = ap (λ ys. f y ++ ys) (flat_map-push f xs x)
    ∙ sym (append_assoc (f y) (flat_map f xs) (f x))

quiet_sections : (done ss : List Section) → AllByRecursion IsPrintableSection ss → AreApart same_name (done ++ ss)
    → UsesNoCompactPdo ss → warned_after (flat_map spelled done) (flat_map spelled ss) ≡ []
quiet_sections done [] h a m = refl
quiet_sections done (s ∷ ss) h a m =
    let before = flat_map spelled done ++ header s.name ∷ [] in
    let none : pairs_under s.name false (flat_map spelled done) ≡ [] = pairs_under-spelled s.name false done
    ∙ none_owned s.name done (other_names done ss s a) in
    let r : Reads before s.name [] = record {
      last = last_header-append (flat_map spelled done)
          (header s.name ∷ []) None;
      pairs = pairs_under-append s.name false (flat_map spelled done) (header s.name ∷ [])
          ∙ append_nil _ ∙ none;
    } in
    quiet_pairs before s.name [] s.pairs (flat_map spelled ss) r h.0.apart m.0
    ∙ ap (λ ls. warned_after ls (flat_map spelled ss))
    (append_assoc (flat_map spelled done) (header s.name ∷ []) (map pair_of s.pairs)
    ∙ sym (flat_map-push spelled done s))
    ∙ quiet_sections (done ++ s ∷ []) ss h.1 (subst (AreApart same_name) (sym (append_assoc done (s ∷ []) ss)) a) m.1

-- and no line is warned of, where CompactPDO is no other value than 0
pub no_warnings : (ss : List Section) → IsPrintable ss → UsesNoCompactPdo ss → (content_of (text_of ss)).warnings ≡ []
unfolding content_of warnings_of
no_warnings ss h m = ap warnings_of (printed_lines ss h.each) ∙ quiet_sections [] ss h.each h.apart m
