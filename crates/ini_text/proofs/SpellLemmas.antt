-- The lines of printed sections, and what they mean.
use Rattle.std.proofs.Common.{◌≡◌, ℕ, ◌<◌, false, List, [], ◌∷◌, ◌++◌, map, reverse, length, eqb, Some, refl, ap, ◌∙◌}
use Rattle.std.proofs.Common.{sym, subst, append_assoc, arith}
use Rattle.std.specs.List.{flat_map, onto_first, AllByRecursion}
use Rattle.std.specs.Option.{option_and_then}
use Rattle.std.proofs.lemmas.List.{map-append, reverse-append}
use Rattle.ini_text.specs.Text.{trim_line, lines_of, without_mark}
use Rattle.ini_text.specs.Line.{Line, header, pair, unless_empty, header_name, key_value, pair_or_other, header_or}
use Rattle.ini_text.specs.Line.{meaning, line_of}
use Rattle.ini_text.specs.Content.{Pair, Section, line_list}
use Rattle.ini_text.specs.Change.{pair_text, section_text, text_of}
use Rattle.ini_text.specs.Printable.{has_byte, begins_with, IsName, IsKey, IsValue, IsPrintablePair, IsPrintableSection}
use Rattle.ini_text.proofs.KeyedLemmas.{or_false_left, or_false_right}
use Rattle.ini_text.proofs.BytesLemmas.{IsSharp, trimmed_sharp, sharp_if_trim, sharp_end_if_trim, split_once_at}
use Rattle.ini_text.proofs.BytesLemmas.{none_append, parts}

-- a line ends at its LF
lines_of-line : (bs rest : List ℕ) → has_byte 10 bs ≡ false → lines_of (bs ++ 10 ∷ rest) ≡ bs ∷ lines_of rest
unfolding lines_of
lines_of-line [] rest h = refl
lines_of-line (b ∷ bs) rest h =
    rw (or_false_left (eqb b 10) (has_byte 10 bs) h)
    (ap (onto_first b) (lines_of-line bs rest (or_false_right (eqb b 10) (has_byte 10 bs) h)))

-- the line of a pair, and of a header
abbrev pub pair_line : Pair → List ℕ
pair_line p = p.key ++ 61 ∷ p.value

abbrev pub header_line : List ℕ → List ℕ
header_line name = 91 ∷ name ++ 93 ∷ []

abbrev pub lines_in : Section → List (List ℕ)
lines_in s = header_line s.name ∷ map pair_line s.pairs

-- and what they mean
abbrev pub pair_of : Pair → Line
pair_of p = pair p.key p.value

abbrev pub spelled : Section → List Line
spelled s = header s.name ∷ map pair_of s.pairs

lines_of-pair : (p : Pair) (rest : List ℕ) → IsPrintablePair p
    → lines_of (pair_text p ++ rest) ≡ pair_line p ∷ lines_of rest
lines_of-pair p rest h =
    let same_text : pair_text p ++ rest ≡ pair_line p ++ 10 ∷ rest = simp append_assoc in
    ap lines_of same_text
    ∙ lines_of-line (pair_line p) rest (none_append (λ c. eqb c 10) p.key (61
    ∷ p.value) h.key.on_one_line h.value.on_one_line)

lines_of-pairs : (ps : List Pair) (rest : List ℕ) → AllByRecursion IsPrintablePair ps
    → lines_of (flat_map pair_text ps ++ rest) ≡ map pair_line ps ++ lines_of rest
lines_of-pairs [] rest h = refl
lines_of-pairs (p ∷ ps) rest h =
    ap lines_of (append_assoc (pair_text p) (flat_map pair_text ps) rest)
    ∙ lines_of-pair p (flat_map pair_text ps ++ rest) h.0
    ∙ ap (λ ls. pair_line p ∷ ls) (lines_of-pairs ps rest h.1)

lines_of-section : (s : Section) (rest : List ℕ) → IsPrintableSection s
    → lines_of (section_text s ++ rest) ≡ lines_in s ++ lines_of rest
lines_of-section s rest h =
    let same_text : section_text s ++ rest ≡ header_line s.name ++ 10 ∷ (flat_map pair_text s.pairs ++ rest) =
    simp append_assoc in
    let one_line : has_byte 10 (header_line s.name)
    ≡ false = none_append (λ c. eqb c 10) s.name (93 ∷ []) h.name.on_one_line refl in
    ap lines_of same_text
    ∙ lines_of-line (header_line s.name) (flat_map pair_text s.pairs ++ rest) one_line
    ∙ ap (λ ls. header_line s.name ∷ ls) (lines_of-pairs s.pairs rest h.pairs)

lines_of-sections : (ss : List Section) → AllByRecursion IsPrintableSection ss
    → lines_of (text_of ss) ≡ flat_map lines_in ss
unfolding lines_of
lines_of-sections [] h = refl
lines_of-sections (s ∷ ss) h = lines_of-section s (text_of ss) h.0
    ∙ ap (λ ls. lines_in s ++ ls) (lines_of-sections ss h.1)

-- a printed text begins with no byte order mark
no_mark : (ss : List Section) → without_mark (text_of ss) ≡ text_of ss
no_mark [] = refl
no_mark (s ∷ ss) = refl

sharp_closed : (name : List ℕ) → IsSharp (reverse (header_line name))
sharp_closed name = subst IsSharp (sym (reverse-append (91 ∷ name) (93 ∷ []))) refl

some_stays : (bs : List ℕ) → 0 < length bs → unless_empty bs ≡ Some bs
some_stays [] h = absurd (omega arith)
some_stays (b ∷ bs) h = refl

line_of-header : (name : List ℕ) → IsName name → line_of (header_line name) ≡ header name
unfolding line_of header_name
line_of-header name h =
    ap meaning (trimmed_sharp (header_line name) refl (sharp_closed name))
    ∙ ap (λ o. header_or (option_and_then (λ (p : List ℕ × List ℕ). unless_empty (trim_line p.0)) o)
    (pair_or_other (key_value (header_line name)))) (split_once_at 93 name [] refl h.unclosed)
    ∙ ap (λ o. header_or o (pair_or_other (key_value (header_line name))))
    (ap unless_empty h.trim ∙ some_stays name h.some)

sharp_line : (key rest : List ℕ) → 0 < length key → IsSharp key → IsSharp (key ++ rest)
sharp_line [] rest some h = absurd (omega arith)
sharp_line (b ∷ bs) rest some h = h

sharp_line_end : (key value : List ℕ) → IsSharp (reverse value) → IsSharp (reverse (key ++ 61 ∷ value))
sharp_line_end key value h =
    let e : reverse (key ++ 61 ∷ value) ≡ reverse value ++ 61 ∷ reverse key = reverse-append key (61 ∷ value)
    ∙ ap (λ xs. xs ++ reverse key) (reverse-append (61 ∷ []) value)
    ∙ append_assoc (reverse value) (61 ∷ []) (reverse key) in
    subst IsSharp (sym e) (by (reverse value) h)
  where
    by : (xs : List ℕ) → IsSharp xs → IsSharp (xs ++ 61 ∷ reverse key)
    by [] h = refl
    by (x ∷ xs) h = h

key_value-line : (key value : List ℕ) → IsKey key → IsValue value
    → key_value (key ++ 61 ∷ value) ≡ Some (parts key value)
unfolding key_value
key_value-line key value k v =
    ap (option_and_then (λ (p : List ℕ × List ℕ). option_and_then (λ k. Some (parts k (trim_line p.1)))
    (unless_empty (trim_line p.0)))) (split_once_at 61 key value refl k.unequal)
    ∙ ap (option_and_then (λ k. Some (parts k (trim_line value)))) (ap unless_empty k.trim ∙ some_stays key k.some)
    ∙ ap (λ v. Some (parts key v)) v.trim

no_comment_line : (key rest : List ℕ) → 0 < length key → begins_with 59 key ≡ false
    → meaning (key ++ rest) ≡ header_or (header_name (key ++ rest)) (pair_or_other (key_value (key ++ rest)))
no_comment_line [] rest some h = absurd (omega arith)
no_comment_line (b ∷ bs) rest some h = rw h refl

line_of-pair : (p : Pair) → IsPrintablePair p → line_of (pair_line p) ≡ pair_of p
unfolding line_of
line_of-pair p h =
    ap meaning (trimmed_sharp (pair_line p)
    (sharp_line p.key (61 ∷ p.value) h.key.some (sharp_if_trim p.key h.key.trim))
    (sharp_line_end p.key p.value (sharp_end_if_trim p.value h.value.trim)))
    ∙ no_comment_line p.key (61 ∷ p.value) h.key.some h.key.no_comment
    ∙ ap (λ o. header_or o (pair_or_other (key_value (pair_line p)))) h.no_header
    ∙ ap pair_or_other (key_value-line p.key p.value h.key h.value)

meanings-pairs : (ps : List Pair) → AllByRecursion IsPrintablePair ps → map line_of (map pair_line ps) ≡ map pair_of ps
meanings-pairs [] h = refl
meanings-pairs (p ∷ ps) h = λ i. line_of-pair p h.0 i ∷ meanings-pairs ps h.1 i

meanings : (ss : List Section) → AllByRecursion IsPrintableSection ss
    → map line_of (flat_map lines_in ss) ≡ flat_map spelled ss
meanings [] h = refl
meanings (s ∷ ss) h =
    map-append line_of (lines_in s) (flat_map lines_in ss)
    ∙ (λ i. (line_of-header s.name h.0.name i ∷ meanings-pairs s.pairs h.0.pairs i) ++ meanings ss h.1 i)

-- the lines that a printed text is read as
pub printed_lines : (ss : List Section) → AllByRecursion IsPrintableSection ss
    → line_list (without_mark (text_of ss)) ≡ flat_map spelled ss
printed_lines ss h = ap line_list (no_mark ss) ∙ ap (map line_of) (lines_of-sections ss h) ∙ meanings ss h
