-- Names and texts of a project can stand in lines of INI text.
use Rattle.std.proofs.Common.{◌≡◌, ◌∙◌, ℕ, ◌+◌, ◌-◌, ◌==◌, ◌&&◌, not, ◌≤◌, Bool, true, false, cond, List, [], ◌∷◌, ◌++◌}
use Rattle.std.proofs.Common.{length, take, drop, reverse, refl, sym, ap, subst, arith, length-drop, append_assoc}
use Rattle.std.proofs.Common.{length-append, take_all}
use Rattle.std.specs.List.{flat_map, list_all, list_any, onto_first, prefix_len, suffix_len, AllByRecursion}
use Rattle.std.specs.Str.{byte, bytes_eq}
use Rattle.std.proofs.lemmas.Bool.{or_from, or_parts}
use Rattle.std.proofs.lemmas.Bool.Decides.{nat_tests}
use Rattle.std.proofs.lemmas.List.{length-take, reverse-append}
use Rattle.std.proofs.lemmas.List.Sums.{prefix_len-le-length, suffix_len-le-length}
use Rattle.std.proofs.lemmas.Slice.Eq.{bytes_eq-Decides}
use Rattle.base.specs.Ranges.{is_between}
use Rattle.base.specs.Blanks.{is_blank, trim_end, trim}
use Rattle.base.specs.Lines.{is_cr, lines_of}
use Rattle.project_edits.specs.Eds.{text_of as kept_text}
use Rattle.project_edits.specs.Forms.{is_control, is_name, is_name_byte, is_plain, is_text}
use Rattle.ini_text.specs.Text as ini
use Rattle.ini_text.specs.Change.{pair_text, section_text, text_of}
use Rattle.ini_text.specs.Content.{Pair, Section}
use Rattle.ini_text.specs.Printable.{has_byte, IsPrintablePair, IsPrintableSection, IsValue}
use Rattle.ini_text.proofs.BytesLemmas.{none_append, sharp_end_if_trim, trimmed_sharp, IsSharp}
use Rattle.eds_dcf.proofs.ByteLemmas.{IsGood, plain_good}
use Rattle.eds_dcf.proofs.LengthLemmas.{IsShortPair, IsShortSection}
use Rattle.eds_dcf.proofs.LineLemmas.{plain_value, IsPlain}
use Rattle.project_plan.proofs.ReadLengthLemmas.{short_line}

and_left : (a b : Bool) → (a && b) ≡ true → a ≡ true
and_left true b e = refl
and_left false b e = e

and_right : (a b : Bool) → (a && b) ≡ true → b ≡ true
and_right true b e = e
and_right false b e = cc

-- ---- names

plain_byte : (b : ℕ) → is_name_byte b ≡ true → byte "!" ≤ b
plain_byte b e = grind (arith, nat_tests)

plain_bytes : (bs : List ℕ) → list_all is_name_byte bs ≡ true → IsPlain bs
plain_bytes [] e = tt
plain_bytes (b ∷ bs) e = (
  plain_byte b (and_left (is_name_byte b) (list_all is_name_byte bs) e),
  plain_bytes bs (and_right (is_name_byte b) (list_all is_name_byte bs) e),
)

pub name_value : (name : List ℕ) → is_name name ≡ true → IsValue name
name_value name e =
    plain_value name (plain_bytes name (and_right (is_between 1 32 (length name)) (list_all is_name_byte name) e))

pub name_good : (name : List ℕ) → is_name name ≡ true → IsGood name
name_good name e =
    plain_good name (plain_bytes name (and_right (is_between 1 32 (length name)) (list_all is_name_byte name) e))

pub name_short : (name : List ℕ) → is_name name ≡ true → length name ≤ 32
name_short name e = few (length name) (and_left (is_between 1 32 (length name)) (list_all is_name_byte name) e)
  where
    few : (n : ℕ) → is_between 1 32 n ≡ true → n ≤ 32
    few n e = grind (arith, nat_tests)

-- ---- texts

-- a byte that is no control byte, nor a blank, is no blank of INI text
sharp_byte : (b : ℕ) → is_control b ≡ false → is_blank b ≡ false → ini.is_blank b ≡ false
sharp_byte b plain e = grind (arith, nat_tests)

no_feed : (b : ℕ) → is_control b ≡ false → (b == 10) ≡ false
no_feed b plain = grind (arith, nat_tests)

no_feeds : (bs : List ℕ) → list_any is_control bs ≡ false → has_byte 10 bs ≡ false
no_feeds [] none = refl
no_feeds (b ∷ bs) none =
    let parts = or_parts (is_control b) (list_any is_control bs) none in
    rw (no_feed b parts.0) (no_feeds bs parts.1)

-- the first byte is sharp where no blank stands in front
sharp_first : (bs : List ℕ) → AllByRecursion (λ b. is_control b ≡ false) bs → prefix_len is_blank bs ≡ 0 → IsSharp bs
sharp_first [] plain e = tt
sharp_first (b ∷ bs) plain e = by (is_blank b) refl e
  where
    by : (t : Bool) → is_blank b ≡ t → cond t (1 + prefix_len is_blank bs) 0 ≡ 0 → ini.is_blank b ≡ false
    by true is e = absurd (omega arith)
    by false is e = sharp_byte b plain.0 is

each_plain : (bs : List ℕ) → list_any is_control bs ≡ false → AllByRecursion (λ b. is_control b ≡ false) bs
each_plain [] none = tt
each_plain (b ∷ bs) none = let parts = or_parts (is_control b) (list_any is_control bs) none
    in (parts.0, each_plain bs parts.1)

plain_push : (bs : List ℕ) (b : ℕ) → AllByRecursion (λ b. is_control b ≡ false) bs → is_control b ≡ false
    → AllByRecursion (λ b. is_control b ≡ false) (bs ++ b ∷ [])
plain_push [] b h g = (g, tt)
plain_push (c ∷ cs) b h g = (h.0, plain_push cs b h.1 g)

plain_reverse : (bs : List ℕ) → AllByRecursion (λ b. is_control b ≡ false) bs
    → AllByRecursion (λ b. is_control b ≡ false) (reverse bs)
plain_reverse [] h = tt
plain_reverse (b ∷ bs) h = subst (AllByRecursion (λ b. is_control b ≡ false)) (sym (reverse-append (b ∷ []) bs))
    (plain_push (reverse bs) b (plain_reverse bs h.1) h.0)

-- a text that is trimmed has no blank in front and none behind
unblank : (bs : List ℕ) → trim bs ≡ bs → (prefix_len is_blank bs ≡ 0) × (prefix_len is_blank (reverse bs) ≡ 0)
unblank bs same =
    let n : ℕ = prefix_len is_blank bs in
    let s : List ℕ = drop n bs in
    let k : ℕ = suffix_len is_blank s in
    let whole : length (take (length s - k) s) ≡ length bs = ap length same in
    let taken = length-take (length s - k) s in
    let dropped : length s ≡ length bs - n = length-drop n bs in
    let front : n ≤ length bs = prefix_len-le-length is_blank bs in
    let back : k ≤ length s = suffix_len-le-length is_blank s in
    let first : n ≡ 0 = omega (arith, whole, taken, dropped, front) in
    let last : k ≡ 0 = omega (arith, whole, taken, dropped, front, back) in
    (first, ap (λ (i : ℕ). suffix_len is_blank (drop i bs)) (sym first) ∙ last)

turned : (b : Bool) → not b ≡ true → b ≡ false
turned true e = sym e
turned false e = refl

pub text_value : (text : List ℕ) → is_text text ≡ true → IsValue text
text_value text e =
    let plain : is_plain text ≡ true = and_left (is_plain text) (bytes_eq (trim text) text) e in
    let same : trim text ≡ text = (bytes_eq-Decides (trim text) text).0 (and_right (is_plain text)
    (bytes_eq (trim text) text) e) in
    let none : list_any is_control text ≡ false = turned (list_any is_control text)
    (and_right (is_between 1 4000 (length text)) (not (list_any is_control text)) plain) in
    let each = each_plain text none in
    let ends = unblank text same in
    record {
      trim = trimmed_sharp text (sharp_first text each ends.0)
          (sharp_first (reverse text) (plain_reverse text each) ends.1);
      on_one_line = no_feeds text none;
    }

-- a byte that is no control byte is none that a text may not have
no_bad : (b : ℕ) → is_control b ≡ false → ini.is_bad_byte b ≡ false
no_bad b plain = grind (arith, nat_tests)

none_bad : (bs : List ℕ) → list_any is_control bs ≡ false → IsGood bs
none_bad [] none = refl
none_bad (b ∷ bs) none =
    let parts = or_parts (is_control b) (list_any is_control bs) none in
    rw (no_bad b parts.0) (none_bad bs parts.1)

pub text_good : (text : List ℕ) → is_text text ≡ true → IsGood text
text_good text e =
    let plain : is_plain text ≡ true = and_left (is_plain text) (bytes_eq (trim text) text) e in
    none_bad text (turned (list_any is_control text)
    (and_right (is_between 1 4000 (length text)) (not (list_any is_control text)) plain))

-- ---- lines

-- a line that ends in no CR is kept whole
no_cr_at_end : (bs : List ℕ) → IsSharp (reverse bs) → trim_end is_cr bs ≡ bs
no_cr_at_end bs sharp =
    let none : suffix_len is_cr bs ≡ 0 = by (reverse bs) sharp in
    let whole : length bs ≤ length bs - suffix_len is_cr bs = omega (arith, none) in
    take_all (length bs - suffix_len is_cr bs) bs whole
  where
    other : (b : ℕ) → ini.is_blank b ≡ false → is_cr b ≡ false
    other b e = grind (arith, nat_tests)

    by : (cs : List ℕ) → IsSharp cs → prefix_len is_cr cs ≡ 0
    by [] h = refl
    by (c ∷ cs) h = rw (other c h) refl

-- a line up to its LF
first_line : (bs rest : List ℕ) → has_byte 10 bs ≡ false → lines_of (bs ++ 10 ∷ rest) ≡ bs ∷ lines_of rest
unfolding lines_of
first_line [] rest none = refl
first_line (b ∷ bs) rest none = let parts = or_parts (b == 10) (has_byte 10 bs) none
    in rw parts.0 (ap (onto_first b) (first_line bs rest parts.1))

line_again : (bs rest : List ℕ) → has_byte 10 bs ≡ false → IsSharp (reverse bs)
    → kept_text (lines_of (bs ++ 10 ∷ rest)) ≡ bs ++ 10 ∷ kept_text (lines_of rest)
line_again bs rest none sharp =
    ap kept_text (first_line bs rest none)
    ∙ ap (λ (line : List ℕ). (line ++ 10 ∷ []) ++ kept_text (lines_of rest)) (no_cr_at_end bs sharp)
    ∙ append_assoc bs (10 ∷ []) (kept_text (lines_of rest))

-- a line that ends as one of its parts does, or in a byte that is no blank
sharp_behind : (first last : List ℕ) (b : ℕ) → ini.is_blank b ≡ false → IsSharp (reverse last)
    → IsSharp (reverse (first ++ b ∷ last))
sharp_behind first last b other sharp =
    subst IsSharp (sym (reverse-append first (b ∷ last)
    ∙ ap (λ (xs : List ℕ). xs ++ reverse first) (reverse-append (b ∷ []) last)))
    (by (reverse last) sharp)
  where
    by : (cs : List ℕ) → IsSharp cs → IsSharp ((cs ++ b ∷ []) ++ reverse first)
    by [] h = other
    by (c ∷ cs) h = h

none_before : (first last : List ℕ) (b : ℕ) → has_byte 10 first ≡ false → (b == 10) ≡ false → has_byte 10 last ≡ false
    → has_byte 10 (first ++ b ∷ last) ≡ false
none_before first last b before apart behind =
    none_append (λ c. c == 10) first (b ∷ last) before (rw (apart, behind) refl)

pair_again : (p : Pair) (rest : List ℕ) → IsPrintablePair p
    → kept_text (lines_of (pair_text p ++ rest)) ≡ pair_text p ++ kept_text (lines_of rest)
pair_again p rest is =
    let line : List ℕ = p.key ++ byte "=" ∷ p.value in
    let spelled : (xs : List ℕ) → pair_text p ++ xs ≡ line ++ 10 ∷ xs = λ xs. simp append_assoc in
    ap (λ (bs : List ℕ). kept_text (lines_of bs)) (spelled rest)
    ∙ line_again line rest (none_before p.key p.value (byte "=") is.key.on_one_line refl is.value.on_one_line)
    (sharp_behind p.key p.value (byte "=") refl (sharp_end_if_trim p.value is.value.trim))
    ∙ sym (spelled (kept_text (lines_of rest)))

pairs_again : (ps : List Pair) (rest : List ℕ) → AllByRecursion IsPrintablePair ps
    → kept_text (lines_of (flat_map pair_text ps ++ rest)) ≡ flat_map pair_text ps ++ kept_text (lines_of rest)
pairs_again [] rest each = refl
pairs_again (p ∷ ps) rest each =
    ap (λ (bs : List ℕ). kept_text (lines_of bs)) (append_assoc (pair_text p) (flat_map pair_text ps) rest)
    ∙ pair_again p (flat_map pair_text ps ++ rest) each.0
    ∙ ap (λ (xs : List ℕ). pair_text p ++ xs) (pairs_again ps rest each.1)
    ∙ sym (append_assoc (pair_text p) (flat_map pair_text ps) (kept_text (lines_of rest)))

section_again : (s : Section) (rest : List ℕ) → IsPrintableSection s
    → kept_text (lines_of (section_text s ++ rest)) ≡ section_text s ++ kept_text (lines_of rest)
section_again s rest is =
    let header : List ℕ = (byte "[" ∷ s.name) ++ byte "]" ∷ [] in
    let pairs : List ℕ = flat_map pair_text s.pairs in
    let spelled : (xs : List ℕ) → section_text s ++ xs ≡ header ++ 10 ∷ (pairs ++ xs) = λ xs. simp append_assoc in
    ap (λ (bs : List ℕ). kept_text (lines_of bs)) (spelled rest)
    ∙ line_again header (pairs ++ rest) (none_before (byte "[" ∷ s.name) [] (byte "]") is.name.on_one_line refl refl)
    (sharp_behind (byte "[" ∷ s.name) [] (byte "]") refl tt)
    ∙ ap (λ (xs : List ℕ). header ++ 10 ∷ xs) (pairs_again s.pairs rest is.pairs)
    ∙ sym (spelled (kept_text (lines_of rest)))

-- what is printed is kept as it is: no line of it ends in a CR
pub sections_again : (ss : List Section) → AllByRecursion IsPrintableSection ss
    → kept_text (lines_of (text_of ss)) ≡ text_of ss
unfolding lines_of
sections_again [] each = refl
sections_again (s ∷ ss) each = section_again s (text_of ss) each.0
    ∙ ap (λ (xs : List ℕ). section_text s ++ xs) (sections_again ss each.1)

-- ---- lines that aren't too long

abbrev pub HasNoLongLine : List ℕ → Type 0
HasNoLongLine text = list_any ini.is_long_line (lines_of text) ≡ false

one_more_line : (bs rest : List ℕ) → has_byte 10 bs ≡ false → length bs ≤ 4096 → HasNoLongLine rest
    → HasNoLongLine (bs ++ 10 ∷ rest)
one_more_line bs rest none short h =
    ap (list_any ini.is_long_line) (first_line bs rest none)
    ∙ or_from (ini.is_long_line bs) (list_any ini.is_long_line (lines_of rest)) (short_line bs short) h

pair_line : (p : Pair) (rest : List ℕ) → IsPrintablePair p → IsShortPair p → HasNoLongLine rest
    → HasNoLongLine (pair_text p ++ rest)
pair_line p rest is short h =
    let line : List ℕ = p.key ++ byte "=" ∷ p.value in
    let spelled : pair_text p ++ rest ≡ line ++ 10 ∷ rest = simp append_assoc in
    let long = length-append p.key (byte "=" ∷ p.value) in
    subst HasNoLongLine (sym spelled)
    (one_more_line line rest (none_before p.key p.value (byte "=") is.key.on_one_line refl is.value.on_one_line)
    (omega (arith, long, short)) h)

pair_lines : (ps : List Pair) (rest : List ℕ) → AllByRecursion IsPrintablePair ps → AllByRecursion IsShortPair ps
    → HasNoLongLine rest → HasNoLongLine (flat_map pair_text ps ++ rest)
pair_lines [] rest each short h = h
pair_lines (p ∷ ps) rest each short h =
    subst HasNoLongLine (sym (append_assoc (pair_text p) (flat_map pair_text ps) rest))
    (pair_line p (flat_map pair_text ps ++ rest) each.0 short.0 (pair_lines ps rest each.1 short.1 h))

section_lines : (s : Section) (rest : List ℕ) → IsPrintableSection s → IsShortSection s → HasNoLongLine rest
    → HasNoLongLine (section_text s ++ rest)
section_lines s rest is short h =
    let header : List ℕ = (byte "[" ∷ s.name) ++ byte "]" ∷ [] in
    let pairs : List ℕ = flat_map pair_text s.pairs in
    let spelled : section_text s ++ rest ≡ header ++ 10 ∷ (pairs ++ rest) = simp append_assoc in
    let long = length-append (byte "[" ∷ s.name) (byte "]" ∷ []) in
    let named = short.name in
    subst HasNoLongLine (sym spelled)
    (one_more_line header (pairs ++ rest) (none_before (byte "[" ∷ s.name) [] (byte "]") is.name.on_one_line refl refl)
    (omega (arith, long, named)) (pair_lines s.pairs rest is.pairs short.pairs h))

pub text_lines : (ss : List Section) → AllByRecursion IsPrintableSection ss → AllByRecursion IsShortSection ss
    → HasNoLongLine (text_of ss)
unfolding lines_of
text_lines [] each short = refl
text_lines (s ∷ ss) each short =
    section_lines s (text_of ss) each.0 short.0 (text_lines ss each.1 short.1)
