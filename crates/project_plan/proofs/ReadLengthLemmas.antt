-- What is read of a text without a long line can stand in a line of at most 4,096 bytes.
use Rattle.std.proofs.Common.{◌≡◌, ◌∙◌, ℕ, zero, suc, ◌+◌, ◌-◌, ◌≤◌, Bool, true, false, cond, List, [], ◌∷◌, ◌++◌}
use Rattle.std.proofs.Common.{map, eqb, IfSome, Option, Some, None, option_and_then, length, drop, reverse}
use Rattle.std.proofs.Common.{refl, sym, ap, subst, arith, length-append}
use Rattle.std.specs.List.{AllByRecursion, list_any, onto_first, prefix_len, starts_with, suffix_len}
use Rattle.std.specs.Bool.{nat_eq}
use Rattle.std.specs.Prelude.{nat_lt}
use Rattle.std.proofs.lemmas.Bool.{ltb-false, or_parts}
use Rattle.std.proofs.lemmas.Bool.Decides.{nat_tests}
use Rattle.std.proofs.lemmas.List.{length-take-le, reverse-append}
use Rattle.std.proofs.lemmas.List.Sums.{suffix_len-le-length}
use Rattle.base.specs.Blanks.{trim_end, trim_start}
use Rattle.base.specs.Lines.{is_cr}
use Rattle.ini_text.specs.Text.{byte_order_mark, is_blank, is_long_line, lines_of, split_once, trim_line, without_mark}
use Rattle.ini_text.specs.Line.{Line, nothing, header, pair, other, unless_empty, header_name, key_value, pair_or_other}
use Rattle.ini_text.specs.Line.{header_or, meaning, line_of}
use Rattle.ini_text.specs.Content.{same, same_key, headers, pairs_under, firsts, section_of, sections_of}
use Rattle.ini_text.specs.Content.{content_of, line_list}
use Rattle.ini_text.proofs.BytesLemmas.{Split, at, none, split}
use Rattle.eds_dcf.proofs.LengthLemmas.{AreShort, IsShortName, IsShortPair, IsShortSection}
use Rattle.project_plan.proofs.ReadBytesLemmas.{firsts_all}

-- ---- blanks at the ends

prefix_push : (p : ℕ → Bool) (bs : List ℕ) (b : ℕ) → prefix_len p (bs ++ b ∷ []) ≤ prefix_len p bs + 1
prefix_push p [] b = by (p b)
  where
    by : (t : Bool) → cond t (1 + 0) 0 ≤ 1
    by true = omega arith
    by false = omega arith
prefix_push p (c ∷ cs) b = by (p c) (prefix_push p cs b)
  where
    by : (t : Bool) → prefix_len p (cs ++ b ∷ []) ≤ prefix_len p cs + 1
        → cond t (1 + prefix_len p (cs ++ b ∷ [])) 0 ≤ cond t (1 + prefix_len p cs) 0 + 1
    by true rest = omega (arith, rest)
    by false rest = omega arith

-- a blank by the one test is one by the other
prefix_weaker : (p q : ℕ → Bool) → ((b : ℕ) → p b ≡ true → q b ≡ true) → (bs : List ℕ)
    → prefix_len p bs ≤ prefix_len q bs
prefix_weaker p q weaker [] = omega arith
prefix_weaker p q weaker (b ∷ bs) = by (p b) (q b) refl refl (prefix_weaker p q weaker bs)
  where
    by : (t u : Bool) → p b ≡ t → q b ≡ u → prefix_len p bs ≤ prefix_len q bs
        → cond t (1 + prefix_len p bs) 0 ≤ cond u (1 + prefix_len q bs) 0
    by true true e f rest = omega (arith, rest)
    by true false e f rest = let contrary : true ≡ false = sym (weaker b e) ∙ f in cc
    by false u e f rest = omega arith

end_length : (p : ℕ → Bool) (bs : List ℕ) → length (trim_end p bs) ≡ length bs - suffix_len p bs
end_length p bs = length-take-le (length bs - suffix_len p bs) bs (omega arith)

-- without its first byte it ends no later
end_of_tail : (p : ℕ → Bool) (b : ℕ) (bs : List ℕ) → length (trim_end p bs) ≤ length (trim_end p (b ∷ bs))
end_of_tail p b bs =
    let one = end_length p bs in
    let both = end_length p (b ∷ bs) in
    let turned : suffix_len p (b ∷ bs) ≤ suffix_len p bs + 1 =
    subst (λ (cs : List ℕ). prefix_len p cs ≤ suffix_len p bs + 1) (sym (reverse-append (b ∷ []) bs))
    (prefix_push p (reverse bs) b) in
    let within = suffix_len-le-length p bs in
    omega (arith, one, both, turned, within)

end_of_rest : (p : ℕ → Bool) (n : ℕ) (bs : List ℕ) → length (trim_end p (drop n bs)) ≤ length (trim_end p bs)
end_of_rest p zero bs = omega arith
end_of_rest p (suc n) [] = omega arith
end_of_rest p (suc n) (b ∷ bs) =
    let rest = end_of_rest p n bs in
    let one = end_of_tail p b bs in
    omega (arith, rest, one)

cr_is_blank : (b : ℕ) → is_cr b ≡ true → is_blank b ≡ true
cr_is_blank b e = grind (arith, nat_tests)

end_of_fewer : (bs : List ℕ) → length (trim_end is_blank bs) ≤ length (trim_end is_cr bs)
end_of_fewer bs =
    let all = end_length is_blank bs in
    let crs = end_length is_cr bs in
    let fewer : suffix_len is_cr bs ≤ suffix_len is_blank bs = prefix_weaker is_cr is_blank cr_is_blank (reverse bs) in
    omega (arith, all, crs, fewer)

trimmed_ends : (bs : List ℕ) → length (trim_line bs) ≤ length (trim_end is_cr bs)
unfolding trim_line
trimmed_ends bs =
    let start : List ℕ = trim_start is_blank bs in
    let fewer = end_of_fewer start in
    let rest = end_of_rest is_cr (prefix_len is_blank bs) bs in
    omega (arith, fewer, rest)

trimmed_short : (bs : List ℕ) → length (trim_line bs) ≤ length bs
trimmed_short bs =
    let ends = trimmed_ends bs in
    let crs = end_length is_cr bs in
    omega (arith, ends, crs)

-- ---- lines

abbrev pub IsShortLine : List ℕ → Type 0
IsShortLine line = is_long_line line ≡ false

short_ends : (line : List ℕ) → IsShortLine line → length (trim_end is_cr line) ≤ 4096
short_ends line h = ltb-false 4096 (length (trim_end is_cr line)) h

short_by : (line : List ℕ) → length (trim_end is_cr line) ≤ 4096 → IsShortLine line
short_by line h = by (length (trim_end is_cr line)) h
  where
    by : (n : ℕ) → n ≤ 4096 → nat_lt 4096 n ≡ false
    by n le = grind (arith, nat_tests)

pub short_line : (line : List ℕ) → length line ≤ 4096 → IsShortLine line
short_line line h = let ends = end_length is_cr line in short_by line (omega (arith, ends, h))

each_short : (ls : List (List ℕ)) → list_any is_long_line ls ≡ false → AllByRecursion IsShortLine ls
each_short [] h = tt
each_short (l ∷ ls) h =
    let parts = or_parts (is_long_line l) (list_any is_long_line ls) h in (parts.0, each_short ls parts.1)

-- without its first byte a text has no longer line
tail_short : (b : ℕ) (bs : List ℕ) → AllByRecursion IsShortLine (lines_of (b ∷ bs)) → AllByRecursion IsShortLine (lines_of bs)
unfolding lines_of
tail_short b bs h = by (eqb b 10) (lines_of bs) h
  where
    by : (t : Bool) (ls : List (List ℕ)) → AllByRecursion IsShortLine (cond t ([] ∷ ls) (onto_first b ls))
        → AllByRecursion IsShortLine ls
    by true ls h = h.1
    by false [] h = tt
    by false (l ∷ ls) h =
        let ends = short_ends (b ∷ l) h.0 in
        let one = end_of_tail is_cr b l in
        (short_by l (omega (arith, ends, one)), h.1)

dropped_short : (n : ℕ) (bs : List ℕ) → AllByRecursion IsShortLine (lines_of bs)
    → AllByRecursion IsShortLine (lines_of (drop n bs))
dropped_short zero bs h = h
dropped_short (suc n) [] h = h
dropped_short (suc n) (b ∷ bs) h = dropped_short n bs (tail_short b bs h)

unmarked_short : (text : List ℕ) → AllByRecursion IsShortLine (lines_of text)
    → AllByRecursion IsShortLine (lines_of (without_mark text))
unmarked_short text h = by (starts_with nat_eq text byte_order_mark)
  where
    by : (t : Bool) → AllByRecursion IsShortLine (lines_of (cond t (drop (length byte_order_mark) text) text))
    by true = dropped_short (length byte_order_mark) text h
    by false = h

-- ---- what a line means

some_is : (bs ks : List ℕ) → unless_empty bs ≡ Some ks → bs ≡ ks
some_is [] ks h = cc
some_is (b ∷ bs) ks h = cc

name_short : (line : List ℕ) → length line ≤ 4096 → IfSome (header_name line) IsShortName
unfolding header_name
name_short [] h = tt
name_short (b ∷ bs) h = by (eqb b 91) (split 93 bs)
  where
    named : (xs ys : List ℕ) → bs ≡ xs ++ 93 ∷ ys → (o : Option (List ℕ)) → unless_empty (trim_line xs) ≡ o
        → IfSome o IsShortName
    named xs ys whole None e = tt
    named xs ys whole (Some name) e =
        let is : length (trim_line xs) ≡ length name = ap length (some_is (trim_line xs) name e) in
        let parts : length bs ≡ length (xs ++ 93 ∷ ys) = ap length whole in
        let sum = length-append xs (93 ∷ ys) in
        let short = trimmed_short xs in
        omega (arith, is, parts, sum, short, h)

    by : (t : Bool) → Split 93 bs
        → IfSome (cond t (option_and_then (λ (p : List ℕ × List ℕ). unless_empty (trim_line p.0)) (split_once 93 bs)) None)
        IsShortName
    by false s = tt
    by true (none f lacks) =
        subst (λ (o : Option (List ℕ × List ℕ)).
        IfSome (option_and_then (λ p. unless_empty (trim_line p.0)) o) IsShortName) (sym f) tt
    by true (at xs ys f whole lacks) =
        subst (λ (o : Option (List ℕ × List ℕ)).
        IfSome (option_and_then (λ p. unless_empty (trim_line p.0)) o) IsShortName) (sym f)
        (named xs ys whole (unless_empty (trim_line xs)) refl)

abbrev ArePairShort : List ℕ × List ℕ → Type 0
ArePairShort q = AreShort q.0 q.1

pair_short : (line : List ℕ) → length line ≤ 4096 → IfSome (key_value line) ArePairShort
unfolding key_value
pair_short line h = by (split 61 line)
  where
    given : List ℕ × List ℕ → List ℕ → Option (List ℕ × List ℕ)
    given p k = Some (k, trim_line p.1)

    both : Option (List ℕ × List ℕ) → Option (List ℕ × List ℕ)
    both o = option_and_then (λ p. option_and_then (given p) (unless_empty (trim_line p.0))) o

    keyed : (xs ys : List ℕ) → line ≡ xs ++ 61 ∷ ys → (o : Option (List ℕ)) → unless_empty (trim_line xs) ≡ o
        → IfSome (option_and_then (given (xs, ys)) o) ArePairShort
    keyed xs ys whole None e = tt
    keyed xs ys whole (Some key) e =
        let is : length (trim_line xs) ≡ length key = ap length (some_is (trim_line xs) key e) in
        let parts : length line ≡ length (xs ++ 61 ∷ ys) = ap length whole in
        let sum = length-append xs (61 ∷ ys) in
        let before = trimmed_short xs in
        let behind = trimmed_short ys in
        omega (arith, is, parts, sum, before, behind, h)

    by : Split 61 line → IfSome (both (split_once 61 line)) ArePairShort
    by (none f lacks) = subst (λ (o : Option (List ℕ × List ℕ)). IfSome (both o) ArePairShort) (sym f) tt
    by (at xs ys f whole lacks) =
        subst (λ (o : Option (List ℕ × List ℕ)). IfSome (both o) ArePairShort) (sym f)
        (keyed xs ys whole (unless_empty (trim_line xs)) refl)

abbrev MeansShort : Line → Type 0
MeansShort nothing = Unit {0}
MeansShort (header name) = IsShortName name
MeansShort (pair key value) = AreShort key value
MeansShort other = Unit {0}

meaning_short : (line : List ℕ) → length line ≤ 4096 → MeansShort (meaning line)
meaning_short [] h = tt
meaning_short (b ∷ bs) h =
    by (eqb b 59) (header_name (b ∷ bs)) (name_short (b ∷ bs) h) (key_value (b ∷ bs)) (pair_short (b ∷ bs) h)
  where
    by : (t : Bool) (o : Option (List ℕ)) → IfSome o IsShortName → (q : Option (List ℕ × List ℕ))
        → IfSome q ArePairShort → MeansShort (cond t nothing (header_or o (pair_or_other q)))
    by true o f q g = tt
    by false (Some name) f q g = f
    by false None f None g = tt
    by false None f (Some p) g = g

all_mean_short : (ls : List (List ℕ)) → AllByRecursion IsShortLine ls → AllByRecursion MeansShort (map line_of ls)
unfolding line_of
all_mean_short [] h = tt
all_mean_short (l ∷ ls) h =
    let ends = short_ends l h.0 in
    let short = trimmed_ends l in
    (meaning_short (trim_line l) (omega (arith, ends, short)), all_mean_short ls h.1)

-- ---- sections

headers_short : (ls : List Line) → AllByRecursion MeansShort ls → AllByRecursion IsShortName (headers ls)
headers_short [] h = tt
headers_short (header n ∷ ls) h = (h.0, headers_short ls h.1)
headers_short (nothing ∷ ls) h = headers_short ls h.1
headers_short (pair k v ∷ ls) h = headers_short ls h.1
headers_short (other ∷ ls) h = headers_short ls h.1

pairs_short : (name : List ℕ) (here : Bool) (ls : List Line) → AllByRecursion MeansShort ls
    → AllByRecursion IsShortPair (pairs_under name here ls)
pairs_short name here [] h = tt
pairs_short name here (header n ∷ ls) h = pairs_short name (same name n) ls h.1
pairs_short name here (nothing ∷ ls) h = pairs_short name here ls h.1
pairs_short name true (pair k v ∷ ls) h = (h.0, pairs_short name true ls h.1)
pairs_short name false (pair k v ∷ ls) h = pairs_short name false ls h.1
pairs_short name here (other ∷ ls) h = pairs_short name here ls h.1

named_short : (ls : List Line) → AllByRecursion MeansShort ls → (names : List (List ℕ)) → AllByRecursion IsShortName names
    → AllByRecursion IsShortSection (map (section_of ls) names)
named_short ls h [] g = tt
named_short ls h (n ∷ names) g = (
  record {
    name = g.0;
    pairs = firsts_all same_key IsShortPair (pairs_under n false ls) (pairs_short n false ls h);
  },
  named_short ls h names g.1,
)

read_short : (ls : List Line) → AllByRecursion MeansShort ls → AllByRecursion IsShortSection (sections_of ls)
unfolding sections_of
read_short ls h =
    named_short ls h (firsts same (headers ls)) (firsts_all same IsShortName (headers ls) (headers_short ls h))

pub content_short : (text : List ℕ) → list_any is_long_line (lines_of text) ≡ false
    → AllByRecursion IsShortSection (content_of text).sections
unfolding content_of
content_short text h =
    read_short (line_list (without_mark text))
    (all_mean_short (lines_of (without_mark text)) (unmarked_short text (each_short (lines_of text) h)))
