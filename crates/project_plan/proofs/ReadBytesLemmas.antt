-- What is read of a text without a bad byte has none.
use Rattle.std.proofs.Common.{◌≡◌, ◌∙◌, ℕ, Bool, true, false, cond, List, [], ◌∷◌, ◌++◌, map, eqb, IfSome, Option}
use Rattle.std.proofs.Common.{Some, None, option_and_then, length, refl, sym, ap, subst, not}
use Rattle.std.specs.List.{AllByRecursion, filter, list_any, onto_first, starts_with}
use Rattle.std.specs.Bool.{nat_eq}
use Rattle.std.proofs.lemmas.Bool.{or_parts}
use Rattle.ini_text.specs.Text.{byte_order_mark, has_bad_byte, is_bad_byte, lines_of, split_once, trim_line, without_mark}
use Rattle.ini_text.specs.Line.{Line, nothing, header, pair, other, unless_empty, header_name, key_value, pair_or_other}
use Rattle.ini_text.specs.Line.{header_or, meaning, line_of}
use Rattle.ini_text.specs.Content.{same, same_key, headers, pairs_under, firsts, section_of, sections_of}
use Rattle.ini_text.specs.Content.{content_of, line_list}
use Rattle.ini_text.proofs.BytesLemmas.{Split, at, none, none_dropped, none_left, none_right, none_trimmed, split}
use Rattle.ini_text.proofs.NameLemmas.{all_filtered}
use Rattle.eds_dcf.proofs.ByteLemmas.{IsGood, IsGoodPair, IsGoodSection}

-- ---- lines

lines_good : (text : List ℕ) → IsGood text → AllByRecursion IsGood (lines_of text)
unfolding lines_of
lines_good [] h = tt
lines_good (b ∷ bs) h =
    let parts = or_parts (is_bad_byte b) (has_bad_byte bs) h in
    by (eqb b 10) parts.0 (lines_of bs) (lines_good bs parts.1)
  where
    by : (t : Bool) → is_bad_byte b ≡ false → (ls : List (List ℕ)) → AllByRecursion IsGood ls
        → AllByRecursion IsGood (cond t ([] ∷ ls) (onto_first b ls))
    by true e ls g = (refl, g)
    by false e [] g = (rw e refl, tt)
    by false e (l ∷ ls) g = (rw e g.0, g.1)

unmarked_good : (text : List ℕ) → IsGood text → IsGood (without_mark text)
unmarked_good text h = by (starts_with nat_eq text byte_order_mark)
  where
    by : (t : Bool) → IsGood (cond t (Rattle.std.specs.Prelude.drop (length byte_order_mark) text) text)
    by true = none_dropped is_bad_byte (length byte_order_mark) text h
    by false = h

-- what stands before a byte, and what behind it
abbrev AreGood : List ℕ × List ℕ → Type 0
AreGood q = IsGood q.0 × IsGood q.1

parted_good : (b : ℕ) (bs : List ℕ) → IsGood bs → IfSome (split_once b bs) AreGood
parted_good b bs h = by (split b bs)
  where
    by : Split b bs → IfSome (split_once b bs) AreGood
    by (none f lacks) = subst (λ (o : Option (List ℕ × List ℕ)). IfSome o AreGood) (sym f) tt
    by (at xs ys f w lacks) =
        let whole : IsGood (xs ++ b ∷ ys) = sym (ap has_bad_byte w) ∙ h in
        let behind = or_parts (is_bad_byte b) (has_bad_byte ys) (none_right is_bad_byte xs (b ∷ ys) whole) in
        subst (λ (o : Option (List ℕ × List ℕ)). IfSome o AreGood) (sym f)
        (none_left is_bad_byte xs (b ∷ ys) whole, behind.1)

some_good : (bs : List ℕ) → IsGood bs → IfSome (unless_empty bs) IsGood
some_good [] h = tt
some_good (b ∷ bs) h = h

name_good : (line : List ℕ) → IsGood line → IfSome (header_name line) IsGood
unfolding header_name
name_good [] h = tt
name_good (b ∷ bs) h =
    by (eqb b 91) (split_once 93 bs) (parted_good 93 bs (or_parts (is_bad_byte b) (has_bad_byte bs) h).1)
  where
    by : (t : Bool) (o : Option (List ℕ × List ℕ)) → IfSome o AreGood
        → IfSome (cond t (option_and_then (λ (p : List ℕ × List ℕ). unless_empty (trim_line p.0)) o) None) IsGood
    by true None g = tt
    by true (Some p) g = some_good (trim_line p.0) (none_trimmed is_bad_byte p.0 g.0)
    by false o g = tt

pair_good : (line : List ℕ) → IsGood line → IfSome (key_value line) AreGood
unfolding key_value
pair_good line h = by (split_once 61 line) (parted_good 61 line h)
  where
    given : List ℕ × List ℕ → List ℕ → Option (List ℕ × List ℕ)
    given p k = Some (k, trim_line p.1)

    with_key : (p : List ℕ × List ℕ) → AreGood p → (o : Option (List ℕ)) → IfSome o IsGood
        → IfSome (option_and_then (given p) o) AreGood
    with_key p g None k = tt
    with_key p g (Some key) k = (k, none_trimmed is_bad_byte p.1 g.1)

    by : (o : Option (List ℕ × List ℕ)) → IfSome o AreGood
        → IfSome (option_and_then (λ p. option_and_then (given p) (unless_empty (trim_line p.0))) o) AreGood
    by None g = tt
    by (Some p) g =
        with_key p g (unless_empty (trim_line p.0)) (some_good (trim_line p.0) (none_trimmed is_bad_byte p.0 g.0))

-- ---- what a line means

abbrev MeansGood : Line → Type 0
MeansGood nothing = Unit {0}
MeansGood (header name) = IsGood name
MeansGood (pair key value) = IsGood key × IsGood value
MeansGood other = Unit {0}

meaning_good : (line : List ℕ) → IsGood line → MeansGood (meaning line)
meaning_good [] h = tt
meaning_good (b ∷ bs) h =
    by (eqb b 59) (header_name (b ∷ bs)) (name_good (b ∷ bs) h) (key_value (b ∷ bs)) (pair_good (b ∷ bs) h)
  where
    by : (t : Bool) (o : Option (List ℕ)) → IfSome o IsGood → (q : Option (List ℕ × List ℕ)) → IfSome q AreGood
        → MeansGood (cond t nothing (header_or o (pair_or_other q)))
    by true o f q g = tt
    by false (Some name) f q g = f
    by false None f None g = tt
    by false None f (Some p) g = g

all_mean_good : (ls : List (List ℕ)) → AllByRecursion IsGood ls → AllByRecursion MeansGood (map line_of ls)
unfolding line_of
all_mean_good [] h = tt
all_mean_good (l ∷ ls) h = (meaning_good (trim_line l) (none_trimmed is_bad_byte l h.0), all_mean_good ls h.1)

-- ---- sections

headers_good : (ls : List Line) → AllByRecursion MeansGood ls → AllByRecursion IsGood (headers ls)
headers_good [] h = tt
headers_good (header n ∷ ls) h = (h.0, headers_good ls h.1)
headers_good (nothing ∷ ls) h = headers_good ls h.1
headers_good (pair k v ∷ ls) h = headers_good ls h.1
headers_good (other ∷ ls) h = headers_good ls h.1

pairs_good : (name : List ℕ) (here : Bool) (ls : List Line) → AllByRecursion MeansGood ls
    → AllByRecursion IsGoodPair (pairs_under name here ls)
pairs_good name here [] h = tt
pairs_good name here (header n ∷ ls) h = pairs_good name (same name n) ls h.1
pairs_good name here (nothing ∷ ls) h = pairs_good name here ls h.1
pairs_good name true (pair k v ∷ ls) h = (h.0, pairs_good name true ls h.1)
pairs_good name false (pair k v ∷ ls) h = pairs_good name false ls h.1
pairs_good name here (other ∷ ls) h = pairs_good name here ls h.1

pub firsts_all : {X : Type 0} (e : X → X → Bool) (P : X → Type 0) (xs : List X) → AllByRecursion P xs
    → AllByRecursion P (firsts e xs)
firsts_all e P [] h = tt
firsts_all e P (x ∷ xs) h = (h.0, all_filtered e P (λ y. not (e x y)) (firsts e xs) (firsts_all e P xs h.1))

named_good : (ls : List Line) → AllByRecursion MeansGood ls → (names : List (List ℕ)) → AllByRecursion IsGood names
    → AllByRecursion IsGoodSection (map (section_of ls) names)
named_good ls h [] g = tt
named_good ls h (n ∷ names) g = (
  record {
    name = g.0;
    pairs = firsts_all same_key IsGoodPair (pairs_under n false ls) (pairs_good n false ls h);
  },
  named_good ls h names g.1,
)

read_good : (ls : List Line) → AllByRecursion MeansGood ls → AllByRecursion IsGoodSection (sections_of ls)
unfolding sections_of
read_good ls h =
    named_good ls h (firsts same (headers ls)) (firsts_all same IsGood (headers ls) (headers_good ls h))

pub content_good : (text : List ℕ) → IsGood text → AllByRecursion IsGoodSection (content_of text).sections
unfolding content_of
content_good text h =
    read_good (line_list (without_mark text))
    (all_mean_good (lines_of (without_mark text)) (lines_good (without_mark text) (unmarked_good text h)))
