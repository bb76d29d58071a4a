-- What a text gives can be printed.
use Rattle.std.proofs.Common.{◌≡◌, ℕ, ◌+◌, ◌<◌, Bool, true, false, cond, not, ◌||◌, List, [], ◌∷◌, ◌++◌, map, length}
use Rattle.std.proofs.Common.{eqb, Option, None, Some, refl, ap, ◌∙◌, sym, subst, append_assoc, arith}
use Rattle.std.specs.List.{onto_first, AllByRecursion}
use Rattle.std.specs.Option.{option_and_then, option_map, option_map_or}
use Rattle.std.proofs.lemmas.Bool.{false≢true}
use Rattle.std.proofs.lemmas.Bool.Decides.{Decides-eqb}
use Rattle.ini_text.specs.Text.{is_blank, trim_line, split_once, lines_of, without_mark}
use Rattle.ini_text.specs.Line.{Line, nothing, header, pair, other, unless_empty, header_name, key_value, pair_or_other}
use Rattle.ini_text.specs.Line.{header_or, meaning, line_of}
use Rattle.ini_text.specs.Content.{Pair, Section, same, same_key, headers, pairs_under, firsts, section_of, sections_of}
use Rattle.ini_text.specs.Content.{last_header, gives_key, is_misused, is_warned, warned_after, warnings_of, content_of}
use Rattle.ini_text.specs.Content.{line_list}
use Rattle.ini_text.specs.Change.{text_of}
use Rattle.ini_text.specs.Printable.{has_byte, begins_with, AreApart, same_name, IsName, IsPrintablePair}
use Rattle.ini_text.specs.Printable.{IsPrintableSection, IsPrintable, UsesNoCompactPdo}
use Rattle.ini_text.proofs.KeyedLemmas.{or_false_right}
use Rattle.ini_text.proofs.NameLemmas.{all_filtered, firsts_apart}
use Rattle.ini_text.proofs.ContentLemmas.{last_header-append}
use Rattle.ini_text.proofs.BytesLemmas.{IsSharp, AreBlank, sharp_trimmed, trim_line-trim_line, trim_line-blank, keeps_first}
use Rattle.ini_text.proofs.BytesLemmas.{none_trimmed, none_append, none_left, none_right, split_once-cons, split, at}
use Rattle.ini_text.proofs.BytesLemmas.{none, onto, parts, Split}

-- whether what follows a `[` makes no header: before the first `]`, if there is one, there are blanks alone
abbrev no_name : List ℕ → Bool
no_name [] = true
no_name (c ∷ cs) = cond (eqb c 93) true (cond (is_blank c) (no_name cs) (not (has_byte 93 cs)))

-- the name that a header has after its `[`
abbrev name_in : List ℕ → Option (List ℕ)
name_in bs = option_and_then (λ p. unless_empty (trim_line p.0)) (split_once 93 bs)

name_in-first : (c : ℕ) (cs : List ℕ) → name_in (c ∷ cs)
    ≡ cond (eqb c 93) None (option_and_then (λ p. unless_empty (trim_line (c ∷ p.0))) (split_once 93 cs))
unfolding trim_line
name_in-first c cs = ap (option_and_then (λ p. unless_empty (trim_line p.0))) (split_once-cons 93 c cs)
    ∙ by (eqb c 93) (split_once 93 cs)
  where
    by : (t : Bool) (o : Option (List ℕ × List ℕ))
        → option_and_then (λ (p : List ℕ × List ℕ). unless_empty (trim_line p.0))
        (cond t (Some (parts [] cs)) (option_map (onto c) o))
        ≡ cond t None (option_and_then (λ p. unless_empty (trim_line (c ∷ p.0))) o)
    by true o = refl
    by false None = refl
    by false (Some p) = refl

name_in-blank : (c : ℕ) (o : Option (List ℕ × List ℕ)) → is_blank c ≡ true
    → option_and_then (λ (p : List ℕ × List ℕ). unless_empty (trim_line (c ∷ p.0))) o
    ≡ option_and_then (λ p. unless_empty (trim_line p.0)) o
name_in-blank c None h = refl
name_in-blank c (Some p) h = ap unless_empty (trim_line-blank c p.0 h)

no_name_from : (bs : List ℕ) → name_in bs ≡ None → no_name bs ≡ true
no_name_from [] h = refl
no_name_from (c ∷ cs) h = by (eqb c 93) (is_blank c) refl (sym (name_in-first c cs) ∙ h) (no_name_from cs)
  where
    rest : is_blank c ≡ false → Split 93 cs
        → option_and_then (λ (p : List ℕ × List ℕ). unless_empty (trim_line (c ∷ p.0))) (split_once 93 cs) ≡ None
        → not (has_byte 93 cs) ≡ true
    rest b (at xs ys f w n) h =
        let k = keeps_first c xs b in
        let s : unless_empty (trim_line (c ∷ xs)) ≡ None =
        ap (option_and_then (λ (p : List ℕ × List ℕ). unless_empty (trim_line (c ∷ p.0)))) (sym f) ∙ h in
        let some : Some (c ∷ k.left) ≡ None = ap unless_empty (sym k.is) ∙ s in
        cc
    rest b (none f n) h = ap not n

    by : (t u : Bool) → is_blank c ≡ u
        → cond t None (option_and_then (λ (p : List ℕ × List ℕ). unless_empty (trim_line (c ∷ p.0))) (split_once 93 cs))
        ≡ None → (name_in cs ≡ None → no_name cs ≡ true)
        → cond t true (cond u (no_name cs) (not (has_byte 93 cs))) ≡ true
    by true u b h ih = refl
    by false true b h ih = ih (sym (name_in-blank c (split_once 93 cs) b) ∙ h)
    by false false b h ih = rest b (split 93 cs) h

no_name_to : (bs : List ℕ) → no_name bs ≡ true → name_in bs ≡ None
unfolding split_once
no_name_to [] h = refl
no_name_to (c ∷ cs) h = name_in-first c cs ∙ by (eqb c 93) (is_blank c) refl h (no_name_to cs)
  where
    rest : Split 93 cs → not (has_byte 93 cs) ≡ true
        → option_and_then (λ (p : List ℕ × List ℕ). unless_empty (trim_line (c ∷ p.0))) (split_once 93 cs) ≡ None
    rest (at xs ys f w n) h = absurd (false≢true (sym (ap not (ap (has_byte 93) w ∙ there xs)) ∙ h))
      where
        there : (xs : List ℕ) → has_byte 93 (xs ++ 93 ∷ ys) ≡ true
        there [] = refl
        there (x ∷ xs) = elim (eqb x 93) as (λ t. (t || has_byte 93 (xs ++ 93 ∷ ys))
            ≡ true) [ true ↦ refl | false ↦ there xs ]
    rest (none f n) h = ap (option_and_then (λ (p : List ℕ × List ℕ). unless_empty (trim_line (c ∷ p.0)))) f

    by : (t u : Bool) → is_blank c ≡ u → cond t true (cond u (no_name cs) (not (has_byte 93 cs))) ≡ true
        → (no_name cs ≡ true → name_in cs ≡ None)
        → cond t None (option_and_then (λ (p : List ℕ × List ℕ). unless_empty (trim_line (c ∷ p.0))) (split_once 93 cs))
        ≡ None
    by true u b h ih = refl
    by false true b h ih = name_in-blank c (split_once 93 cs) b ∙ ih h
    by false false b h ih = rest (split 93 cs) h

not_true : (b : Bool) → not b ≡ true → b ≡ false
not_true true h = absurd (false≢true h)
not_true false h = refl

-- blanks and an `=` hold no `]`, so what makes no header makes none without the blanks round the `=`
no_name_blanks : (blanks after value : List ℕ) → AreBlank blanks → no_name (blanks ++ 61 ∷ after) ≡ true
    → (has_byte 93 after ≡ false → has_byte 93 value ≡ false) → no_name (61 ∷ value) ≡ true
no_name_blanks [] after value b h fewer = ap not (fewer (not_true (has_byte 93 after) h))
no_name_blanks (c ∷ blanks) after value b h fewer =
    let plain : eqb c 93 ≡ false = blank_isnt c b.0 in
    no_name_blanks blanks after value b.1 (sym (rw plain (rw b.0 refl)) ∙ h) fewer
  where
    blank_isnt : (c : ℕ) → is_blank c ≡ true → eqb c 93 ≡ false
    blank_isnt c h = by (eqb c 93) refl
      where
        by : (t : Bool) → eqb c 93 ≡ t → t ≡ false
        by true e = let f : c ≡ 93 = (Decides-eqb c 93).0 e in absurd (false≢true (sym (ap is_blank f) ∙ h))
        by false e = refl

no_name_tight : (key blanks after value : List ℕ) → AreBlank blanks → no_name (key ++ (blanks ++ 61 ∷ after)) ≡ true
    → (has_byte 93 after ≡ false → has_byte 93 value ≡ false) → no_name (key ++ 61 ∷ value) ≡ true
no_name_tight [] blanks after value b h fewer = no_name_blanks blanks after value b h fewer
no_name_tight (c ∷ cs) blanks after value b h fewer = by (eqb c 93)
    (is_blank c) h (λ g. no_name_tight cs blanks after value b g fewer)
  where
    p : ℕ → Bool
    p x = eqb x 93

    by : (t u : Bool)
        → cond t true (cond u (no_name (cs ++ (blanks ++ 61 ∷ after)))
        (not (has_byte 93 (cs ++ (blanks ++ 61 ∷ after))))) ≡ true
        → (no_name (cs ++ (blanks ++ 61 ∷ after)) ≡ true → no_name (cs ++ 61 ∷ value) ≡ true)
        → cond t true (cond u (no_name (cs ++ 61 ∷ value)) (not (has_byte 93 (cs ++ 61 ∷ value)))) ≡ true
    by true u h ih = refl
    by false true h ih = ih h
    by false false h ih =
        let all = not_true (has_byte 93 (cs ++ (blanks ++ 61 ∷ after))) h in
        let behind : has_byte 93 after ≡ false = none_right p blanks (61 ∷ after)
        (none_right p cs (blanks ++ 61 ∷ after) all) in
        ap not (none_append p cs (61 ∷ value) (none_left p cs (blanks ++ 61 ∷ after) all) (fewer behind))

-- the line that a key and a value are printed as makes no header, where the line that gave them made none
tight_no_header : (b : ℕ) (key blanks after value : List ℕ) → AreBlank blanks
    → header_name (b ∷ (key ++ (blanks ++ 61 ∷ after))) ≡ None → (has_byte 93 after ≡ false → has_byte 93 value ≡ false)
    → header_name (b ∷ (key ++ 61 ∷ value)) ≡ None
unfolding header_name
tight_no_header b key blanks after value bl h fewer = by (eqb b 91) h
  where
    by : (t : Bool) → cond t (name_in (key ++ (blanks ++ 61 ∷ after))) None ≡ None
        → cond t (name_in (key ++ 61 ∷ value)) None ≡ None
    by true h = no_name_to (key ++ 61 ∷ value)
        (no_name_tight key blanks after value bl (no_name_from (key ++ (blanks ++ 61 ∷ after)) h) fewer)
    by false h = refl

-- what a line means can be printed
abbrev CanPrint : Line → Type 0
CanPrint nothing = Unit {0}
CanPrint (header n) = IsName n
CanPrint (pair k v) = IsPrintablePair (record { key = k; value = v })
CanPrint other = Unit {0}

some_if_kept : (bs ks : List ℕ) → unless_empty bs ≡ Some ks → (bs ≡ ks) × (0 < length ks)
some_if_kept [] ks h = cc
some_if_kept (b ∷ bs) ks h = let e : b ∷ bs ≡ ks = cc in (e, subst (λ xs. 0 < length xs) e (omega arith))

name_of_header : (line n : List ℕ) → has_byte 10 line ≡ false → header_name line ≡ Some n → IsName n
unfolding header_name
name_of_header [] n h e = cc
name_of_header (b ∷ bs) n h e = by (eqb b 91) (split 93 bs) e
  where
    p : ℕ → Bool
    p x = eqb x 10

    q : ℕ → Bool
    q x = eqb x 93

    by : (t : Bool) → Split 93 bs → cond t (name_in bs) None ≡ Some n → IsName n
    by false s e = cc
    by true (none f w) e = let g : None ≡ Some n =
        ap (option_and_then (λ (p : List ℕ × List ℕ). unless_empty (trim_line p.0))) (sym f) ∙ e in cc
    by true (at xs ys f w lacks) e =
        let k = some_if_kept (trim_line xs) n (ap (option_and_then (λ (p : List ℕ × List ℕ). unless_empty (trim_line p.0)))
        (sym f) ∙ e) in
        let line : has_byte 10 xs ≡ false = none_left p xs (93 ∷ ys)
        (sym (ap (has_byte 10) w) ∙ or_false_right (eqb b 10) (has_byte 10 bs) h) in
        record {
          some = k.1;
          trim = subst (λ ks. trim_line ks ≡ ks) k.0 (trim_line-trim_line xs);
          on_one_line = subst (λ ks. has_byte 10 ks ≡ false) k.0 (none_trimmed p xs line);
          unclosed = subst (λ ks. has_byte 93 ks ≡ false) k.0 (none_trimmed q xs lacks);
        }

-- the first byte of a trimmed line, and what it says of the key before the first `=`
pair_of_line : (b : ℕ) (bs k v : List ℕ) → is_blank b ≡ false → eqb b 59 ≡ false → has_byte 10 (b ∷ bs) ≡ false
    → header_name (b ∷ bs) ≡ None → key_value (b ∷ bs) ≡ Some (parts k v)
    → IsPrintablePair (record { key = k; value = v })
unfolding key_value trim_line
pair_of_line b bs k v sharp no_comment h no_header e = by (split 61 (b ∷ bs)) e
  where
    lf : ℕ → Bool
    lf x = eqb x 10

    same : ℕ → Bool
    same x = eqb x 61

    close : ℕ → Bool
    close x = eqb x 93

    given : (List ℕ × List ℕ) → Option (List ℕ × List ℕ)
    given p = option_and_then (λ k. Some (parts k (trim_line p.1))) (unless_empty (trim_line p.0))

    made : (c : ℕ) (xs ys : List ℕ) → b ∷ bs ≡ (c ∷ xs) ++ 61 ∷ ys → has_byte 61 (c ∷ xs) ≡ false
        → given (parts (c ∷ xs) ys) ≡ Some (parts k v) → IsPrintablePair (record { key = k; value = v })
    made c xs ys w lacks e =
        let first : b ≡ c = cc in
        let kf = keeps_first c xs (subst (λ x. is_blank x ≡ false) first sharp) in
        let e' : Some (parts (c ∷ kf.left) (trim_line ys))
        ≡ Some (parts k v) = ap (λ ts. option_and_then (λ k. Some (parts k (trim_line ys))) (unless_empty ts))
        (sym kf.is) ∙ e in
        let both : parts (c ∷ kf.left) (trim_line ys) ≡ parts k v = cc in
        let key_is : c ∷ kf.left ≡ k = ap (λ (p : List ℕ × List ℕ). p.0) both in
        let value_is : trim_line ys ≡ v = ap (λ (p : List ℕ × List ℕ). p.1) both in
        let trimmed_is : trim_line (c ∷ xs) ≡ k = kf.is ∙ key_is in
        let line : has_byte 10 ((c ∷ xs) ++ 61 ∷ ys) ≡ false = sym (ap (has_byte 10) w) ∙ h in
        let value_line : has_byte 10 ys ≡ false = or_false_right (eqb 61 10) (has_byte 10 ys)
        (none_right lf (c ∷ xs) (61 ∷ ys) line) in
        let spread : b ∷ bs ≡ c ∷ (kf.left ++ (kf.blanks ++ 61 ∷ ys)) = w ∙ ap (λ zs. c ∷ (zs ++ 61 ∷ ys)) kf.whole
        ∙ ap (λ zs. c ∷ zs) (append_assoc kf.left kf.blanks (61 ∷ ys)) in
        let tight = tight_no_header c kf.left kf.blanks ys (trim_line ys) kf.are_blank (sym (ap header_name spread)
        ∙ no_header) (none_trimmed close ys) in
        record {
          key = record {
            some = subst (λ ks. 0 < length ks) key_is (omega arith);
            trim = subst (λ ks. trim_line ks ≡ ks) trimmed_is (trim_line-trim_line (c ∷ xs));
            on_one_line = subst (λ ks. has_byte 10 ks ≡ false) trimmed_is (none_trimmed lf (c ∷ xs)
                (none_left lf (c ∷ xs) (61 ∷ ys) line));
            unequal = subst (λ ks. has_byte 61 ks ≡ false) trimmed_is (none_trimmed same (c ∷ xs) lacks);
            no_comment = subst (λ ks. begins_with 59 ks
                ≡ false) key_is (subst (λ x. eqb x 59 ≡ false) first no_comment);
          };
          value = record {
            trim = subst (λ vs. trim_line vs ≡ vs) value_is (trim_line-trim_line ys);
            on_one_line = subst (λ vs. has_byte 10 vs ≡ false) value_is (none_trimmed lf ys value_line);
          };
          no_header = subst (λ (p : List ℕ × List ℕ). header_name (p.0 ++ 61 ∷ p.1) ≡ None) both tight;
        }

    by : Split 61 (b ∷ bs) → option_and_then given (split_once 61 (b ∷ bs)) ≡ Some (parts k v)
        → IsPrintablePair (record { key = k; value = v })
    by (none f w) e = let g : None ≡ Some (parts k v) = ap (option_and_then given) (sym f) ∙ e in cc
    by (at [] ys f w lacks) e = let g : None ≡ Some (parts k v) = ap (option_and_then given) (sym f) ∙ e in cc
    by (at (c ∷ xs) ys f w lacks) e = made c xs ys w lacks (ap (option_and_then given) (sym f) ∙ e)

can_print : (line : List ℕ) → has_byte 10 line ≡ false → CanPrint (line_of line)
unfolding line_of
can_print line h = by (trim_line line) (sharp_trimmed line) (none_trimmed (λ c. eqb c 10) line h)
  where
    given : (b : ℕ) (bs : List ℕ) → is_blank b ≡ false → has_byte 10 (b ∷ bs) ≡ false → eqb b 59 ≡ false
        → header_name (b ∷ bs) ≡ None → (o : Option (List ℕ × List ℕ)) → key_value (b ∷ bs) ≡ o
        → CanPrint (pair_or_other o)
    given b bs sharp h no_comment no_header None e = tt
    given b bs sharp h no_comment no_header (Some p) e = pair_of_line b bs p.0 p.1 sharp no_comment h no_header e

    named : (b : ℕ) (bs : List ℕ) → is_blank b ≡ false → has_byte 10 (b ∷ bs) ≡ false → eqb b 59 ≡ false
        → (o : Option (List ℕ)) → header_name (b ∷ bs) ≡ o → CanPrint (header_or o (pair_or_other (key_value (b ∷ bs))))
    named b bs sharp h no_comment None e = given b bs sharp h no_comment e (key_value (b ∷ bs)) refl
    named b bs sharp h no_comment (Some n) e = name_of_header (b ∷ bs) n h e

    unless_comment : (b : ℕ) (bs : List ℕ) → is_blank b ≡ false → has_byte 10 (b ∷ bs) ≡ false → (t : Bool)
        → eqb b 59 ≡ t
        → CanPrint (cond t nothing (header_or (header_name (b ∷ bs)) (pair_or_other (key_value (b ∷ bs)))))
    unless_comment b bs sharp h true e = tt
    unless_comment b bs sharp h false e = named b bs sharp h e (header_name (b ∷ bs)) refl

    by : (ts : List ℕ) → IsSharp ts → has_byte 10 ts ≡ false → CanPrint (meaning ts)
    by [] sharp h = tt
    by (b ∷ bs) sharp h = unless_comment b bs sharp h (eqb b 59) refl

-- no line has an LF
one_line : (text : List ℕ) → AllByRecursion (λ l. has_byte 10 l ≡ false) (lines_of text)
unfolding lines_of
one_line [] = tt
one_line (b ∷ bs) = by (eqb b 10) refl (lines_of bs) (one_line bs)
  where
    by : (t : Bool) → eqb b 10 ≡ t → (ls : List (List ℕ)) → AllByRecursion (λ l. has_byte 10 l ≡ false) ls
        → AllByRecursion (λ l. has_byte 10 l ≡ false) (cond t ([] ∷ ls) (onto_first b ls))
    by true e ls h = (refl, h)
    by false e [] h = (rw e refl, tt)
    by false e (l ∷ ls) h = (rw e h.0, h.1)

can_print_lines : (ls : List (List ℕ)) → AllByRecursion (λ l. has_byte 10 l ≡ false) ls
    → AllByRecursion CanPrint (map line_of ls)
can_print_lines [] h = tt
can_print_lines (l ∷ ls) h = (can_print l h.0, can_print_lines ls h.1)

can_print_names : (ls : List Line) → AllByRecursion CanPrint ls → AllByRecursion IsName (headers ls)
can_print_names [] h = tt
can_print_names (header n ∷ ls) h = (h.0, can_print_names ls h.1)
can_print_names (nothing ∷ ls) h = can_print_names ls h.1
can_print_names (pair k v ∷ ls) h = can_print_names ls h.1
can_print_names (other ∷ ls) h = can_print_names ls h.1

can_print_pairs : (name : List ℕ) (here : Bool) (ls : List Line) → AllByRecursion CanPrint ls
    → AllByRecursion IsPrintablePair (pairs_under name here ls)
can_print_pairs name here [] h = tt
can_print_pairs name here (header n ∷ ls) h = can_print_pairs name (same name n) ls h.1
can_print_pairs name here (nothing ∷ ls) h = can_print_pairs name here ls h.1
can_print_pairs name true (pair k v ∷ ls) h = (h.0, can_print_pairs name true ls h.1)
can_print_pairs name false (pair k v ∷ ls) h = can_print_pairs name false ls h.1
can_print_pairs name here (other ∷ ls) h = can_print_pairs name here ls h.1

module _ {X : Type 0} (e : X → X → Bool) (P : X → Type 0) where
  all_firsts : (xs : List X) → AllByRecursion P xs → AllByRecursion P (firsts e xs)
  all_firsts [] h = tt
  all_firsts (x ∷ xs) h = (h.0, all_filtered e P (λ y. not (e x y)) (firsts e xs) (all_firsts xs h.1))

all_sections : (ls : List Line) → AllByRecursion CanPrint ls → (names : List (List ℕ)) → AllByRecursion IsName names
    → AllByRecursion IsPrintableSection (map (section_of ls) names)
all_sections ls h [] g = tt
all_sections ls h (n ∷ names) g = (
  record {
    name = g.0;
    pairs = all_firsts same_key IsPrintablePair (pairs_under n false ls) (can_print_pairs n false ls h);
    apart = firsts_apart same_key (pairs_under n false ls);
  },
  all_sections ls h names g.1,
)

apart_sections : (ls : List Line) (names : List (List ℕ)) → AreApart same names
    → AreApart same_name (map (section_of ls) names)
apart_sections ls [] h = tt
apart_sections ls (n ∷ names) h = (others names h.0, apart_sections ls names h.1)
  where
    others : (names : List (List ℕ)) → AllByRecursion (λ m. same n m ≡ false) names
        → AllByRecursion (λ s. same_name (section_of ls n) s ≡ false) (map (section_of ls) names)
    others [] h = tt
    others (m ∷ names) h = (h.0, others names h.1)

sections_printable : (ls : List Line) → AllByRecursion CanPrint ls → IsPrintable (sections_of ls)
unfolding sections_of
sections_printable ls h = record {
  each = all_sections ls h (firsts same (headers ls)) (all_firsts same IsName (headers ls) (can_print_names ls h));
  apart = apart_sections ls (firsts same (headers ls)) (firsts_apart same (headers ls));
}

-- what a text gives can be printed
pub read_is_printable : (text : List ℕ) → IsPrintable (content_of text).sections
unfolding content_of
read_is_printable text = sections_printable (line_list (without_mark text))
    (can_print_lines (lines_of (without_mark text)) (one_line (without_mark text)))

-- where no line is warned of, no pair misuses CompactPDO
used_well : (before ls : List Line) (name : List ℕ) (here : Bool)
    → here ≡ option_map_or (same name) (last_header before None) false → warned_after before ls ≡ []
    → AllByRecursion (λ (p : Pair). is_misused p.key p.value ≡ false) (pairs_under name here ls)
used_well before [] name here h w = tt
used_well before (header n ∷ ls) name here h w =
    used_well (before ++ header n ∷ []) ls name (same name n)
    (ap (λ o. option_map_or (same name) o false) (sym (last_header-append before (header n ∷ []) None))) w
used_well before (nothing ∷ ls) name here h w =
    used_well (before ++ nothing ∷ []) ls name here (h
    ∙ ap (λ o. option_map_or (same name) o false) (sym (last_header-append before (nothing ∷ []) None))) w
used_well before (other ∷ ls) name here h w = cc
used_well before (pair k v ∷ ls) name here h w =
    by here (is_warned before (pair k v)) refl h w (λ g. used_well (before ++ pair k v ∷ []) ls name here (h
    ∙ ap (λ o. option_map_or (same name) o false) (sym (last_header-append before (pair k v ∷ []) None))) g)
  where
    rest : List ℕ
    rest = warned_after (before ++ pair k v ∷ []) ls

    spared : (o : Option (List ℕ)) → true ≡ option_map_or (same name) o false
        → option_map_or (λ n. gives_key before n k || is_misused k v) o true ≡ false → is_misused k v ≡ false
    spared None h w = absurd (false≢true (sym h))
    spared (Some n) h w = or_false_right (gives_key before n k) (is_misused k v) w

    by : (here t : Bool) → is_warned before (pair k v) ≡ t
        → here ≡ option_map_or (same name) (last_header before None) false
        → cond t ((length before + 1) ∷ rest) rest ≡ []
        → (rest ≡ [] → AllByRecursion (λ (p : Pair). is_misused p.key p.value ≡ false) (pairs_under name here ls))
        → AllByRecursion (λ (p : Pair). is_misused p.key p.value ≡ false)
        (cond here (record { key = k; value = v } ∷ pairs_under name here ls) (pairs_under name here ls))
    by here true e h w ih = cc
    by false false e h w ih = ih w
    by true false e h w ih = (spared (last_header before None) h e, ih w)

all_used_well : (ls : List Line) → warnings_of ls ≡ [] → (names : List (List ℕ))
    → UsesNoCompactPdo (map (section_of ls) names)
unfolding warnings_of
all_used_well ls w [] = tt
all_used_well ls w (n ∷ names) = (
  all_firsts same_key (λ (p : Pair). is_misused p.key p.value ≡ false)
      (pairs_under n false ls) (used_well [] ls n false refl w),
  all_used_well ls w names,
)

pub quiet_is_used_well : (ls : List Line) → warnings_of ls ≡ [] → UsesNoCompactPdo (sections_of ls)
unfolding sections_of
quiet_is_used_well ls w = all_used_well ls w (firsts same (headers ls))

-- what is read again as it is can be printed
pub again_is_printable : (ss : List Section) → (content_of (text_of ss)).sections ≡ ss → IsPrintable ss
again_is_printable ss h = subst IsPrintable h (read_is_printable (text_of ss))

pub quietly_again : (ss : List Section) → content_of (text_of ss) ≡ record { sections = ss; warnings = [] }
    → IsPrintable ss × UsesNoCompactPdo ss
unfolding content_of
quietly_again ss h =
    let sections_same : (content_of (text_of ss)).sections ≡ ss = ap (λ c. c.sections) h in
    let quiet : (content_of (text_of ss)).warnings ≡ [] = ap (λ c. c.warnings) h in (
      again_is_printable ss sections_same,
      subst UsesNoCompactPdo sections_same (quiet_is_used_well (line_list (without_mark (text_of ss))) quiet),
    )
