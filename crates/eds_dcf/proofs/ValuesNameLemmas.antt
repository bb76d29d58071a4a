-- The names of the sections that are made, and what a name `xxxxValue` says.
use Rattle.std.proofs.Common.{◌≡◌, ◌==◌, ℕ, ◌+◌, ◌*◌, ◌/◌, ◌%◌, ◌<◌, ◌≤◌, Bool, true, false, cond, ◌&&◌, List, [], ◌∷◌}
use Rattle.std.proofs.Common.{◌++◌, length, take, drop, map, codes, None, Some, refl, sym, ap, ◌∙◌, lit<, lit≤, nat_lt}
use Rattle.std.proofs.Common.{bytes_eq, arith}
use Rattle.std.proofs.lemmas.Bool.{lt-ltb, ltb-true}
use Rattle.std.proofs.lemmas.Bool.Decides.{nat_tests}
use Rattle.std.proofs.lemmas.Int.Digits.{digits_value_is}
use Rattle.std.proofs.lemmas.List.{drop-map, length-map, take-map}
use Rattle.std.specs.Char.{digit_value, is_digit, to_ascii_lowercase}
use Rattle.std.specs.Fmt.{digit_glyph}
use Rattle.std.specs.Int.Digits.{number_from_digits}
use Rattle.std.specs.List.{list_all}
use Rattle.std.specs.Str.{byte}
use Rattle.std.specs.Str.Parse.{digits_value}
use Rattle.ini_text.proofs.NameLemmas.{same_folded}
use Rattle.ini_text.specs.Content.{lower_case, same}
use Rattle.ini_text.specs.Printable.{has_byte, IsName}
use Rattle.base.specs.Digits.{digits_number}
use Rattle.eds_device.specs.Names.{index_named, values_named}
use Rattle.eds_dcf.specs.Commissioning.{first_spelling}
use Rattle.eds_dcf.specs.Compact.{values_name}
use Rattle.eds_dcf.proofs.CompactLemmas.{untrue}
use Rattle.eds_dcf.proofs.LineLemmas.{plain_name}

glyph_value : (d : ℕ) → d < 16 → digit_value (digit_glyph true d) ≡ d
glyph_value d h = grind (arith, nat_tests)

glyph_digit : (d : ℕ) → d < 16 → is_digit (digit_glyph true d) 16 ≡ true
glyph_digit d h = lt-ltb (digit_value (digit_glyph true d)) 16 (omega (arith, glyph_value d h))

four_back : (a b c d : ℕ) → a < 16 → b < 16 → c < 16 → d < 16
    → digits_number 16 (digit_glyph true a ∷ digit_glyph true b ∷ digit_glyph true c ∷ digit_glyph true d ∷ [])
    ≡ Some (4096 * a + 256 * b + 16 * c + d)
four_back a b c d ha hb hc hd =
    let digits = digit_glyph true a ∷ digit_glyph true b ∷ digit_glyph true c ∷ digit_glyph true d ∷ [] in
    let all : list_all (λ d. is_digit d 16) digits
    ≡ true = rw (glyph_digit a ha, glyph_digit b hb, glyph_digit c hc, glyph_digit d hd) refl in
    ap (λ (t : Bool). cond t (Some (digits_value 16 digits)) None) all
    ∙ ap Some (omega (arith, glyph_value a ha, glyph_value b hb, glyph_value c hc, glyph_value d hd))

-- the name says the index that it was made of
pub named_back : (index : ℕ) → index < 0x10000 → values_named (values_name index) ≡ Some index
unfolding values_named index_named
named_back index h =
    let whole : 4096 * (index / 4096) + 256 * (index / 256 % 16) + 16 * (index / 16 % 16) + index % 16
    ≡ index = omega arith in
    four_back (index / 4096) (index / 256 % 16) (index / 16 % 16) (index % 16) (omega arith) (omega arith) (omega arith)
    (omega arith) ∙ ap Some whole

glyph_bytes : (d : ℕ) → d < 16 → (byte "!" ≤ digit_glyph true d) × (digit_glyph true d ≤ byte "F")
glyph_bytes d h = by (nat_lt d 10) refl
  where
    by : (t : Bool) → nat_lt d 10 ≡ t → (byte "!" ≤ cond t (48 + d) (55 + d)) × (cond t (48 + d) (55 + d) ≤ byte "F")
    by true e = let low : d < 10 = ltb-true d 10 e in (omega arith, omega arith)
    by false e = (omega arith, omega arith)

not_closed : (c : ℕ) → c ≤ byte "F" → (c == byte "]") ≡ false
not_closed c h = grind (arith, nat_tests)

four_open : (a b c d : ℕ) → a ≤ byte "F" → b ≤ byte "F" → c ≤ byte "F" → d ≤ byte "F"
    → has_byte (byte "]") ((a ∷ b ∷ c ∷ d ∷ []) ++ codes "Value") ≡ false
four_open a b c d ha hb hc hd = rw (not_closed a ha, not_closed b hb, not_closed c hc, not_closed d hd) refl

-- and it can be printed
pub values_name_is_name : (index : ℕ) → index < 0x10000 → IsName (values_name index)
values_name_is_name index h =
    let a = glyph_bytes (index / 4096) (omega arith) in
    let b = glyph_bytes (index / 256 % 16) (omega arith) in
    let c = glyph_bytes (index / 16 % 16) (omega arith) in
    let d = glyph_bytes (index % 16) (omega arith) in
    plain_name (values_name index) (lit< tt)
    (a.0, (b.0, (c.0, (d.0, (lit≤ tt, (lit≤ tt, (lit≤ tt, (lit≤ tt, (lit≤ tt, tt)))))))))
    (four_open _ _ _ _ a.1 b.1 c.1 d.1)

-- it is no name of the node's section, which is longer
pub not_the_node : (index : ℕ) → same first_spelling (values_name index) ≡ false
not_the_node index = untrue (same first_spelling (values_name index))
    (λ h. let long : length first_spelling ≡ length (values_name index) =
    sym (length-map first_spelling to_ascii_lowercase) ∙ ap length (same_folded first_spelling (values_name index) h)
    ∙ length-map (values_name index) to_ascii_lowercase in absurd (omega arith))

-- ---- letters in any case

lower_value : (c : ℕ) → digit_value (to_ascii_lowercase c) ≡ digit_value c
lower_value c = grind (arith, nat_tests)

lower_lower : (c : ℕ) → to_ascii_lowercase (to_ascii_lowercase c) ≡ to_ascii_lowercase c
lower_lower c = grind (arith, nat_tests)

folded_folded : (bs : List ℕ) → lower_case (lower_case bs) ≡ lower_case bs
folded_folded [] = refl
folded_folded (b ∷ bs) = λ i. lower_lower b i ∷ folded_folded bs i

digits_folded : (cs : List ℕ) → list_all (λ d. is_digit d 16) (lower_case cs) ≡ list_all (λ d. is_digit d 16) cs
digits_folded [] = refl
digits_folded (c ∷ cs) = ap (λ v. nat_lt v 16 && list_all (λ d. is_digit d 16) (lower_case cs)) (lower_value c)
    ∙ ap (λ t. is_digit c 16 && t) (digits_folded cs)

values_folded : (cs : List ℕ) → map digit_value (lower_case cs) ≡ map digit_value cs
values_folded [] = refl
values_folded (c ∷ cs) = λ i. lower_value c i ∷ values_folded cs i

value_folded : (cs : List ℕ) → digits_value 16 (lower_case cs) ≡ digits_value 16 cs
value_folded cs = digits_value_is 16 (lower_case cs) ∙ ap (number_from_digits 16) (values_folded cs)
    ∙ sym (digits_value_is 16 cs)

number_folded : (cs : List ℕ) → digits_number 16 (lower_case cs) ≡ digits_number 16 cs
number_folded [] = refl
number_folded (c ∷ cs) =
    ap (λ (t : Bool). cond t (Some (digits_value 16 (lower_case (c ∷ cs)))) None) (digits_folded (c ∷ cs))
    ∙ ap (λ n. cond (list_all (λ d. is_digit d 16) (c ∷ cs)) (Some n) None) (value_folded (c ∷ cs))

index_folded : (name : List ℕ) → index_named (lower_case name) ≡ index_named name
unfolding index_named
index_folded name =
    ap (λ n. cond (n == 4) (digits_number 16 (lower_case name)) None) (length-map name to_ascii_lowercase)
    ∙ ap (λ o. cond (length name == 4) o None) (number_folded name)

same_fold : (a b : List ℕ) → same (lower_case a) b ≡ same a b
same_fold a b = ap (λ f. bytes_eq f (lower_case b)) (folded_folded a)

values_folded_name : (name : List ℕ) → values_named (lower_case name) ≡ values_named name
unfolding values_named
values_folded_name name =
    ap (λ n. cond (same n (codes "Value")) (index_named (take 4 (lower_case name))) None)
    (drop-map to_ascii_lowercase 4 name)
    ∙ ap (λ t. cond t (index_named (take 4 (lower_case name))) None) (same_fold (drop 4 name) (codes "Value"))
    ∙ ap (λ o. cond (same (drop 4 name) (codes "Value")) o None)
    (ap index_named (take-map to_ascii_lowercase 4 name) ∙ index_folded (take 4 name))

-- names that are equal without case say the same
pub values_named_same : (a b : List ℕ) → same a b ≡ true → values_named a ≡ values_named b
values_named_same a b h = sym (values_folded_name a) ∙ ap values_named (same_folded a b h) ∙ values_folded_name b
