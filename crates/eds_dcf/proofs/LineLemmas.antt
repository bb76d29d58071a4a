-- Keys and values that can stand in a line of INI text.
use Rattle.std.proofs.Common.{◌≡◌, ◌==◌, ℕ, zero, suc, ◌/◌, ◌%◌, ◌<◌, ◌≤◌, Bool, true, false, cond, not, ◌&&◌, List, []}
use Rattle.std.proofs.Common.{◌∷◌, ◌++◌, length, reverse, codes, decimal, refl, sym, ap, subst, ◌∙◌, lit<, arith, ℤ}
use Rattle.std.proofs.Common.{pos, negsuc, ◌⊎◌, inl, inr, None}
use Rattle.std.proofs.lemmas.Bool.{or_from, lt-ltb}
use Rattle.std.proofs.lemmas.Bool.Decides.{nat_tests}
use Rattle.std.proofs.lemmas.List.{reverse-append}
use Rattle.std.specs.Char.{is_digit, to_ascii_lowercase}
use Rattle.std.specs.Fmt.{digit_glyph, digits, digits_onto, signed_decimal}
use Rattle.std.specs.List.{AllByRecursion, list_all}
use Rattle.std.specs.Str.{byte}
use Rattle.ini_text.specs.Content.{Pair, lower_case, same}
use Rattle.ini_text.specs.Line.{header_name}
use Rattle.ini_text.specs.Printable.{begins_with, has_byte, IsKey, IsName, IsPrintablePair, IsValue}
use Rattle.ini_text.specs.Text.{is_blank, trim_line}
use Rattle.ini_text.proofs.BytesLemmas.{IsSharp, trimmed_sharp}
use Rattle.ini_text.proofs.NameLemmas.{same_folded}
use Rattle.eds_dcf.specs.Compact.{is_decimal}

-- ---- bytes that are no blanks and end no line

abbrev pub IsPlain : List ℕ → Type 0
IsPlain bs = AllByRecursion (λ c. byte "!" ≤ c) bs

not_blank : (c : ℕ) → byte "!" ≤ c → is_blank c ≡ false
not_blank c h = grind (arith, nat_tests)

no_feed : (c : ℕ) → byte "!" ≤ c → (c == 10) ≡ false
no_feed c h = grind (arith, nat_tests)

sharp_plain : (bs : List ℕ) → IsPlain bs → IsSharp bs
sharp_plain [] h = tt
sharp_plain (b ∷ bs) h = not_blank b h.0

plain_push : (bs : List ℕ) (b : ℕ) → IsPlain bs → byte "!" ≤ b → IsPlain (bs ++ b ∷ [])
plain_push [] b h g = (g, tt)
plain_push (c ∷ cs) b h g = (h.0, plain_push cs b h.1 g)

plain_reverse : (bs : List ℕ) → IsPlain bs → IsPlain (reverse bs)
plain_reverse [] h = tt
plain_reverse (b ∷ bs) h = subst IsPlain (sym (reverse-append (b ∷ []) bs))
    (plain_push (reverse bs) b (plain_reverse bs h.1) h.0)

plain_trim : (bs : List ℕ) → IsPlain bs → trim_line bs ≡ bs
plain_trim bs h = trimmed_sharp bs (sharp_plain bs h) (sharp_plain (reverse bs) (plain_reverse bs h))

plain_line : (bs : List ℕ) → IsPlain bs → has_byte 10 bs ≡ false
plain_line [] h = refl
plain_line (b ∷ bs) h = or_from (b == 10) (has_byte 10 bs) (no_feed b h.0) (plain_line bs h.1)

pub plain_value : (bs : List ℕ) → IsPlain bs → IsValue bs
plain_value bs h = record { trim = plain_trim bs h; on_one_line = plain_line bs h }

-- a name of such bytes, none of them `]`
pub plain_name : (bs : List ℕ) → 0 < length bs → IsPlain bs → has_byte (byte "]") bs ≡ false → IsName bs
plain_name bs some h closed = record {
  some = some;
  trim = plain_trim bs h;
  on_one_line = plain_line bs h;
  unclosed = closed;
}

pub plain_append : (bs cs : List ℕ) → IsPlain bs → IsPlain cs → IsPlain (bs ++ cs)
plain_append [] cs h g = g
plain_append (b ∷ bs) cs h g = (h.0, plain_append bs cs h.1 g)

-- ---- decimal digits

abbrev pub AreNumerals : List ℕ → Type 0
AreNumerals bs = AllByRecursion (λ c. (byte "0" ≤ c) × (c ≤ byte "9")) bs

numeral_glyph : (n : ℕ) → (byte "0" ≤ digit_glyph false (n % 10)) × (digit_glyph false (n % 10) ≤ byte "9")
numeral_glyph n = by (n % 10) (omega arith)
  where
    by : (d : ℕ) → d < 10 → (byte "0" ≤ digit_glyph false d) × (digit_glyph false d ≤ byte "9")
    by d h = rw (lt-ltb d 10 h) (omega arith, omega arith)

onto_all : (k n : ℕ) (acc : List ℕ) → AreNumerals acc → AreNumerals (digits_onto k 10 false n acc)
onto_all zero n acc h = h
onto_all (suc k) n acc h = by (n / 10 == 0)
    (onto_all k (n / 10) (digit_glyph false (n % 10) ∷ acc) (numeral_glyph n, h))
  where
    by : (t : Bool) → AreNumerals (digits_onto k 10 false (n / 10) (digit_glyph false (n % 10) ∷ acc))
        → AreNumerals (cond t (digit_glyph false (n % 10) ∷ acc)
        (digits_onto k 10 false (n / 10) (digit_glyph false (n % 10) ∷ acc)))
    by true rest = (numeral_glyph n, h)
    by false rest = rest

onto_longer : (k n : ℕ) (acc : List ℕ) → length acc ≤ length (digits_onto k 10 false n acc)
onto_longer zero n acc = omega arith
onto_longer (suc k) n acc = by (n / 10 == 0) (onto_longer k (n / 10) (digit_glyph false (n % 10) ∷ acc))
  where
    by : (t : Bool)
        → length (digit_glyph false (n % 10) ∷ acc) ≤ length (digits_onto k 10 false (n / 10)
        (digit_glyph false (n % 10) ∷ acc))
        → length acc ≤ length (cond t (digit_glyph false (n % 10) ∷ acc)
        (digits_onto k 10 false (n / 10) (digit_glyph false (n % 10) ∷ acc)))
    by true rest = omega arith
    by false rest = omega arith

onto_some : (k n : ℕ) → 0 < length (digits_onto (suc k) 10 false n [])
onto_some k n = by (n / 10 == 0) (onto_longer k (n / 10) (digit_glyph false (n % 10) ∷ []))
  where
    by : (t : Bool) → 1 ≤ length (digits_onto k 10 false (n / 10) (digit_glyph false (n % 10) ∷ []))
        → 0 < length (cond t (digit_glyph false (n % 10) ∷ [])
        (digits_onto k 10 false (n / 10) (digit_glyph false (n % 10) ∷ [])))
    by true rest = omega arith
    by false rest = omega arith

pub decimal_numerals : (n : ℕ) → AreNumerals (decimal n)
unfolding digits
decimal_numerals n = onto_all 64 n [] tt

pub decimal_some : (n : ℕ) → 0 < length (decimal n)
unfolding digits
decimal_some n = onto_some 63 n

numerals_plain : (bs : List ℕ) → AreNumerals bs → IsPlain bs
numerals_plain [] h = tt
numerals_plain (b ∷ bs) h = (omega (arith, h.0.0), numerals_plain bs h.1)

pub decimal_plain : (n : ℕ) → IsPlain (decimal n)
decimal_plain n = numerals_plain (decimal n) (decimal_numerals n)

pub decimal_value : (n : ℕ) → IsValue (decimal n)
decimal_value n = plain_value (decimal n) (decimal_plain n)

pub signed_plain : (z : ℤ) → IsPlain (signed_decimal z)
signed_plain (pos n) = decimal_plain n
signed_plain (negsuc n) = (omega arith, decimal_plain (suc n))

pub signed_value : (z : ℤ) → IsValue (signed_decimal z)
signed_value z = plain_value (signed_decimal z) (signed_plain z)

numeral_digit : (c : ℕ) → (byte "0" ≤ c) × (c ≤ byte "9") → is_digit c 10 ≡ true
numeral_digit c h = let low : byte "0" ≤ c = h.0 in let high : c ≤ byte "9" = h.1 in grind (arith, nat_tests)

all_numerals : (bs : List ℕ) → AreNumerals bs → list_all (λ c. is_digit c 10) bs ≡ true
all_numerals [] h = refl
all_numerals (b ∷ bs) h = rw (numeral_digit b h.0) (all_numerals bs h.1)

some_test : (n : ℕ) → 0 < n → not (n == 0) ≡ true
some_test n h = grind (arith, nat_tests)

numerals_decimal : (bs : List ℕ) → 0 < length bs → AreNumerals bs → is_decimal bs ≡ true
numerals_decimal bs some h = ap (λ t. t && list_all (λ c. is_digit c 10) bs) (some_test (length bs) some)
    ∙ all_numerals bs h

pub decimal_is_decimal : (n : ℕ) → is_decimal (decimal n) ≡ true
decimal_is_decimal n = numerals_decimal (decimal n) (decimal_some n) (decimal_numerals n)

-- ---- keys

-- a key that makes no header, in any case of letters
abbrev pub IsOpen : List ℕ → Type 0
IsOpen key = begins_with (byte "[") (lower_case key) ≡ false

open_first : (c : ℕ) → (to_ascii_lowercase c == byte "[") ≡ false → (c == byte "[") ≡ false
open_first c h = grind (arith, nat_tests)

no_header : (key value : List ℕ) → IsOpen key → header_name (key ++ byte "=" ∷ value) ≡ None
unfolding header_name
no_header [] value h = refl
no_header (c ∷ cs) value h = rw (open_first c h) refl

pub open_same : (key k : List ℕ) → same key k ≡ true → IsOpen key → IsOpen k
open_same key k h o = ap (begins_with (byte "[")) (sym (same_folded key k h)) ∙ o

pub set_pair : (key value : List ℕ) → IsKey key → IsOpen key → IsValue value
    → IsPrintablePair (record { key = key; value = value })
set_pair key value k o v = record { key = k; value = v; no_header = no_header key value o }

-- a key with another value
pub pair_again : (p : Pair) (value : List ℕ) → IsPrintablePair p → IsOpen p.key → IsValue value
    → IsPrintablePair (record { key = p.key; value = value })
pair_again p value h o v = set_pair p.key value h.key o v

no_numeral : (b c : ℕ) → (byte "0" ≤ c) × (c ≤ byte "9") → (b < byte "0") ⊎ (byte "9" < b) → (c == b) ≡ false
no_numeral b c h (inl low) = let first : byte "0" ≤ c = h.0 in grind (arith, nat_tests)
no_numeral b c h (inr high) = let last : c ≤ byte "9" = h.1 in grind (arith, nat_tests)

numerals_without : (b : ℕ) (bs : List ℕ) → AreNumerals bs → (b < byte "0") ⊎ (byte "9" < b) → has_byte b bs ≡ false
numerals_without b [] h out = refl
numerals_without b (c ∷ cs) h out = or_from (c == b) (has_byte b cs) (no_numeral b c h.0 out)
    (numerals_without b cs h.1 out)

numerals_begin : (b : ℕ) (bs : List ℕ) → AreNumerals bs → (b < byte "0") ⊎ (byte "9" < b) → begins_with b bs ≡ false
numerals_begin b [] h out = refl
numerals_begin b (c ∷ cs) h out = no_numeral b c h.0 out

numeral_lower : (c : ℕ) → (byte "0" ≤ c) × (c ≤ byte "9") → (to_ascii_lowercase c == byte "[") ≡ false
numeral_lower c h = let low : byte "0" ≤ c = h.0 in let high : c ≤ byte "9" = h.1 in grind (arith, nat_tests)

numerals_open : (bs : List ℕ) → AreNumerals bs → IsOpen bs
numerals_open [] h = refl
numerals_open (c ∷ cs) h = numeral_lower c h.0

pub decimal_key : (n : ℕ) → IsKey (decimal n)
decimal_key n = record {
  some = decimal_some n;
  trim = plain_trim (decimal n) (decimal_plain n);
  on_one_line = plain_line (decimal n) (decimal_plain n);
  unequal = numerals_without (byte "=") (decimal n) (decimal_numerals n) (inr (lit< tt));
  no_comment = numerals_begin (byte ";") (decimal n) (decimal_numerals n) (inr (lit< tt));
}

pub decimal_open : (n : ℕ) → IsOpen (decimal n)
decimal_open n = numerals_open (decimal n) (decimal_numerals n)

pub parameter_key : IsKey (codes "ParameterValue")
unfolding trim_line
parameter_key = record { some = lit< tt; trim = refl; on_one_line = refl; unequal = refl; no_comment = refl }

pub count_key : IsKey (codes "NrOfEntries")
unfolding trim_line
count_key = record { some = lit< tt; trim = refl; on_one_line = refl; unequal = refl; no_comment = refl }

pub node_key : IsKey (codes "NodeID")
unfolding trim_line
node_key = record { some = lit< tt; trim = refl; on_one_line = refl; unequal = refl; no_comment = refl }

pub node_name_key : IsKey (codes "NodeName")
unfolding trim_line
node_name_key = record { some = lit< tt; trim = refl; on_one_line = refl; unequal = refl; no_comment = refl }

pub rate_key : IsKey (codes "Baudrate")
unfolding trim_line
rate_key = record { some = lit< tt; trim = refl; on_one_line = refl; unequal = refl; no_comment = refl }
