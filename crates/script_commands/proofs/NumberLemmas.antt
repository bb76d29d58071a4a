-- Printed numbers, names and other words, each read again.
use Rattle.std.proofs.Common.{◌≡◌, ℕ, ◌^◌, ◌<◌, ◌≤◌, true, List, [], ◌∷◌, length, refl, inl, inr, lit<, lit≤, arith}
use Rattle.std.specs.Prelude.{nat_le, Ok, Some, decimal}
use Rattle.std.specs.List.{list_all}
use Rattle.std.specs.Char.{digit_value}
use Rattle.std.specs.Str.Parse.{AllDigits}
use Rattle.std.proofs.lemmas.Bool.{and_parts, cases_lt, lt-ltb, le-ltb, leb-true}
use Rattle.std.proofs.lemmas.Bool.Decides.{nat_tests}
use Rattle.std.proofs.lemmas.Fmt.{decimal_is_IsNumeral, length-decimal-le}
use Rattle.base.specs.Digits.{digits_number, byte_digits, index_digits, identifier_digits}
use Rattle.base.proofs.DigitLemmas as digits
use Rattle.base.specs.Ranges.{is_between}
use Rattle.project_edits.specs.Forms.{is_name, is_name_byte}
use Rattle.script_commands.specs.Words.{name, number, hexadecimal}
use Rattle.script_commands.specs.Words.{decimal as decimal_word}
use Rattle.script_commands.proofs.WordLemmas.{is_visible, IsWord}

-- ---- digits

-- a digit is a byte above the space
visible_digit : (c base : ℕ) → digit_value c < base → base ≤ 16 → is_visible c ≡ true
visible_digit c base h low = elim (cases_lt 32 c) [
  | inl above ↦ lt-ltb 32 c above
  | inr below ↦ absurd (omega (arith, none c below))
]
  where
    none : (c : ℕ) → c ≤ 32 → digit_value c ≡ 36
    none c below = grind (arith, nat_tests)

visible_digits : (base : ℕ) (cs : List ℕ) → base ≤ 16 → AllDigits base cs → list_all is_visible cs ≡ true
visible_digits base [] low h = refl
visible_digits base (c ∷ cs) low h = rw (visible_digit c base h.0 low) (visible_digits base cs low h.1)

-- the number of some digits, not too many
number_is : (base most n : ℕ) (cs : List ℕ) → length cs ≤ most → digits_number base cs ≡ Some n
    → number base most cs ≡ Ok n
number_is base most n cs few is = rw (le-ltb most (length cs) few, is) refl

-- ---- decimal numbers

pub number_word : (n : ℕ) → n < 10 ^ 10 → IsWord 10 (decimal n)
number_word n h =
    let is = decimal_is_IsNumeral n (omega arith) in
    record {
      some = is.0.0;
      few = length-decimal-le 10 n (lit< tt) h (omega arith);
      visible = visible_digits 10 (decimal n) (lit≤ tt) is.0.1;
    }

pub decimal_again : (n : ℕ) → n < 10 ^ 10 → decimal_word (decimal n) ≡ Ok n
decimal_again n h = number_is 10 10 n (decimal n) (number_word n h).few (digits.decimal_again n (omega arith))

-- ---- hexadecimal numbers

pub index_is_word : (n : ℕ) → n ≤ 65535 → IsWord 10 (index_digits n)
index_is_word n h = record {
  some = lit< tt;
  few = lit≤ tt;
  visible = visible_digits 16 (index_digits n) (lit≤ tt)
      (digits.index_is_digits n h);
}

pub sub_is_word : (n : ℕ) → n ≤ 255 → IsWord 10 (byte_digits n)
sub_is_word n h = record {
  some = lit< tt;
  few = lit≤ tt;
  visible = visible_digits 16 (byte_digits n) (lit≤ tt)
      (digits.byte_is_digits n h);
}

pub identifier_is_word : (n : ℕ) → n ≤ 2047 → IsWord 10 (identifier_digits n)
identifier_is_word n h = record {
  some = lit< tt;
  few = lit≤ tt;
  visible = visible_digits 16 (identifier_digits n)
      (lit≤ tt) (digits.identifier_is_digits n (omega arith));
}

pub index_again : (n : ℕ) → n ≤ 65535 → hexadecimal 4 (index_digits n) ≡ Ok n
index_again n h = number_is 16 4 n (index_digits n) (lit≤ tt) (digits.index_again n h)

pub sub_again : (n : ℕ) → n ≤ 255 → hexadecimal 2 (byte_digits n) ≡ Ok n
sub_again n h = number_is 16 2 n (byte_digits n) (lit≤ tt) (digits.byte_again n h)

pub identifier_again : (n : ℕ) → n ≤ 2047 → hexadecimal 3 (identifier_digits n) ≡ Ok n
identifier_again n h = number_is 16 3 n (identifier_digits n) (lit≤ tt) (digits.identifier_again n (omega arith))

-- ---- names

visible_name : (w : List ℕ) → list_all is_name_byte w ≡ true → list_all is_visible w ≡ true
visible_name [] h = refl
visible_name (b ∷ w) h =
    let both = and_parts (is_name_byte b) (list_all is_name_byte w) h in
    rw (one b both.0) (visible_name w both.1)
  where
    one : (b : ℕ) → is_name_byte b ≡ true → is_visible b ≡ true
    one b h = grind (arith, nat_tests)

pub name_word : (w : List ℕ) → is_name w ≡ true → IsWord 32 w
name_word w h =
    let all = and_parts (is_between 1 32 (length w)) (list_all is_name_byte w) h in
    let sizes = and_parts (nat_le 1 (length w)) (nat_le (length w) 32) all.0 in
    record {
      some = omega (arith, leb-true 1 (length w) sizes.0);
      few = leb-true (length w) 32 sizes.1;
      visible = visible_name w all.1;
    }

pub name_again : (w : List ℕ) → is_name w ≡ true → name w ≡ Ok w
name_again w h = rw h refl
