-- Of the texts that std reads as floats, the words give no finite one.
use Rattle.std.proofs.Common.{◌≡◌, ℕ, ◌+◌, ◌≤◌, Bool, true, false, cond, true≢false, ◌&&◌, ◌||◌, List, [], ◌∷◌, length, drop, Option, Some, None, option_map, option_and_then, if◌then◌else◌, ◌==◌, is_some, slice_index}
use Rattle.std.proofs.Common.{refl, sym, ap, ◌∙◌, arith, inl, inr, lt-ltb, le-leb, ne_eqb, eqb-true}
use borrow.Author.Tests.{lt-leb}
use lib.Ieee.{Float, Format}
use Rattle.std.proofs.Math.Bool.{or_comm}
use Rattle.std.proofs.lemmas.Bool.{cases_lt}
use Rattle.std.proofs.lemmas.Float.Parse.{is_some-parse_float}
use Rattle.std.specs.Prelude.{⊤, codes}
use Rattle.std.specs.Char.{is_ascii_digit, to_ascii_lowercase}
use Rattle.std.specs.Float.{float_is_finite}
use Rattle.std.specs.Float.Numeral.{scan_numeral, has_digits}
use Rattle.std.specs.Float.Parse.{parse_float, read_float, read_unsigned, read_word, begins_with, sign_len, without_sign, is_float_text, is_infinity_text, is_nan_text, completes_number, lowercases_to}
use Rattle.byteorder.specs.Endian.{little_bytes}
use Rattle.real_texts.specs.Reals.{octets, finite_bits}
use Rattle.real_texts.specs.Texts.{real_bits, real_value}

-- ---- a word begins with a letter

-- the bytes begin with a letter, or with a byte above all letters
abbrev IsLettered : List ℕ → Type 0
IsLettered [] = ⊥
IsLettered (c ∷ cs) = 65 ≤ c

lettered : (c w : ℕ) → to_ascii_lowercase c ≡ w → 65 ≤ w → 65 ≤ c
lettered c w e h = elim (cases_lt c 65) [
  | inl l ↦ absurd (omega (arith, sym (rw (lt-ltb c 65 l) at e)))
  | inr g ↦ g
]

both_left : (a b : Bool) → (a && b) ≡ true → a ≡ true
both_left true b e = refl
both_left false b e = e

spelled : (text : List ℕ) (w : ℕ) (ws : List ℕ) → 65 ≤ w → lowercases_to text (w ∷ ws) ≡ true → IsLettered text
spelled [] w ws h e = absurd (true≢false (sym e))
spelled (c ∷ cs) w ws h e = lettered c w (eqb-true _ _ (both_left _ _ e)) h

one_of_three : (a b c : Bool) → ((a || b) || c) ≡ true → (X : Type 0) → (a ≡ true → X) → (b ≡ true → X) → (c ≡ true → X) → X
one_of_three true b c e X p q r = p refl
one_of_three false true c e X p q r = q refl
one_of_three false false c e X p q r = r e

word_is_lettered : (text : List ℕ) → (is_infinity_text text || is_nan_text text) ≡ true → IsLettered text
word_is_lettered text e = one_of_three _ _ _ e (IsLettered text) (spelled text 105 _ (omega arith)) (spelled text 105 _ (omega arith)) (spelled text 110 _ (omega arith))

-- ---- such a text has no digits

no_digits : (text : List ℕ) → IsLettered text → has_digits (scan_numeral text) ≡ false
unfolding scan_numeral
no_digits [] h = absurd h
no_digits (c ∷ cs) h =
    let digit : is_ascii_digit c ≡ false = rw (le-leb 48 c (omega arith), lt-leb c 57 (omega arith)) in
    let dot : (c == 46) ≡ false = ne_eqb c 46 (λ e. omega arith) in
    rw (digit, dot)

-- ---- and gives no finite float

NoneFinite : Option (Float × ℕ) → Type 0
NoneFinite None = ⊤
NoneFinite (Some r) = float_is_finite r.0 ≡ false

choice : (b : Bool) (x y : Option (Float × ℕ)) → NoneFinite x → NoneFinite y → NoneFinite (cond b x y)
choice true x y p q = p
choice false x y p q = q

word_not_finite : (negative : Bool) (text : List ℕ) → NoneFinite (read_word negative text)
unfolding NoneFinite float_is_finite
word_not_finite negative text =
    choice (begins_with text (codes "infinity")) _ _ refl
    (choice (begins_with text (codes "inf")) _ _ refl
    (choice (begins_with text (codes "nan")) _ _ refl tt))

unsigned_not_finite : (f : Format) (negative : Bool) (text : List ℕ) → IsLettered text → NoneFinite (read_unsigned f negative text)
unsigned_not_finite f negative text h = rw (no_digits text h) (word_not_finite negative text)

-- the whole text gives none either
none_given : (f : Format) (k n : ℕ) (o : Option (Float × ℕ)) → NoneFinite o
    → option_and_then (finite_bits f) (option_and_then (λ (r : Float × ℕ). if r.1 == n then Some r.0 else None) (option_map (λ (r : Float × ℕ). (r.0, k + r.1)) o)) ≡ None
unfolding NoneFinite
none_given f k n None h = refl
none_given f k n (Some r) h = go (k + r.1 == n)
  where
    go : (b : Bool) → option_and_then (finite_bits f) (cond b (Some r.0) None) ≡ None
    go true = rw h
    go false = refl

after_sign : (text : List ℕ) → drop (sign_len text) text ≡ without_sign text
after_sign text = rw (or_comm (slice_index text 0 == 45) (slice_index text 0 == 43))

words_give_none : (f : Format) (text : List ℕ) → IsLettered (without_sign text) → real_bits f text ≡ None
unfolding real_bits read_float
words_give_none f text h =
    none_given f (sign_len text) (length text) _ (unsigned_not_finite f _ (drop (sign_len text) text) (rw (after_sign text) h))

-- ---- so a value is a number's

is_given : (f : Format) (o : Option Float) (bytes : List ℕ) → option_map (little_bytes (octets f)) (option_and_then (finite_bits f) o) ≡ Some bytes → is_some o ≡ true
is_given f None bytes e = cc
is_given f (Some x) bytes e = refl

pub numbers_alone_are_read : (f : Format) (text bytes : List ℕ) → real_value f text ≡ Some bytes → completes_number 0 (without_sign text) ≡ true
unfolding real_bits
numbers_alone_are_read f text bytes e = go (completes_number 0 (without_sign text)) refl
  where
    float : is_float_text text ≡ true
    float = sym (is_some-parse_float f text) ∙ is_given f (parse_float f text) bytes e

    go : (b : Bool) → completes_number 0 (without_sign text) ≡ b → b ≡ true
    go true is = refl
    go false is =
        let word = rw is at float in
        let none : real_bits f text ≡ None = words_give_none f text (word_is_lettered (without_sign text) word) in
        absurd (true≢false (sym (ap is_some e) ∙ ap (λ o. is_some (option_map (little_bytes (octets f)) o)) none))
