-- What is kept of a text gives what the text spells.
use Rattle.std.proofs.Common.{◌≡◌, ℕ, ◌+◌, ◌*◌, ◌^◌, ◌==◌, ◌≤◌, ℤ, pos, negsuc, Bool, true, false, List, [], ◌∷◌, take, drop, Option}
use Rattle.std.proofs.Common.{None, Some, refl, sym, ap, ◌∙◌, arith, suc, T, subst, eqb→eq, ltb-false}
use Rattle.std.specs.Prelude.{if◌then◌else◌, nat_lt, ◌||◌, ◌&&◌, option_map, option_and_then, position, is_some}
use Rattle.std.specs.Option.{option_or, option_map_or}
use Rattle.std.specs.Str.{byte}
use Rattle.std.proofs.lemmas.Bool.{le-ltb}
use Rattle.base.specs.Blanks.{without_first_blanks, without_last_blanks}
use Rattle.base.specs.Digits.{digits_number}
use Rattle.byteorder.specs.Endian.{little_bytes}
use Rattle.co_values.specs.declared.data_type.DataType.{DataType}
use Rattle.co_values.specs.declared.form.Form.{Form}
use Rattle.co_values.specs.declared.form.Form.TheVariants.{Flag, Signed, Unsigned, Decimal, Characters, HexPairs, Unmodelled}
use Rattle.co_values.specs.declared.form.Width.{Width}
use Rattle.co_values.specs.declared.form.Width.TheVariants.{Bits8, Bits16, Bits24, Bits32, Bits40, Bits48, Bits56, Bits64}
use Rattle.co_values.specs.declared.formula.Formula.{Formula}
use Rattle.co_values.specs.declared.formula.Formula.TheVariants.{Nothing, Negative, Number, Hexadecimal, Node, NodePlus}
use Rattle.co_values.specs.Number.{formula, formula_in, hexadecimal, is_node_id, number, number_of, digits_of, sum_of_terms}
use Rattle.co_values.specs.Number.{below_limit, of_number, of_node, term_of_sum, term_beside, in_range, node_plus, node_sum}
use Rattle.co_values.specs.Number.{has_node, signed_number, unsigned_number}
use Rattle.co_values.specs.Types.{fixed_len, form, len_of_form, octets}
use Rattle.co_values.specs.Values.{flag_bits, signed_bits, unsigned_bits, value, value_in}
use Rattle.co_values.proofs.Printed.{formula-number}

-- ---- hexadecimal digits

not_minus : (a : ℕ) → (a == byte "0") ≡ true → (a == byte "-") ≡ false
not_minus a e = let is : a ≡ 48 = eqb→eq a 48 (subst T (sym e) tt) in rw is refl

-- hexadecimal digits in range are the number
number_of_digits : (text : List ℕ) (n : ℕ) → hexadecimal text ≡ Some n → nat_lt n (2 ^ 64) ≡ true
    → number text ≡ Some (pos n)
unfolding number
number_of_digits [] n h low = cc
number_of_digits (a ∷ []) n h low = cc
number_of_digits (a ∷ x ∷ digits) n h low = by (a == byte "0") refl h
  where
    by : (t : Bool) → (a == byte "0") ≡ t
        → (if t && ((x == byte "x") || (x == byte "X")) then digits_number 16 digits else None) ≡ Some n
        → option_and_then in_range (signed_number (a ∷ x ∷ digits)) ≡ Some (pos n)
    by true e g = rw (not_minus a e, h) (ap (λ (b : Bool). if b then Some (pos n) else None) low)
    by false e g = cc

-- ---- numbers in range

kept_in_range : (o : Option ℤ) (z : ℤ) (node : ℕ) → option_and_then in_range o ≡ Some z
    → number_of (of_number z) node ≡ Some z
kept_in_range None z node e = cc
kept_in_range (Some (pos n)) z node e = by (nat_lt n (2 ^ 64)) refl e
  where
    by : (t : Bool) → nat_lt n (2 ^ 64) ≡ t → (if t then Some (pos n) else None) ≡ Some z
        → number_of (of_number z) node ≡ Some z
    by true low g = let same : pos n ≡ z = cc in rw (← same, low) refl
    by false low g = cc
kept_in_range (Some (negsuc n)) z node e = by (nat_lt n (2 ^ 63)) refl e
  where
    by : (t : Bool) → nat_lt n (2 ^ 63) ≡ t → (if t then Some (negsuc n) else None) ≡ Some z
        → number_of (of_number z) node ≡ Some z
    by true low g = let same : negsuc n ≡ z = cc in rw (← same, low) refl
    by false low g = cc

-- ---- sums

module _ (node : ℕ) where
  term_kept : (o : Option ℕ) → number_of (option_map_or NodePlus (option_and_then below_limit o) Nothing) node
      ≡ option_and_then (λ n. in_range (pos (n + node))) o
  term_kept None = refl
  term_kept (Some n) = by (nat_lt n (2 ^ 64)) refl
    where
      by : (t : Bool) → nat_lt n (2 ^ 64) ≡ t
          → number_of (option_map_or NodePlus (if t then Some n else None) Nothing) node ≡ in_range (pos (n + node))
      by true low = refl
      by false high =
          let most : 2 ^ 64 ≤ n = ltb-false n (2 ^ 64) high in
          let past : nat_lt (n + node) (2 ^ 64) ≡ false = le-ltb (n + node) (2 ^ 64) (omega (arith, most)) in
          sym (ap (λ (b : Bool). if b then Some (pos (n + node)) else None) past)

  terms_kept : (left right : List ℕ) → number_of (option_map_or NodePlus (term_beside left right) Nothing) node
      ≡ sum_of_terms left right node
  terms_kept left right = by (is_node_id left) (is_node_id right)
    where
      by : (t u : Bool)
          → number_of (option_map_or NodePlus (if t then option_and_then below_limit (unsigned_number right)
          else if u then option_and_then below_limit (unsigned_number left) else None) Nothing) node
          ≡ (if t then node_plus node right else if u then node_plus node left else None)
      by true u = term_kept (unsigned_number right)
      by false true = term_kept (unsigned_number left)
      by false false = refl

  sum_kept : (text : List ℕ) → number_of (option_map_or NodePlus (term_of_sum text) Nothing) node ≡ node_sum text node
  sum_kept text = by (position (λ c. c == byte "+") text)
    where
      by : (o : Option ℕ)
          → number_of (option_map_or NodePlus (option_and_then
          (λ i. term_beside (without_last_blanks (take i text)) (without_first_blanks (drop (i + 1) text))) o) Nothing) node
          ≡ option_and_then
          (λ i. sum_of_terms (without_last_blanks (take i text)) (without_first_blanks (drop (i + 1) text)) node) o
      by None = refl
      by (Some i) = terms_kept (without_last_blanks (take i text)) (without_first_blanks (drop (i + 1) text))

  node_kept : (text : List ℕ) → number_of (of_node text) node
      ≡ (if is_node_id text then Some (pos node) else node_sum text node)
  node_kept text = by (is_node_id text)
    where
      by : (t : Bool)
          → number_of (if t then Node else option_map_or NodePlus (term_of_sum text) Nothing) node
          ≡ (if t then Some (pos node) else node_sum text node)
      by true = refl
      by false = sum_kept text

  spelled_kept : (text : List ℕ) → number_of (option_map_or of_number (number text) (of_node text)) node
      ≡ formula text node
  unfolding formula number
  spelled_kept text = by (option_and_then in_range (signed_number text)) refl
    where
      by : (o : Option ℤ) → option_and_then in_range (signed_number text) ≡ o
          → number_of (option_map_or of_number o (of_node text)) node
          ≡ option_or o (if is_node_id text then Some (pos node) else node_sum text node)
      by None e = node_kept text
      by (Some z) e = kept_in_range (signed_number text) z node e

  -- ---- what a text gives

  pub number_kept : (text : List ℕ) → number_of (formula_in text) node ≡ formula text node
  unfolding formula_in
  number_kept text = by (hexadecimal text) refl
    where
      at : (n : ℕ) → hexadecimal text ≡ Some n → (t : Bool) → nat_lt n (2 ^ 64) ≡ t
          → number_of (option_map_or Hexadecimal (if t then Some n else None)
          (option_map_or of_number (number text) (of_node text))) node ≡ formula text node
      at n h true low = sym (formula-number text node (pos n) (number_of_digits text n h low))
      at n h false high = spelled_kept text

      by : (o : Option ℕ) → hexadecimal text ≡ o
          → number_of (option_map_or Hexadecimal (option_and_then below_limit o)
          (option_map_or of_number (number text) (of_node text))) node ≡ formula text node
      by None h = spelled_kept text
      by (Some n) h = at n h (nat_lt n (2 ^ 64)) refl

no_digits : (z : ℤ) → digits_of (of_number z) ≡ None
no_digits (pos n) = by (nat_lt n (2 ^ 64))
  where
    by : (t : Bool) → digits_of (if t then Number n else Nothing) ≡ None
    by true = refl
    by false = refl
no_digits (negsuc n) = by (nat_lt n (2 ^ 63))
  where
    by : (t : Bool) → digits_of (if t then Negative (suc n) else Nothing) ≡ None
    by true = refl
    by false = refl

no_digits_of_node : (text : List ℕ) → digits_of (of_node text) ≡ None
no_digits_of_node text = by (is_node_id text) (term_of_sum text)
  where
    by : (t : Bool) (o : Option ℕ) → digits_of (if t then Node else option_map_or NodePlus o Nothing) ≡ None
    by true o = refl
    by false None = refl
    by false (Some n) = refl

-- its hexadecimal digits, where they are in range
pub digits_kept : (text : List ℕ) → digits_of (formula_in text) ≡ option_and_then below_limit (hexadecimal text)
unfolding formula_in
digits_kept text = by (option_and_then below_limit (hexadecimal text)) (number text)
  where
    by : (h : Option ℕ) (o : Option ℤ) → digits_of (option_map_or Hexadecimal h (option_map_or of_number o (of_node text))) ≡ h
    by (Some n) o = refl
    by None (Some z) = no_digits z
    by None None = no_digits_of_node text

-- ---- what is the same at every node

pub number_without_node : (f : Formula) → has_node f ≡ false → (node other : ℕ) → number_of f node ≡ number_of f other
number_without_node Nothing h node other = refl
number_without_node (Negative n) h node other = refl
number_without_node (Number n) h node other = refl
number_without_node (Hexadecimal n) h node other = refl
number_without_node Node h node other = cc
number_without_node (NodePlus n) h node other = cc

value_by_formula : (kind : DataType) (text : List ℕ) (n m : ℕ) → formula text n ≡ formula text m
    → value kind text n ≡ value kind text m
unfolding value
value_by_formula kind text n m e = by (form kind)
  where
    by : (f : Form) → value_in f text n ≡ value_in f text m
    by Flag = ap (λ o. option_map (little_bytes 1) (option_and_then flag_bits o)) e
    by (Signed width) = ap (λ o. option_map (little_bytes (octets width))
        (option_or (option_and_then (signed_bits width) o)
        (option_and_then (unsigned_bits width) (option_map pos (hexadecimal text))))) e
    by (Unsigned width) = ap (λ o. option_map (little_bytes (octets width))
        (option_and_then (unsigned_bits width) o)) e
    by (Decimal real) = refl
    by Characters = refl
    by HexPairs = refl
    by Unmodelled = refl

-- a value that isn't a number is the text's alone
value_of_text : (kind : DataType) (text : List ℕ) → is_some (fixed_len kind) ≡ false → (n m : ℕ)
    → value kind text n ≡ value kind text m
unfolding value
value_of_text kind text h n m = by (form kind) h
  where
    by : (f : Form) → is_some (len_of_form f) ≡ false → value_in f text n ≡ value_in f text m
    by Flag h = cc
    by (Signed width) h = cc
    by (Unsigned width) h = cc
    by (Decimal real) h = cc
    by Characters h = refl
    by HexPairs h = refl
    by Unmodelled h = refl

pub same_without_node : (kind : DataType) (text : List ℕ) → (is_some (fixed_len kind) && has_node (formula_in text)) ≡ false
    → (node other : ℕ) → value kind text node ≡ value kind text other
same_without_node kind text h node other = by (is_some (fixed_len kind)) refl h
  where
    by : (t : Bool) → is_some (fixed_len kind) ≡ t → (t && has_node (formula_in text)) ≡ false
        → value kind text node ≡ value kind text other
    by false e g = value_of_text kind text e node other
    by true e g = value_by_formula kind text node other (sym (number_kept node text)
        ∙ number_without_node (formula_in text) g node other ∙ number_kept other text)

-- ---- two's complements

octets_within : (width : Width) → 2 ^ (8 * octets width) ≤ 2 ^ 64
octets_within Bits8 = omega arith
octets_within Bits16 = omega arith
octets_within Bits24 = omega arith
octets_within Bits32 = omega arith
octets_within Bits40 = omega arith
octets_within Bits48 = omega arith
octets_within Bits56 = omega arith
octets_within Bits64 = omega arith

pub bits_of_digits : (text : List ℕ) (width : Width)
    → option_and_then (unsigned_bits width) (option_map pos (digits_of (formula_in text)))
    ≡ option_and_then (unsigned_bits width) (option_map pos (hexadecimal text))
bits_of_digits text width = ap (λ o. option_and_then (unsigned_bits width) (option_map pos o)) (digits_kept text)
    ∙ by (hexadecimal text)
  where
    by : (o : Option ℕ) → option_and_then (unsigned_bits width) (option_map pos (option_and_then below_limit o))
        ≡ option_and_then (unsigned_bits width) (option_map pos o)
    by None = refl
    by (Some n) = at (nat_lt n (2 ^ 64)) refl
      where
        at : (t : Bool) → nat_lt n (2 ^ 64) ≡ t
            → option_and_then (unsigned_bits width) (option_map pos (if t then Some n else None))
            ≡ unsigned_bits width (pos n)
        at true low = refl
        at false high =
            let most : 2 ^ 64 ≤ n = ltb-false n (2 ^ 64) high in
            let past : nat_lt n (2 ^ (8 * octets width)) ≡ false =
            le-ltb n (2 ^ (8 * octets width)) (omega (arith, most, octets_within width)) in
            sym (ap (λ (b : Bool). if b then Some n else None) past)
