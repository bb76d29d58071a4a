-- The ranges of what a text gives.
use Rattle.std.proofs.Common.{◌≡◌, ℕ, ◌+◌, ◌-◌, ◌*◌, ◌^◌, ◌<◌, ◌≤◌, Bool, true, false, List, [], ◌∷◌, ◌++◌, Option}
use Rattle.std.proofs.Common.{Some, None, refl, sym, ap, ◌∙◌, arith, ℤ, pos, negsuc, take, drop}
use Rattle.std.specs.Prelude.{nat_lt, ◌==◌, ◌&&◌, ◌||◌, if◌then◌else◌, option_map, option_and_then, position, unwrap_or}
use Rattle.std.specs.Prelude.{codes}
use Rattle.std.specs.Option.{option_or}
use Rattle.std.proofs.lemmas.Bool.{lt-ltb, eqb-true, ne_eqb}
use Rattle.byteorder.specs.Endian.{little_bytes}
use Rattle.base.specs.Blanks.{without_first_blanks, without_last_blanks}
use Rattle.base.specs.Digits.{digits_number}
use Rattle.co_values.specs.declared.data_type.DataType.{DataType}
use Rattle.co_values.specs.declared.form.Form.{Form}
use Rattle.co_values.specs.declared.form.Form.TheVariants.{Signed}
use Rattle.co_values.specs.declared.form.Width.{Width}
use Rattle.co_values.specs.Number.{number, formula, in_range, hexadecimal, unsigned_number, signed_number, node_plus}
use Rattle.co_values.specs.Number.{node_sum, is_node_id}
use Rattle.co_values.specs.Types.{form, octets}
use Rattle.co_values.specs.Values.{value, value_in, signed_bits, signed_text_bits}
use Rattle.co_values.proofs.Formulas.{formula-sum}
use Rattle.co_values.proofs.Printed.{formula-number, half_most, two_halves}

-- a number that is in range is so
kept : (b : Bool) (y z : ℤ) → in_range y ≡ (if b then Some y else None) → in_range y ≡ Some z → in_range z ≡ Some z
kept true y z is e = let same : y ≡ z = ap (λ (o : Option ℤ). unwrap_or o y) (sym is ∙ e) in ap in_range (sym same) ∙ e
kept false y z is e = cc

in_range-again : (y z : ℤ) → in_range y ≡ Some z → in_range z ≡ Some z
in_range-again (pos n) z e = kept (nat_lt n (2 ^ 64)) (pos n) z refl e
in_range-again (negsuc n) z e = kept (nat_lt n (2 ^ 63)) (negsuc n) z refl e

given_in_range : (o : Option ℤ) (z : ℤ) → option_and_then in_range o ≡ Some z → in_range z ≡ Some z
given_in_range None z e = cc
given_in_range (Some y) z e = in_range-again y z e

pub in_range-number : (text : List ℕ) (z : ℤ) → number text ≡ Some z → in_range z ≡ Some z
unfolding number
in_range-number text z e = given_in_range (signed_number text) z e

plus_in_range : (o : Option ℕ) (node : ℕ) (z : ℤ) → option_and_then (λ n. in_range (pos (n + node))) o ≡ Some z
    → in_range z ≡ Some z
plus_in_range None node z e = cc
plus_in_range (Some n) node z e = in_range-again (pos (n + node)) z e

terms_in_range : (x y : Bool) (left right : Option ℕ) (node : ℕ) (z : ℤ)
    → (if x then option_and_then (λ n. in_range (pos (n + node))) right
    else (if y then option_and_then (λ n. in_range (pos (n + node))) left else None)) ≡ Some z → in_range z ≡ Some z
terms_in_range true y left right node z e = plus_in_range right node z e
terms_in_range false true left right node z e = plus_in_range left node z e
terms_in_range false false left right node z e = cc

sum_in_range : (o : Option ℕ) (f : ℕ → Option ℤ) (z : ℤ) → ((i : ℕ) → f i ≡ Some z → in_range z ≡ Some z)
    → option_and_then f o ≡ Some z → in_range z ≡ Some z
sum_in_range None f z h e = cc
sum_in_range (Some i) f z h e = h i e

node_in_range : (node : ℕ) (z : ℤ) → node < 2 ^ 64 → Some (pos node) ≡ Some z → in_range z ≡ Some z
node_in_range node z h e =
    let here : in_range (pos node) ≡ Some (pos node) = rw (lt-ltb node (2 ^ 64) h) refl in
    in_range-again (pos node) z (here ∙ e)

parts_in_range : (o : Option ℤ) (b : Bool) (p : Option ℤ) (node : ℕ) (z : ℤ) → node < 2 ^ 64
    → (o ≡ Some z → in_range z ≡ Some z) → (p ≡ Some z → in_range z ≡ Some z)
    → option_or o (if b then Some (pos node) else p) ≡ Some z → in_range z ≡ Some z
parts_in_range (Some y) b p node z low first last e = first e
parts_in_range None true p node z low first last e = node_in_range node z low e
parts_in_range None false p node z low first last e = last e

pub in_range-formula : (text : List ℕ) (node : ℕ) (z : ℤ) → node < 2 ^ 64 → formula text node ≡ Some z
    → in_range z ≡ Some z
unfolding formula
in_range-formula text node z low e =
    parts_in_range (number text) (is_node_id text) (node_sum text node) node z low (in_range-number text z)
    (sum_in_range (position (λ c. c == 43) text) _ z
    (λ i. terms_in_range (is_node_id (without_last_blanks (take i text)))
    (is_node_id (without_first_blanks (drop (i + 1) text)))
    (unsigned_number (without_last_blanks (take i text)))
    (unsigned_number (without_first_blanks (drop (i + 1) text))) node z)) e

-- ---- two's complement

first_holds : (x y : Bool) (o : Option ℕ) (n : ℕ) → (if x && y then o else None) ≡ Some n → x ≡ true
first_holds true y o n e = refl
first_holds false y o n e = cc

-- a hexadecimal number begins with a 0, so it has no sign
no_sign : (a n : ℕ) (cs : List ℕ) → hexadecimal (a ∷ cs) ≡ Some n → (a == 45) ≡ false
no_sign a n [] e = cc
no_sign a n (x ∷ digits) e =
    let zero : a ≡ 48 = eqb-true a 48 (first_holds (a == 48) ((x == 120) || (x == 88)) (digits_number 16 digits) n e) in
    ne_eqb a 45 (λ (same : a ≡ 45). omega arith)

number-hexadecimal_text : (text : List ℕ) (n : ℕ) → n < 2 ^ 64 → hexadecimal text ≡ Some n → number text ≡ Some (pos n)
unfolding number
number-hexadecimal_text [] n low e = cc
number-hexadecimal_text (a ∷ cs) n low e = rw (no_sign a n cs e, e, lt-ltb n (2 ^ 64) low) refl

half_or_none : (b : Bool) (n : ℕ) → option_or (if b then Some n else None) (Some n) ≡ Some n
half_or_none true n = refl
half_or_none false n = refl

-- a hexadecimal number below the width's power is the two's complement that it writes
complement_bits : (width : Width) (text : List ℕ) (n node : ℕ) → n < 2 ^ (8 * octets width) → hexadecimal text ≡ Some n
    → signed_text_bits width text node ≡ Some n
complement_bits width text n node low e =
    let most : 2 ^ (8 * octets width) ≤ 2 ^ 64 = omega (arith, half_most width, two_halves width) in
    let read = formula-number text node (pos n) (number-hexadecimal_text text n (omega arith) e) in
    rw (read, e, lt-ltb n (2 ^ (8 * octets width)) low) (half_or_none (nat_lt n (2 ^ (8 * octets width - 1))) n)

pub value-complement : (kind : DataType) (width : Width) (text : List ℕ) (n node : ℕ) → form kind ≡ Signed width
    → hexadecimal text ≡ Some n → n < 2 ^ (8 * octets width)
    → value kind text node ≡ Some (little_bytes (octets width) n)
unfolding value
value-complement kind width text n node is e low =
    ap (λ (f : Form). value_in f text node) is
    ∙ ap (option_map (little_bytes (octets width))) (complement_bits width text n node low e)

no_complement : (o : Option ℕ) → option_or o None ≡ o
no_complement None = refl
no_complement (Some n) = refl

-- a sum gives what is in the type's range alone
pub value-sum : (kind : DataType) (width : Width) (text : List ℕ) (node : ℕ) → form kind ≡ Signed width
    → value kind (codes "$NODEID+" ++ text) node ≡ option_map (little_bytes (octets width))
    (option_and_then (signed_bits width) (node_plus node (without_first_blanks text)))
unfolding value
value-sum kind width text node is =
    ap (λ (f : Form). value_in f (codes "$NODEID+" ++ text) node) is
    ∙ ap (option_map (little_bytes (octets width)))
    (no_complement (option_and_then (signed_bits width) (formula (codes "$NODEID+" ++ text) node)))
    ∙ ap (λ (o : Option ℤ). option_map (little_bytes (octets width)) (option_and_then (signed_bits width) o))
    (formula-sum text node)
