-- Pairs of hexadecimal digits.
use Rattle.std.proofs.Common.{◌≡◌, ℕ, suc, ◌+◌, ◌*◌, ◌<◌, ◌≤◌, ◌%◌, ◌/◌, Bool, true, false, List, [], ◌∷◌, ◌++◌, length}
use Rattle.std.proofs.Common.{get_or, drop, Option, Some, None, refl, sym, ap, ◌∙◌, append_assoc, append-nil}
use Rattle.std.proofs.Common.{length-drop, inl, inr, arith}
use Rattle.std.proofs.lemmas.Bool.{false≢true, ltb-true, lt-leb, le-leb, cases_lt}
use Rattle.std.proofs.lemmas.List.{at_drop_more}
use Rattle.std.proofs.Math.Bool.{and-false}
use Rattle.std.specs.Prelude.{◌&&◌, ◌==◌, nat_le, is_some, if◌then◌else◌, option_map, option_and_then, IsSome, IfSome}
use Rattle.std.specs.Char.{digit_value, is_digit}
use Rattle.std.specs.List.{list_all}
use Rattle.co_values.specs.Values.{bytes_of_pairs, pair_number, longest_value, if_not_too_long}

-- what there is not
none_of : (o : Option (List ℕ)) → is_some o ≡ false → o ≡ None
none_of None h = refl
none_of (Some bytes) h = absurd (false≢true (sym h))

-- two digits less, and the length is as even as before
even : (n : ℕ) → suc (suc n) % 2 ≡ n % 2
even n = omega arith

shape : (x y e l : Bool) (o : Option (List ℕ)) (b : ℕ) → is_some o ≡ e && l
    → is_some (if x && y then option_map (λ bytes. b ∷ bytes) o else None) ≡ e && (x && (y && l))
shape true true e l (Some bytes) b h = h
shape true true e l None b h = h
shape true false true l o b h = refl
shape true false false l o b h = refl
shape false y true l o b h = refl
shape false y false l o b h = refl

-- a text is pairs where it has an even number of bytes and each is a digit
pub is_some-bytes_of_pairs : (text : List ℕ) → is_some (bytes_of_pairs text) ≡ (length text % 2 == 0)
    && list_all (λ c. is_digit c 16) text
is_some-bytes_of_pairs [] = refl
is_some-bytes_of_pairs (a ∷ []) = refl
is_some-bytes_of_pairs (a ∷ b ∷ text) =
    let rest : is_some (bytes_of_pairs text) ≡ (suc (suc (length text)) % 2 == 0)
    && list_all (λ c. is_digit c 16) text = rw (even (length text)) (is_some-bytes_of_pairs text) in
    shape (is_digit a 16) (is_digit b 16) (suc (suc (length text)) % 2 == 0) (list_all (λ c. is_digit c 16) text)
    (bytes_of_pairs text) (pair_number a b) rest

-- for `grind`
pub ruleset pairs = is_some-bytes_of_pairs

-- ---- pair after pair

-- one more pair is read
pair_read : (x y : Bool) (items : List ℕ) (byte : ℕ) (rest total : Option (List ℕ))
    → IsSome (if x && y then option_map (λ bytes. byte ∷ bytes) rest else None)
    → option_map (λ more. items ++ more) (if x && y then option_map (λ bytes. byte ∷ bytes) rest else None) ≡ total
    → (x ≡ true) × (y ≡ true) × IsSome rest × (option_map (λ more. (items ++ byte ∷ []) ++ more) rest ≡ total)
pair_read true true items byte (Some rest) total some so_far =
    (refl, refl, refl, ap Some (append_assoc items (byte ∷ []) rest) ∙ so_far)
pair_read true true items byte None total some so_far = absurd (false≢true some)
pair_read true false items byte rest total some so_far = absurd (false≢true some)
pair_read false y items byte rest total some so_far = absurd (false≢true some)

-- what is left from a place on begins with the pair that stands there
drop-pair : (i : ℕ) (text : List ℕ) → i < length text / 2
    → drop (2 * i) text ≡ get_or text (2 * i) 0 ∷ get_or text (2 * i + 1) 0 ∷ drop (2 * (i + 1)) text
drop-pair i text h =
    let first = at_drop_more (λ (xs : List ℕ). xs) text (2 * i) 0 (omega arith) in
    let second = at_drop_more (λ (xs : List ℕ). xs) text (2 * i + 1) 0 (omega arith) in
    let two : 2 * i + 1 + 1 ≡ 2 * (i + 1) = omega arith in
    first ∙ ap (λ (xs : List ℕ). get_or text (2 * i) 0 ∷ xs)
    (second ∙ ap (λ (k : ℕ). get_or text (2 * i + 1) 0 ∷ drop k text) two)

-- the pairs that are left from a place on are pairs, and with those that were read they are all
abbrev pub IsReadTo : ℕ → List ℕ → List ℕ → Type 0
IsReadTo i text items = IsSome (bytes_of_pairs (drop (2 * i) text))
    × (option_map (λ more. items ++ more) (bytes_of_pairs (drop (2 * i) text)) ≡ bytes_of_pairs text)

next_pair : (i : ℕ) (text items : List ℕ) → i < length text / 2 → IsReadTo i text items
    → (is_digit (get_or text (2 * i) 0) 16 ≡ true) × (is_digit (get_or text (2 * i + 1) 0) 16 ≡ true)
    × IsSome (bytes_of_pairs (drop (2 * (i + 1)) text))
    × (option_map (λ more. (items ++ pair_number (get_or text (2 * i) 0) (get_or text (2 * i + 1) 0) ∷ []) ++ more)
    (bytes_of_pairs (drop (2 * (i + 1)) text)) ≡ bytes_of_pairs text)
next_pair i text items h so_far =
    let here = drop-pair i text h in
    pair_read (is_digit (get_or text (2 * i) 0) 16)
    (is_digit (get_or text (2 * i + 1) 0) 16) items (pair_number (get_or text (2 * i) 0)
    (get_or text (2 * i + 1) 0)) (bytes_of_pairs (drop (2 * (i + 1)) text)) (bytes_of_pairs text)
    (rw here at so_far.0) (rw here at so_far.1)

-- a pair has two digits
pub high_digit : (i : ℕ) (text items : List ℕ) → i < length text / 2 → IsReadTo i text items
    → digit_value (get_or text (2 * i) 0) < 16
high_digit i text items h so_far = ltb-true _ _ (next_pair i text items h so_far).0

pub low_digit : (i : ℕ) (text items : List ℕ) → i < length text / 2 → IsReadTo i text items
    → digit_value (get_or text (2 * i + 1) 0) < 16
low_digit i text items h so_far = ltb-true _ _ (next_pair i text items h so_far).1

-- one more pair is read
pub pairs_more : (i byte : ℕ) (text items items' : List ℕ) → i < length text / 2
    → byte ≡ pair_number (get_or text (2 * i) 0) (get_or text (2 * i + 1) 0) → items' ≡ items ++ byte ∷ []
    → IsReadTo i text items → IsReadTo (i + 1) text items'
pairs_more i byte text items items' h is grown so_far =
    let next = next_pair i text items h so_far in
    let e : items' ≡ items ++ pair_number (get_or text (2 * i) 0) (get_or text (2 * i + 1) 0) ∷ [] = grown
    ∙ ap (λ (b : ℕ). items ++ b ∷ []) is in
    (next.2, ap (λ (xs : List ℕ). option_map (λ more. xs ++ more) (bytes_of_pairs (drop (2 * (i + 1)) text))) e ∙ next.3)

-- less than a pair is left, which is nothing
none_left : (items rest : List ℕ) (total : Option (List ℕ)) → length rest < 2 → IsSome (bytes_of_pairs rest)
    → option_map (λ more. items ++ more) (bytes_of_pairs rest) ≡ total → Some items ≡ total
none_left items [] total h some so_far = ap Some (sym (append-nil items)) ∙ so_far
none_left items (a ∷ []) total h some so_far = absurd (false≢true some)
none_left items (a ∷ b ∷ rest) total h some so_far = absurd (omega arith)

pub pairs_all : (i : ℕ) (text items : List ℕ) → length text / 2 ≤ i → IsReadTo i text items → Some items ≡ bytes_of_pairs text
pairs_all i text items h so_far = none_left items (drop (2 * i) text) (bytes_of_pairs text)
    (omega (arith, length-drop (2 * i) text)) so_far.0 so_far.1

-- ---- how many pairs

-- a pair for each byte
counted : (x y : Bool) (n byte : ℕ) (o : Option (List ℕ)) → IfSome o (λ bytes. n ≡ 2 * length bytes)
    → IfSome (if x && y then option_map (λ bytes. byte ∷ bytes) o else None) (λ bytes. suc (suc n) ≡ 2 * length bytes)
counted true true n byte (Some bytes) h = omega arith
counted true true n byte None h = tt
counted true false n byte o h = tt
counted false y n byte o h = tt

pairs_count : (text : List ℕ) → IfSome (bytes_of_pairs text) (λ bytes. length text ≡ 2 * length bytes)
pairs_count [] = omega arith
pairs_count (a ∷ []) = tt
pairs_count (a ∷ b ∷ text) = counted (is_digit a 16) (is_digit b 16) (length text) (pair_number a b) (bytes_of_pairs text)
    (pairs_count text)

short : (n : ℕ) (o : Option (List ℕ)) → IfSome o (λ bytes. n ≡ 2 * length bytes)
    → is_some (option_and_then if_not_too_long o) ≡ nat_le n (2 * longest_value) && is_some o
short n None h = sym (and-false (nat_le n (2 * longest_value)))
short n (Some bytes) h = elim (cases_lt 512 (length bytes)) [
  | inl many ↦ rw (lt-leb (length bytes) 512 many, lt-leb n 1024 (omega arith)) refl
  | inr few ↦ rw (le-leb (length bytes) 512 few, le-leb n 1024 (omega arith)) refl
]

-- pairs are not too many where the text is short
pub is_some-short : (text : List ℕ) → is_some (option_and_then if_not_too_long (bytes_of_pairs text))
    ≡ nat_le (length text) (2 * longest_value) && is_some (bytes_of_pairs text)
is_some-short text = short (length text) (bytes_of_pairs text) (pairs_count text)

shorter : (b : Bool) (bytes : List ℕ) → is_some (if b then Some bytes else None) ≡ true
    → (if b then Some bytes else None) ≡ Some bytes
shorter true bytes h = refl
shorter false bytes h = absurd (false≢true h)

pub short-is : (o : Option (List ℕ)) (bytes : List ℕ) → is_some (option_and_then if_not_too_long o) ≡ true
    → Some bytes ≡ o → option_and_then if_not_too_long o ≡ Some bytes
short-is None bytes some is = absurd (false≢true some)
short-is (Some given) bytes some is = shorter (nat_le (length given) longest_value) given some ∙ sym is

pub short-none : (o : Option (List ℕ)) → is_some (option_and_then if_not_too_long o) ≡ false
    → option_and_then if_not_too_long o ≡ None
short-none o = none_of (option_and_then if_not_too_long o)

pub ruleset short_pairs = (is_some-short, short-is, short-none)
