-- Sets of low bytes of identifiers.
use Rattle.std.proofs.Common.{◌≡◌, ℕ, zero, suc, ◌*◌, ◌/◌, ◌<◌, ◌%◌, ◌==◌, ◌||◌, Bool, true, false, List, [], ◌∷◌}
use Rattle.std.proofs.Common.{◌++◌, length, get_or, set, refl, sym, ap, ◌∙◌, arith, bit_or, eq-eqb}
use Rattle.std.specs.Prelude.{◌^◌}
use Rattle.std.specs.Int.{bit_at}
use Rattle.std.proofs.lemmas.Bool.{eqb-false, eqb-true}
use Rattle.std.proofs.lemmas.List.{get_or-set_other, get_or-set_same}
use Rattle.std.proofs.lemmas.Nat.Bits.{bit_at-zero, bit_at_ones}
use Rattle.co_device.specs.Device.{Device}
use Rattle.device_agenda.specs.LowBytes.{AreDeafBeyond, IsDeafBeyond, has_bit, has_low_byte_of}
use Rattle.device_agenda.specs.declared.low_bytes.LowBytes.{LowBytes}
use Rattle.device_agenda.proofs.GroupLemmas.{both_sets, neither, one_more}
use Rattle.device_pdos.proofs.LookLemmas.{all_both}

-- ---- words

-- of four words that are alike, the one at a place
module _ (word : ℕ) where
  one_of_four : (k : ℕ) → k < 4 → get_or (word ∷ word ∷ word ∷ word ∷ []) k 0 ≡ word
  one_of_four zero within = refl
  one_of_four (suc zero) within = refl
  one_of_four (suc (suc zero)) within = refl
  one_of_four (suc (suc (suc zero))) within = refl
  one_of_four (suc (suc (suc (suc k)))) within = absurd (omega (arith, within))

word_within : (low : ℕ) → low < 256 → low / 64 < 4
word_within low within = omega arith

bit_within : (low : ℕ) → low % 64 < 64
bit_within low = omega arith

pub byte_within : (id : ℕ) → id % 256 < 256
byte_within id = omega arith

four : (word id : ℕ) → has_bit (word ∷ word ∷ word ∷ word ∷ []) (id % 256) ≡ (bit_at word (id % 256 % 64) == 1)
four word id = ap (λ (n : ℕ). bit_at n (id % 256 % 64) == 1)
    (one_of_four word (id % 256 / 64) (word_within (id % 256) (byte_within id)))

pub no_bit : (id : ℕ) → has_bit (0 ∷ 0 ∷ 0 ∷ 0 ∷ []) (id % 256) ≡ false
no_bit id = four 0 id ∙ ap (λ (n : ℕ). n == 1) (bit_at-zero (id % 256 % 64))

pub each_bit : (id : ℕ) → has_bit (18446744073709551615 ∷ 18446744073709551615 ∷ 18446744073709551615
    ∷ 18446744073709551615 ∷ []) (id % 256) ≡ true
each_bit id = four 18446744073709551615 id
    ∙ ap (λ (n : ℕ). n == 1) (bit_at_ones 64 (id % 256 % 64) (bit_within (id % 256)))

-- ---- one more

same_bit_by : (a b : ℕ) → (b == a) ≡ false → b / 64 ≡ a / 64 → (t : Bool) → (b % 64 == a % 64) ≡ t → t ≡ false
same_bit_by a b apart word true e =
    let bit : b % 64 ≡ a % 64 = eqb-true (b % 64) (a % 64) e in
    let same : b ≡ a = omega (arith, word, bit) in
    absurd (eqb-false b a apart same)
same_bit_by a b apart word false e = refl

-- of two bytes of one word
same_word : (a b : ℕ) → b / 64 ≡ a / 64 → (b % 64 == a % 64) ≡ (b == a)
same_word a b word = by (b == a) refl
  where
    by : (t : Bool) → (b == a) ≡ t → (b % 64 == a % 64) ≡ t
    by true e = eq-eqb (b % 64) (a % 64) (ap (λ (n : ℕ). n % 64) (eqb-true b a e))
    by false e = same_bit_by a b e word (b % 64 == a % 64) refl

other_word : (a b : ℕ) → (b / 64 == a / 64) ≡ false → (b == a) ≡ false
other_word a b word = by (b == a) refl
  where
    by : (t : Bool) → (b == a) ≡ t → t ≡ false
    by true e = absurd (eqb-false (b / 64) (a / 64) word (ap (λ (n : ℕ). n / 64) (eqb-true b a e)))
    by false e = refl

abbrev pub with_bit : ℕ → ℕ → ℕ
with_bit word k = bit_or word (1 * 2 ^ k % 18446744073709551616)

abbrev pub with_byte : List ℕ → ℕ → List ℕ
with_byte words low = set words (low / 64) (with_bit (get_or words (low / 64) 0) (low % 64))

module _ (words : List ℕ) (a : ℕ) (within : a / 64 < length words) where
  in_same : (b : ℕ) → b / 64 ≡ a / 64 → has_bit (with_byte words a) b ≡ (b == a) || has_bit words b
  in_same b same =
      ap (λ (k : ℕ). bit_at (get_or (with_byte words a) k 0) (b % 64) == 1) same
      ∙ ap (λ (n : ℕ). bit_at n (b % 64) == 1)
      (get_or-set_same words (a / 64) (with_bit (get_or words (a / 64) 0) (a % 64)) 0 within)
      ∙ one_more (get_or words (a / 64) 0) (a % 64) (bit_within a) (b % 64)
      ∙ ap (λ (t : Bool). t || (bit_at (get_or words (a / 64) 0) (b % 64) == 1)) (same_word a b same)
      ∙ ap (λ (k : ℕ). (b == a) || (bit_at (get_or words k 0) (b % 64) == 1)) (sym same)

  in_other : (b : ℕ) → (b / 64 == a / 64) ≡ false → has_bit (with_byte words a) b ≡ (b == a) || has_bit words b
  in_other b e =
      ap (λ (n : ℕ). bit_at n (b % 64) == 1)
      (get_or-set_other words (a / 64) (b / 64) (with_bit (get_or words (a / 64) 0) (a % 64)) 0
      (eqb-false (b / 64) (a / 64) e))
      ∙ ap (λ (t : Bool). t || has_bit words b) (sym (other_word a b e))

  one_more_byte : (b : ℕ) → has_bit (with_byte words a) b ≡ (b == a) || has_bit words b
  one_more_byte b = by (b / 64 == a / 64) refl
    where
      by : (t : Bool) → (b / 64 == a / 64) ≡ t → has_bit (with_byte words a) b ≡ (b == a) || has_bit words b
      by true e = in_same b (eqb-true (b / 64) (a / 64) e)
      by false e = in_other b e

-- of each word as it stands there
copied : (words : List ℕ) (k : ℕ) → k < 4
    → get_or (get_or words 0 0 ∷ get_or words 1 0 ∷ get_or words 2 0 ∷ get_or words 3 0 ∷ []) k 0 ≡ get_or words k 0
copied words zero within = refl
copied words (suc zero) within = refl
copied words (suc (suc zero)) within = refl
copied words (suc (suc (suc zero))) within = refl
copied words (suc (suc (suc (suc k)))) within = absurd (omega (arith, within))

pub byte_of_four : (words : List ℕ) (low : ℕ) → low < 256 → (other : ℕ) → other < 256
    → has_bit (with_byte (get_or words 0 0 ∷ get_or words 1 0 ∷ get_or words 2 0 ∷ get_or words 3 0 ∷ []) low) other
    ≡ (other == low) || has_bit words other
byte_of_four words low within other other_within =
    one_more_byte (get_or words 0 0 ∷ get_or words 1 0 ∷ get_or words 2 0 ∷ get_or words 3 0 ∷ []) low
    (word_within low within) other
    ∙ ap (λ (n : ℕ). (other == low) || (bit_at n (other % 64) == 1))
    (copied words (other / 64) (word_within other other_within))

-- ---- both

abbrev pub either : List ℕ → List ℕ → List ℕ
either xs ys =
    bit_or (get_or xs 0 0) (get_or ys 0 0) ∷ bit_or (get_or xs 1 0) (get_or ys 1 0)
    ∷ bit_or (get_or xs 2 0) (get_or ys 2 0) ∷ bit_or (get_or xs 3 0) (get_or ys 3 0) ∷ []

either_word : (xs ys : List ℕ) (k : ℕ) → k < 4 → get_or (either xs ys) k 0 ≡ bit_or (get_or xs k 0) (get_or ys k 0)
either_word xs ys zero within = refl
either_word xs ys (suc zero) within = refl
either_word xs ys (suc (suc zero)) within = refl
either_word xs ys (suc (suc (suc zero))) within = refl
either_word xs ys (suc (suc (suc (suc k)))) within = absurd (omega (arith, within))

pub either_byte : (xs ys : List ℕ) (id : ℕ)
    → has_bit (either xs ys) (id % 256) ≡ has_bit xs (id % 256) || has_bit ys (id % 256)
either_byte xs ys id =
    let low : ℕ = id % 256 in
    ap (λ (n : ℕ). bit_at n (low % 64) == 1) (either_word xs ys (low / 64) (word_within low (byte_within id)))
    ∙ both_sets (get_or xs (low / 64) 0) (get_or ys (low / 64) 0) (low % 64)

-- ---- devices

deaf_more : (old new : LowBytes) (d : Device)
    → ((id : ℕ) → has_low_byte_of new id ≡ false → has_low_byte_of old id ≡ false) → IsDeafBeyond old d
    → IsDeafBeyond new d
deaf_more old new d more h = record { deaf = λ frame within out. h.deaf frame within (more frame.id out) }

all_more : (old new : LowBytes) → ((id : ℕ) → has_low_byte_of new id ≡ false → has_low_byte_of old id ≡ false)
    → (ds : List Device) → AreDeafBeyond old ds → AreDeafBeyond new ds
all_more old new more [] all = tt
all_more old new more (d ∷ ds) all = (deaf_more old new d more all.0, all_more old new more ds all.1)

pub deaf_both : (a b both : LowBytes)
    → ((id : ℕ) → has_low_byte_of both id ≡ has_low_byte_of a id || has_low_byte_of b id)
    → (ds es : List Device) → AreDeafBeyond a ds → AreDeafBeyond b es → AreDeafBeyond both (ds ++ es)
deaf_both a b both is ds es f g = all_both (IsDeafBeyond both) ds es
    (all_more a both (λ id out. (neither (has_low_byte_of a id) (has_low_byte_of b id) (sym (is id) ∙ out)).0) ds f)
    (all_more b both (λ id out. (neither (has_low_byte_of a id) (has_low_byte_of b id) (sym (is id) ∙ out)).1) es g)

-- of a device of which nothing is known
pub deaf_beyond_all : (bytes : LowBytes) (d : Device) → ((id : ℕ) → has_low_byte_of bytes id ≡ true)
    → IsDeafBeyond bytes d
deaf_beyond_all bytes d all = record { deaf = λ frame within out. absurd (no (sym (all frame.id) ∙ out)) }
  where
    no : true ≡ false → ⊥
    no e = cc
