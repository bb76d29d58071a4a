-- A step of the stuffing by four bits is that of the tables.
use Rattle.std.proofs.Common.{◌≡◌, ℕ, suc, ◌+◌, ◌*◌, ◌-◌, ◌/◌, ◌%◌, ◌^◌, ◌<◌, ◌≤◌, Bool, true, false, List, [], ◌∷◌, ◌++◌, length}
use Rattle.std.proofs.Common.{map, get_or, refl, ap, subst, sym, ◌∙◌, arith, append_assoc}
use Rattle.std.specs.Prelude.{◌==◌, ◌&&◌, if◌then◌else◌, nat_le}
use Rattle.std.specs.List.{range_with_len}
use Rattle.std.proofs.lemmas.Bool.Decides.{nat_tests}
use Rattle.std.proofs.lemmas.List.{length-append}
use Rattle.std.proofs.lemmas.List.FromFn.{get_or-map-range_with_len}
use Rattle.std.proofs.lemmas.List.Sums.{AllPass-from_list_all}
use Rattle.can_frame.specs.Sent.{bit_of_row, length_of_row, HasStuffed, IsRow}
use Rattle.can_frame.specs.WireBits.{bits, stuffed, stuffed_behind}
use Rattle.can_frame.specs.declared.stuffing.TheConstants.{ROWS, STUFF_BITS}
use Rattle.can_frame.specs.declared.stuffing.Stuffing.{Stuffing}
use Rattle.can_frame.proofs.BitLemmas.{low_bits, parted_bits}
use Rattle.can_frame.proofs.WireLemmas.{isnt_four, other_isnt, same_is}

-- ---- what bits add, behind a row

-- the place of the row that ends them
abbrev row_behind : ℕ → ℕ → List ℕ → ℕ
row_behind last row [] = 64 * last + 16 * (row - 1)
row_behind last row (bit ∷ rest) = if bit == last && row == 4 then row_behind (1 - bit) 1 rest
    else row_behind bit (if bit == last then row + 1 else 1) rest

-- their stuff bits
abbrev stuff_bits : ℕ → ℕ → List ℕ → ℕ
stuff_bits last row [] = 0
stuff_bits last row (bit ∷ rest) = if bit == last && row == 4 then 1 + stuff_bits (1 - bit) 1 rest
    else stuff_bits bit (if bit == last then row + 1 else 1) rest

-- bits behind a place
abbrev behind : ℕ → List ℕ → List ℕ
behind place more = stuffed_behind (bit_of_row place) (length_of_row place) more

counted_step : (same full : Bool) (bit row : ℕ) (rest more : List ℕ) → row ≤ 4 → (full ≡ false → row < 4)
    → ((l r : ℕ) → 1 ≤ r → r ≤ 4 → length (stuffed_behind l r (rest ++ more))
    ≡ length rest + stuff_bits l r rest + length (behind (row_behind l r rest) more))
    → length (if same && full then bit ∷ (1 - bit) ∷ stuffed_behind (1 - bit) 1 (rest ++ more)
    else bit ∷ stuffed_behind bit (if same then row + 1 else 1) (rest ++ more))
    ≡ suc (length rest) + (if same && full then 1 + stuff_bits (1 - bit) 1 rest
    else stuff_bits bit (if same then row + 1 else 1) rest)
    + length (behind (if same && full then row_behind (1 - bit) 1 rest
    else row_behind bit (if same then row + 1 else 1) rest) more)
counted_step true true bit row rest more short isnt h =
    let one = h (1 - bit) 1 (omega arith) (omega arith) in
    omega arith
counted_step true false bit row rest more short isnt h =
    let less = isnt refl in
    let one = h bit (row + 1) (omega arith) (omega arith) in
    omega arith
counted_step false full bit row rest more short isnt h = let one = h bit 1 (omega arith) (omega arith) in omega arith

counted : (last row : ℕ) (front more : List ℕ) → 1 ≤ row → row ≤ 4 → length (stuffed_behind last row (front ++ more))
    ≡ length front + stuff_bits last row front + length (behind (row_behind last row front) more)
counted last row [] more some short =
    let same_last : bit_of_row (64 * last + 16 * (row - 1)) ≡ last = omega arith in
    let same_row : length_of_row (64 * last + 16 * (row - 1)) ≡ row = omega arith in
    rw (same_last, same_row) (omega arith)
counted last row (bit ∷ rest) more some short =
    counted_step (bit == last) (row == 4) bit row rest more short (isnt_four row short)
    (λ l r s t. counted l r rest more s t)

-- ---- the tables

-- what a place stands for: a row, and four bits behind it
abbrev row_at : ℕ → ℕ
row_at place = row_behind (bit_of_row place) (length_of_row place) (bits 4 place)

abbrev stuff_bits_at : ℕ → ℕ
stuff_bits_at place = stuff_bits (bit_of_row place) (length_of_row place) (bits 4 place)

rows_are : ROWS ≡ map row_at (range_with_len 0 128)
rows_are = refl

stuff_bits_are : STUFF_BITS ≡ map stuff_bits_at (range_with_len 0 128)
stuff_bits_are = refl

row_is : (place : ℕ) → place < 128 → get_or ROWS place 0 ≡ row_at place
row_is place h = ap (λ (rows : List ℕ). get_or rows place 0) rows_are
    ∙ get_or-map-range_with_len row_at 0 128 place place 0 h (omega arith)

stuff_bits_is : (place : ℕ) → place < 128 → get_or STUFF_BITS place 0 ≡ stuff_bits_at place
stuff_bits_is place h = ap (λ (counts : List ℕ). get_or counts place 0) stuff_bits_are
    ∙ get_or-map-range_with_len stuff_bits_at 0 128 place place 0 h (omega arith)

row_of_test : (n : ℕ) → (n % 16 == 0 && nat_le n 112) ≡ true → IsRow n
row_of_test n h = record { begins = grind (arith, nat_tests); below = grind (arith, nat_tests) }

pub is_row : (place : ℕ) → place < 128 → IsRow (get_or ROWS place 0)
is_row place h = row_of_test (get_or ROWS place 0)
    (AllPass-from_list_all (λ n. n % 16 == 0 && nat_le n 112) ROWS refl place 0 h)

pub few_stuff_bits : (place : ℕ) → place < 128 → get_or STUFF_BITS place 0 ≤ 1
few_stuff_bits place h =
    let test = AllPass-from_list_all (λ n. nat_le n 1) STUFF_BITS refl place 0 h in
    few (get_or STUFF_BITS place 0) test
  where
    few : (n : ℕ) → nat_le n 1 ≡ true → n ≤ 1
    few n h = grind (arith, nat_tests)

-- ---- four bits

pub four_stuffed : (sent : List ℕ) (before : Stuffing) (four row count : ℕ) → four < 16 → IsRow before.row
    → row ≡ get_or ROWS (before.row + four) 0 → count ≡ get_or STUFF_BITS (before.row + four) 0
    → HasStuffed sent before
    → HasStuffed (sent ++ bits 4 four) (record { row = row; stuff_bits = before.stuff_bits + count })
four_stuffed sent before four row count small is row_found count_found h =
    let place = before.row + four in
    let less : place < 128 = omega (arith, is.below) in
    let same_bit : bit_of_row place ≡ bit_of_row before.row = omega (arith, is.begins) in
    let same_length : length_of_row place ≡ length_of_row before.row = omega (arith, is.begins) in
    let same : bits 4 place ≡ bits 4 four = low_bits 4 place four (omega (arith, is.begins)) in
    let alike : (f : ℕ → ℕ → List ℕ → ℕ) → f (bit_of_row place) (length_of_row place) (bits 4 place)
    ≡ f (bit_of_row before.row) (length_of_row before.row) (bits 4 four) = λ f.
    ap (λ l. f l (length_of_row place) (bits 4 place)) same_bit
    ∙ ap (λ r. f (bit_of_row before.row) r (bits 4 place)) same_length ∙ ap (f (bit_of_row before.row) (length_of_row before.row)) same in
    let next = row_found ∙ row_is place less ∙ alike row_behind in
    let more_bits = count_found ∙ stuff_bits_is place less ∙ alike stuff_bits in
    record {
      count = λ more. ap (λ xs. length (stuffed xs)) (append_assoc sent (bits 4 four) more)
          ∙ h.count (bits 4 four ++ more) ∙ omega (
            arith,
            counted (bit_of_row before.row) (length_of_row before.row) (bits 4 four) more (omega arith) (omega arith),
            ap (λ place. length (behind place more)) next,
            more_bits,
            length-append sent (bits 4 four),
          );
    }

-- ---- eight bits

pub byte_stuffed : (sent : List ℕ) (byte high low : ℕ) (stuffing : Stuffing) → high ≡ byte / 16 → low ≡ byte % 16
    → HasStuffed ((sent ++ bits 4 high) ++ bits 4 low) stuffing → HasStuffed (sent ++ bits 8 byte) stuffing
byte_stuffed sent byte high low stuffing high_is low_is h =
    let upper : bits 4 high ≡ bits 4 (byte / 2 ^ 4) = ap (bits 4) high_is in
    let lower : bits 4 low ≡ bits 4 byte = sym (low_bits 4 byte low (sym low_is)) in
    let whole = append_assoc sent (bits 4 high) (bits 4 low) ∙ ap (λ xs. sent ++ (xs ++ bits 4 low)) upper
    ∙ ap (λ xs. sent ++ (bits 4 (byte / 2 ^ 4) ++ xs)) lower
    ∙ ap (λ xs. sent ++ xs) (sym (parted_bits 4 4 8 byte refl)) in
    subst (λ (xs : List ℕ). HasStuffed xs stuffing) whole h

-- ---- a last bit, turned

alone : (bit last row : ℕ) → (bit == last && row == 4) ≡ false → length (stuffed_behind last row (bit ∷ [])) ≡ 1
alone bit last row other = ap (λ (full : Bool). length (if full then bit ∷ (1 - bit) ∷ [] else bit ∷ [])) other

turned_step : (same full : Bool) (bit row : ℕ)
    → length (if same && full then bit ∷ (1 - bit) ∷ stuffed_behind (1 - bit) 1 ((1 - bit) ∷ [])
    else bit ∷ stuffed_behind bit (if same then row + 1 else 1) ((1 - bit) ∷ []))
    ≡ suc (length (if same && full then bit ∷ (1 - bit) ∷ [] else bit ∷ []))
turned_step true true bit row =
    ap (λ n. suc (suc n)) (alone (1 - bit) (1 - bit) 1 (ap (λ (same : Bool). same && false) (same_is (1 - bit))))
turned_step true false bit row =
    ap suc (alone (1 - bit) bit (row + 1) (ap (λ (same : Bool). same && row + 1 == 4) (other_isnt bit)))
turned_step false full bit row =
    ap suc (alone (1 - bit) bit 1 (ap (λ (same : Bool). same && false) (other_isnt bit)))

front_step : (same full : Bool) (bit row : ℕ) (front more : List ℕ)
    → ((l r : ℕ) → length (stuffed_behind l r more) ≡ suc (length (stuffed_behind l r front)))
    → length (if same && full then bit ∷ (1 - bit) ∷ stuffed_behind (1 - bit) 1 more
    else bit ∷ stuffed_behind bit (if same then row + 1 else 1) more)
    ≡ suc (length (if same && full then bit ∷ (1 - bit) ∷ stuffed_behind (1 - bit) 1 front
    else bit ∷ stuffed_behind bit (if same then row + 1 else 1) front))
front_step true true bit row front more h = ap (λ n. suc (suc n)) (h (1 - bit) 1)
front_step true false bit row front more h = ap suc (h bit (row + 1))
front_step false full bit row front more h = ap suc (h bit 1)

-- behind the last bit one of the other value adds no stuff bit
pub turned_adds_one : (last row bit : ℕ) (front : List ℕ)
    → length (stuffed_behind last row (front ++ bit ∷ (1 - bit) ∷ []))
    ≡ suc (length (stuffed_behind last row (front ++ bit ∷ [])))
turned_adds_one last row bit [] = turned_step (bit == last) (row == 4) bit row
turned_adds_one last row bit (one ∷ front) =
    front_step (one == last) (row == 4) one row (front ++ bit ∷ []) (front ++ bit ∷ (1 - bit) ∷ [])
    (λ l r. turned_adds_one l r bit front)
