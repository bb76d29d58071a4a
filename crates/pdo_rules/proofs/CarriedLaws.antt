-- What is packed by one mapping, and unpacked by another.
use Rattle.std.proofs.Common.{◌≡◌, ◌≢◌, ℕ, zero, suc, ◌+◌, ◌*◌, ◌/◌, ◌%◌, ◌^◌, ◌-◌, ◌<◌, ◌≤◌, List, [], ◌∷◌, ◌++◌}
use Rattle.std.proofs.Common.{length, map, take, drop, Bool, true, false, ◌&&◌, cond, Option, Some, None, refl, sym, ap}
use Rattle.std.proofs.Common.{subst, ◌∙◌, append_assoc, append-nil, arith}
use Rattle.std.specs.Prelude.{is_ok, slice_get, slice_index, if◌then◌else◌}
use Rattle.std.specs.FinMap.{get, insert}
use Rattle.std.specs.Option.{option_map_or, unwrap_or}
use Rattle.std.proofs.Math.Nat.{mod-eq_of_lt, pow-succ'}
use Rattle.std.proofs.Math.Pow.{pow_mono}
use Rattle.std.proofs.Math.Seq.{drop-append-add, take-append_seam, take-length}
use Rattle.std.proofs.lemmas.List.{get_or_past}
use Rattle.std.proofs.lemmas.List.Sums.{sum_by-cons}
use Rattle.byteorder.specs.Endian.{little_bytes, little_from, little_number}
use Rattle.byteorder.specs.Numbers.{little_from-lt, little_number-reads_back}
use Rattle.base.specs.Bytes.{AreBytes}
use Rattle.base.proofs.Little.{spelled_again}
use Rattle.co_values.specs.declared.form.Form.{Form}
use Rattle.co_values.specs.declared.form.Form.TheVariants.{Flag, Signed, Unsigned, Decimal, Characters, HexPairs, Unmodelled}
use Rattle.co_values.specs.declared.form.Width.{Width}
use Rattle.co_values.specs.declared.form.Width.TheVariants.{Bits8, Bits16, Bits24, Bits32, Bits40, Bits48, Bits56, Bits64}
use Rattle.co_values.specs.Types.{bits_of_form, form, octets, real_octets, width_bits}
use Rattle.co_values.specs.Values.{IsLaidOut}
use Rattle.co_values.proofs.Printed.{real_width}
use Rattle.co_dict.specs.declared.direction.Direction.TheVariants.{Receive}
use Rattle.co_dict.specs.declared.entry.Entry.{Entry}
use Rattle.co_dict.specs.Checks.{is_entry_that}
use Rattle.co_dict.specs.Mappings.{mapped_length, mapped_place, mapping_bits}
use Rattle.co_dict.specs.Pdos.{is_mappable}
use Rattle.cia301.specs.PdoObjects.{is_of_pdos}
use Rattle.co_dict.specs.Shapes.{Shaped}
use Rattle.co_dict.specs.Values.{Values, number_at}
use Rattle.co_dict.specs.WriteCheck.{write_check}
use Rattle.co_dict.proofs.CheckLaws.{checked_alike, suits_taken}
use Rattle.co_dict.proofs.PlaceLemmas.{written_elsewhere, written_there}
use Rattle.pdo_rules.specs.Bits.{low_bits, number_of}
use Rattle.pdo_rules.specs.Carried.{AreApart, TakesWhole}
use Rattle.pdo_rules.specs.Packing.{after_entries, bits_for, bytes_begun, entry_bits, frame_bits, names_entry, payload_of}
use Rattle.pdo_rules.specs.Packing.{packed_bits, takes, after_payload, value_of_bits, with_bits}
use Rattle.pdo_rules.proofs.BitLemmas.{length-low_bits, low_bits-suc, number-low_bits}
use Rattle.pdo_rules.proofs.PackLemmas.{length-packed_bits}
use Rattle.pdo_rules.proofs.PositionLaws.{AreBits, packed_are_bits}

-- ---- the bits of a packed frame

low_bits_of : (bits : List ℕ) (more : ℕ) → AreBits bits
    → low_bits (length bits + more) (number_of bits) ≡ bits ++ low_bits more 0
unfolding number_of
low_bits_of [] more are = let none : 0 + more ≡ more = omega arith in ap (λ n. low_bits n 0) none
low_bits_of (bit ∷ bits) more are =
    let low : bit < 2 = are 0 in
    let one : suc (length bits) + more ≡ suc (length bits + more) = omega arith in
    let first : (bit + 2 * number_of bits) % 2 ≡ bit = omega (arith, low) in
    let rest : (bit + 2 * number_of bits) / 2 ≡ number_of bits = omega (arith, low) in
    ap (λ n. low_bits n (bit + 2 * number_of bits)) one
    ∙ low_bits-suc (length bits + more) (bit + 2 * number_of bits)
    ∙ ap (λ b. b ∷ low_bits (length bits + more) ((bit + 2 * number_of bits) / 2)) first
    ∙ ap (λ n. bit ∷ low_bits (length bits + more) n) rest
    ∙ ap (λ bs. bit ∷ bs) (low_bits_of bits more (λ p. are (suc p)))

number_small : (bits : List ℕ) → AreBits bits → number_of bits < 2 ^ length bits
unfolding number_of
number_small [] are = omega arith
number_small (bit ∷ bits) are =
    let low : bit < 2 = are 0 in
    let rest = number_small bits (λ p. are (suc p)) in
    omega (arith, low, rest, pow-succ' 2 (length bits))

-- the bits of a packed frame are those of its entries, and zeros behind them
frame_is : (values : Values) (mapping : List ℕ) → mapping_bits mapping ≤ 64
    → frame_bits (payload_of values mapping).0 ≡ packed_bits values mapping ++ low_bits (64 - mapping_bits mapping) 0
unfolding payload_of
frame_is values mapping few =
    let bits = packed_bits values mapping in
    let more : ℕ = 64 - mapping_bits mapping in
    let are = packed_are_bits values mapping in
    let count = length-packed_bits values mapping in
    let within : length bits ≤ 64 = omega (arith, count, few) in
    let small : number_of bits < 2 ^ 64 = omega (arith, number_small bits are, pow_mono within) in
    let back : little_number 8 (little_bytes 8 (number_of bits)) ≡ number_of bits =
    ap (little_number 8) (sym (append-nil (little_bytes 8 (number_of bits))))
    ∙ little_number-reads_back 8 (number_of bits) [] small in
    let all : 64 ≡ length bits + more = omega (arith, count, few) in
    ap (low_bits 64) back ∙ ap (λ n. low_bits n (number_of bits)) all ∙ low_bits_of bits more are

there : (values : Values) (mapping : List ℕ) (i entry : ℕ) (behind : List ℕ) → slice_get mapping i ≡ Some entry
    → take (mapped_length entry) (drop (mapping_bits (take i mapping)) (packed_bits values mapping ++ behind))
    ≡ entry_bits values entry
there values [] i entry behind e = cc
there values (first ∷ mapping) zero entry behind e =
    let same : first ≡ entry = cc in
    let mine = entry_bits values first in
    ap (take (mapped_length entry)) (append_assoc mine (packed_bits values mapping) behind)
    ∙ ap (λ n. take n (mine ++ (packed_bits values mapping ++ behind)))
    (ap mapped_length (sym same)
    ∙ sym (length-low_bits (mapped_length first) (number_at 8 values (mapped_place first))))
    ∙ take-append_seam mine (packed_bits values mapping ++ behind)
    ∙ ap (entry_bits values) same
there values (first ∷ mapping) (suc i) entry behind e =
    let mine = entry_bits values first in
    let rest = packed_bits values mapping ++ behind in
    let before : ℕ = mapping_bits (take i mapping) in
    let position : mapping_bits (take (suc i) (first ∷ mapping)) ≡ length mine + before =
    sum_by-cons mapped_length first (take i mapping)
    ∙ ap (λ (n : ℕ). n + before)
    (sym (length-low_bits (mapped_length first) (number_at 8 values (mapped_place first)))) in
    ap (λ bits. take (mapped_length entry) (drop (mapping_bits (take (suc i) (first ∷ mapping))) bits))
    (append_assoc mine (packed_bits values mapping) behind)
    ∙ ap (λ n. take (mapped_length entry) (drop n (mine ++ rest))) position
    ∙ ap (take (mapped_length entry)) (drop-append-add mine rest before)
    ∙ there values mapping i entry behind e

-- each mapped entry has its bits at its position
pub bits_at_position : (values : Values) (mapping : List ℕ) (i entry : ℕ) → mapping_bits mapping ≤ 64
    → slice_get mapping i ≡ Some entry
    → bits_for entry (mapping_bits (take i mapping)) (frame_bits (payload_of values mapping).0) ≡ entry_bits values entry
unfolding bits_for
bits_at_position values mapping i entry few e =
    ap (λ bits. take (mapped_length entry) (drop (mapping_bits (take i mapping)) bits)) (frame_is values mapping few)
    ∙ there values mapping i entry (low_bits (64 - mapping_bits mapping) 0) e

-- ---- what an entry gets

module _ (shape : Shaped) (entry : ℕ) (bits : List ℕ) where
  abbrev Place : ℕ × ℕ
  Place = mapped_place entry

  with_elsewhere : (values : Values) (q : ℕ × ℕ) → q ≢ Place → get (with_bits shape entry bits values) q ≡ get values q
  unfolding with_bits
  with_elsewhere values q other = by (takes shape entry bits values)
    where
      by : (b : Bool) → get (if b then insert values (mapped_place entry) (value_of_bits bits) else values) q
          ≡ get values q
      by true = written_elsewhere values (mapped_place entry) q (value_of_bits bits) other
      by false = refl

  with_there : (values : Values) → get (with_bits shape entry bits values) Place ≡ cond (takes shape entry bits values)
      (Some (value_of_bits bits)) (get values Place)
  unfolding with_bits
  with_there values = by (takes shape entry bits values)
    where
      by : (b : Bool) → get (if b then insert values (mapped_place entry) (value_of_bits bits) else values)
          (mapped_place entry) ≡ cond b (Some (value_of_bits bits)) (get values (mapped_place entry))
      by true = written_there values (mapped_place entry) (value_of_bits bits)
      by false = refl

  -- outside the objects of PDOs what it gets doesn't hang on the other values
  with_alike : is_of_pdos Place.0 ≡ false → (values others : Values) → get values Place ≡ get others Place
      → get (with_bits shape entry bits values) Place ≡ get (with_bits shape entry bits others) Place
  unfolding takes
  with_alike outside values others same =
      let test : takes shape entry bits values ≡ takes shape entry bits others =
      ap (λ check. names_entry shape entry && is_ok check)
      (checked_alike shape Place (value_of_bits bits) outside values others) in
      with_there values ∙ ap (λ b. cond b (Some (value_of_bits bits)) (get values Place)) test
      ∙ ap (cond (takes shape entry bits others) (Some (value_of_bits bits))) same ∙ sym (with_there others)

-- a mapping entry that names no entry changes nothing
with_left : (shape : Shaped) (entry : ℕ) (bits : List ℕ) (values : Values) (q : ℕ × ℕ)
    → (names_entry shape entry ≡ true → q ≢ mapped_place entry)
    → get (with_bits shape entry bits values) q ≡ get values q
unfolding with_bits takes
with_left shape entry bits values q apart = by (names_entry shape entry) refl
  where
    unnamed : names_entry shape entry ≡ false → get (with_bits shape entry bits values) q ≡ get values q
    unnamed e = rw e refl

    by : (named : Bool) → names_entry shape entry ≡ named → get (with_bits shape entry bits values) q ≡ get values q
    by true e = with_elsewhere shape entry bits values q (apart e)
    by false e = unnamed e

module _ (shape : Shaped) (bits : List ℕ) (q : ℕ × ℕ) where
  -- what isn't mapped stays
  pub unmapped_stays : (mapping : List ℕ) (position : ℕ) (values : Values)
      → ((i entry : ℕ) → slice_get mapping i ≡ Some entry → names_entry shape entry ≡ true → q ≢ mapped_place entry)
      → get (after_entries (with_bits shape) position mapping bits values) q ≡ get values q
  unmapped_stays [] position values apart = refl
  unmapped_stays (entry ∷ mapping) position values apart =
      unmapped_stays mapping (position + mapped_length entry)
      (with_bits shape entry (bits_for entry position bits) values) (λ i e there. apart (suc i) e there)
      ∙ with_left shape entry (bits_for entry position bits) values q (apart 0 entry refl)

module _ (shape : Shaped) (first : ℕ) (mapping : List ℕ) (apart : AreApart shape (first ∷ mapping)) where
  -- those of a mapping behind its first entry are apart too
  apart_behind : AreApart shape mapping
  apart_behind i j a b at_i at_j named same = let next : suc i ≡ suc j = apart (suc i) (suc j) a b at_i at_j named same
      in omega (arith, next)

  -- whether an entry is named hangs on its place alone
  first_apart : (i entry : ℕ) → slice_get mapping i ≡ Some entry → names_entry shape entry ≡ true
      → mapped_place first ≢ mapped_place entry
  first_apart i entry at named same =
      let named_too : names_entry shape first ≡ true =
      ap (λ (p : ℕ × ℕ). is_entry_that (is_mappable Receive) shape p) same ∙ named in
      let never : 0 ≡ suc i = apart 0 (suc i) first entry refl at named_too same in absurd (omega (arith, never))

  apart_from_first : (i entry : ℕ) → slice_get mapping i ≡ Some entry → names_entry shape first ≡ true
      → mapped_place entry ≢ mapped_place first
  apart_from_first i entry at named same =
      let never : 0 ≡ suc i = apart 0 (suc i) first entry refl at named (sym same) in absurd (omega (arith, never))

-- each mapped entry gets the bits at its position
pub gets_bits : (shape : Shaped) (mapping bits : List ℕ) (position : ℕ) (values : Values) (i entry : ℕ)
    → AreApart shape mapping → slice_get mapping i ≡ Some entry
    → is_of_pdos (mapped_place entry).0 ≡ false
    → get (after_entries (with_bits shape) position mapping bits values) (mapped_place entry)
    ≡ get (with_bits shape entry (bits_for entry (position + mapping_bits (take i mapping)) bits) values)
    (mapped_place entry)
gets_bits shape [] bits position values i entry apart e outside = cc
gets_bits shape (first ∷ mapping) bits position values zero entry apart e outside =
    let same : first ≡ entry = cc in
    let here : position ≡ position + 0 = omega arith in
    let next : ℕ → Values = λ n. with_bits shape n (bits_for n position bits) values in
    let stays = unmapped_stays shape bits (mapped_place first) mapping (position + mapped_length first) (next first)
    (first_apart shape first mapping apart) in
    ap (get (after_entries (with_bits shape) (position + mapped_length first) mapping bits (next first)))
    (ap mapped_place (sym same))
    ∙ stays
    ∙ ap (λ n. get (next n) (mapped_place n)) same
    ∙ ap (λ n. get (with_bits shape entry (bits_for entry n bits) values) (mapped_place entry)) here
gets_bits shape (first ∷ mapping) bits position values (suc i) entry apart e outside =
    let before : ℕ = mapping_bits (take i mapping) in
    let next : Values = with_bits shape first (bits_for first position bits) values in
    let sum : mapping_bits (take (suc i) (first ∷ mapping))
    ≡ mapped_length first + before = sum_by-cons mapped_length first (take i mapping) in
    let here : position + mapped_length first + before ≡ position + mapping_bits (take (suc i) (first ∷ mapping)) =
    omega (arith, sum) in
    let other = apart_from_first shape first mapping apart i entry e in
    gets_bits shape mapping bits (position + mapped_length first) next i entry (apart_behind shape first mapping apart)
    e outside
    ∙ with_alike shape entry (bits_for entry (position + mapped_length first + before) bits) outside next values
    (with_left shape first (bits_for first position bits) values (mapped_place entry) other)
    ∙ ap (λ n. get (with_bits shape entry (bits_for entry n bits) values) (mapped_place entry)) here

-- ---- the value

-- bytes that aren't there count as 0
nothing : (i k : ℕ) (bytes : List ℕ) → length bytes ≤ i → little_from i k bytes ≡ 0
nothing i zero bytes end = refl
nothing i (suc k) bytes end =
    let none : slice_index bytes i ≡ 0 = get_or_past bytes i 0 end in
    omega (arith, none, nothing (suc i) k bytes (omega arith))

past : (i n k : ℕ) (bytes : List ℕ) → length bytes ≤ i + n → little_from i (n + k) bytes ≡ little_from i n bytes
past i zero k bytes end = nothing i (zero + k) bytes (omega arith)
past i (suc n) k bytes end =
    let one : suc n + k ≡ suc (n + k) = omega arith in
    ap (λ m. little_from i m bytes) one ∙ ap (λ (m : ℕ). slice_index bytes i + 256 * m)
    (past (suc i) n k bytes (omega arith))

spelled : (n more : ℕ) (bytes : List ℕ) → n + more ≡ 8 → 256 ^ n ≡ 2 ^ (8 * n) → AreBytes bytes → length bytes ≡ n
    → little_bytes n (little_number 8 bytes % 2 ^ (8 * n)) ≡ bytes
spelled n more bytes all power are size =
    let end : length bytes ≤ 0 + n = omega (arith, size) in
    let number : little_number 8 bytes ≡ little_number n bytes = ap (λ m. little_number m bytes) (sym all)
    ∙ past 0 n more bytes end in
    let small : little_number n bytes < 2 ^ (8 * n) =
    subst (λ m. little_number n bytes < m) power (little_from-lt 0 n bytes are) in
    let within : n ≤ length bytes = omega (arith, size) in
    ap (λ (m : ℕ). little_bytes n (m % 2 ^ (8 * n))) number
    ∙ ap (little_bytes n) (mod-eq_of_lt small)
    ∙ spelled_again n bytes within are
    ∙ ap (λ m. take m bytes) (sym size)
    ∙ take-length bytes

whole : (width : Width) (bytes : List ℕ) → AreBytes bytes → length bytes ≡ octets width
    → little_bytes (octets width) (little_number 8 bytes % 2 ^ (8 * octets width)) ≡ bytes
whole Bits8 bytes are size = spelled 1 7 bytes refl refl are size
whole Bits16 bytes are size = spelled 2 6 bytes refl refl are size
whole Bits24 bytes are size = spelled 3 5 bytes refl refl are size
whole Bits32 bytes are size = spelled 4 4 bytes refl refl are size
whole Bits40 bytes are size = spelled 5 3 bytes refl refl are size
whole Bits48 bytes are size = spelled 6 2 bytes refl refl are size
whole Bits56 bytes are size = spelled 7 1 bytes refl refl are size
whole Bits64 bytes are size = spelled 8 0 bytes refl refl are size

few_octets : (width : Width) → (8 * octets width + 7) / 8 ≡ octets width
few_octets Bits8 = refl
few_octets Bits16 = refl
few_octets Bits24 = refl
few_octets Bits32 = refl
few_octets Bits40 = refl
few_octets Bits48 = refl
few_octets Bits56 = refl
few_octets Bits64 = refl

-- the same of as many bits as the bytes have
whole_bytes : (width : Width) (count : ℕ) (bytes : List ℕ) → AreBytes bytes → length bytes ≡ octets width
    → 8 * octets width ≡ count → little_bytes (bytes_begun count) (little_number 8 bytes % 2 ^ count) ≡ bytes
whole_bytes width count bytes are size bits =
    subst (λ n. little_bytes (bytes_begun n) (little_number 8 bytes % 2 ^ n)
    ≡ bytes) bits (ap (λ n. little_bytes n (little_number 8 bytes % 2 ^ (8 * octets width))) (few_octets width)
    ∙ whole width bytes are size)

flag_value : (bytes : List ℕ) → length bytes ≡ 1 → slice_index bytes 0 < 2
    → little_bytes 1 (little_number 8 bytes % 2 ^ 1) ≡ bytes
flag_value [] size low = absurd (omega arith)
flag_value (b ∷ c ∷ bytes) size low = absurd (omega (arith, size))
flag_value (b ∷ []) size low =
    let number : little_number 8 (b ∷ []) % 2 ^ 1 ≡ b = omega (arith, low) in
    let byte : b % 256 ≡ b = omega (arith, low) in
    ap (little_bytes 1) number ∙ ap (λ n. n ∷ []) byte

-- a value of a form with so many bits, spelled in as many bytes as they begin
kept_whole : (f : Form) (count : ℕ) (bytes : List ℕ) → AreBytes bytes → IsLaidOut f bytes → bits_of_form f ≡ Some count
    → little_bytes (bytes_begun count) (little_number 8 bytes % 2 ^ count) ≡ bytes
kept_whole Flag count bytes are fits e = let one : 1 ≡ count = cc
    in subst (λ n. little_bytes (bytes_begun n) (little_number 8 bytes % 2 ^ n)
    ≡ bytes) one (flag_value bytes fits.0 fits.1)
kept_whole (Signed width) count bytes are fits e =
    let size : 8 * octets width ≡ count = cc in
    whole_bytes width count bytes are fits size
kept_whole (Unsigned width) count bytes are fits e =
    let size : 8 * octets width ≡ count = cc in
    whole_bytes width count bytes are fits size
kept_whole (Decimal real) count bytes are fits e =
    let same = real_width real in
    let size : 8 * real_octets real ≡ count = cc in
    whole_bytes same.0 count bytes are (fits ∙ same.1) (sym (ap (λ n. 8 * n) same.1) ∙ size)
kept_whole Characters count bytes are fits e = cc
kept_whole HexPairs count bytes are fits e = cc
kept_whole Unmodelled count bytes are fits e = absurd fits

-- an entry that has a width in PDOs can be mapped
mappable_of : (mappable : Bool) (bits : Option ℕ) (count : ℕ) → (if mappable then bits else None) ≡ Some count
    → (mappable ≡ true) × (bits ≡ Some count)
mappable_of true bits count e = (refl, e)
mappable_of false bits count e = absurd cc

-- ---- from one device to another

-- mappings of the same lengths have the same positions
alike_there : (sent taken : List ℕ) → map mapped_length sent ≡ map mapped_length taken → (i a b : ℕ)
    → slice_get sent i ≡ Some a → slice_get taken i ≡ Some b
    → (mapped_length a ≡ mapped_length b) × (mapping_bits (take i sent) ≡ mapping_bits (take i taken))
alike_there [] taken alike i a b at_a at_b = cc
alike_there (x ∷ sent) [] alike i a b at_a at_b = cc
alike_there (x ∷ sent) (y ∷ taken) alike zero a b at_a at_b =
    let mine : x ≡ a = cc in
    let other : y ≡ b = cc in
    let head : mapped_length x ≡ mapped_length y = cc in
    (ap mapped_length (sym mine) ∙ head ∙ ap mapped_length other, refl)
alike_there (x ∷ sent) (y ∷ taken) alike (suc i) a b at_a at_b =
    let head : mapped_length x ≡ mapped_length y = cc in
    let tail : map mapped_length sent ≡ map mapped_length taken = cc in
    let rest = alike_there sent taken tail i a b at_a at_b in (
      rest.0,
      sum_by-cons mapped_length x (take i sent) ∙ ap (λ (n : ℕ). n + mapping_bits (take i sent)) head
          ∙ ap (λ (n : ℕ). mapped_length y + n) rest.1 ∙ sym (sum_by-cons mapped_length y (take i taken)),
    )

pub carried : (shape : Shaped) (from into : Values) (sent taken : List ℕ) (i a b : ℕ) (bytes : List ℕ)
    → mapping_bits sent ≤ 64 → map mapped_length sent ≡ map mapped_length taken → AreApart shape taken
    → slice_get sent i ≡ Some a → slice_get taken i ≡ Some b → get from (mapped_place a) ≡ Some bytes
    → TakesWhole shape b bytes
    → get (after_payload shape taken (payload_of from sent).0 into) (mapped_place b) ≡ Some bytes
unfolding bits_for takes
carried shape from into sent taken i a b bytes few alike apart at_a at_b held whole =
    let same = alike_there sent taken alike i a b at_a at_b in
    let mappable = mappable_of (is_mappable Receive whole.described) (width_bits whole.described.kind)
    (mapped_length b) whole.width in
    let frame : List ℕ = frame_bits (payload_of from sent).0 in
    let start : 0 + mapping_bits (take i taken) ≡ mapping_bits (take i sent) = omega (arith, same.1) in
    let bits : bits_for b (0 + mapping_bits (take i taken)) frame ≡ entry_bits from a =
    ap (λ n. bits_for b n frame) start ∙ ap (λ n. take n (drop (mapping_bits (take i sent)) frame)) (sym same.0)
    ∙ bits_at_position from sent i a few at_a in
    let count : length (entry_bits from a) ≡ mapped_length b = length-low_bits (mapped_length a)
    (number_at 8 from (mapped_place a)) ∙ same.0 in
    let number : number_of (entry_bits from a) ≡ little_number 8 bytes % 2 ^ mapped_length b =
    number-low_bits (mapped_length a) (number_at 8 from (mapped_place a))
    ∙ ap (λ (o : Option (List ℕ)). little_number 8 (unwrap_or o []) % 2 ^ mapped_length a) held
    ∙ ap (λ (n : ℕ). little_number 8 bytes % 2 ^ n) same.0 in
    let value : value_of_bits (entry_bits from a) ≡ bytes =
    ap (λ n. little_bytes (bytes_begun n) (number_of (entry_bits from a))) count
    ∙ ap (little_bytes (bytes_begun (mapped_length b))) number
    ∙ kept_whole (form whole.described.kind) (mapped_length b) bytes whole.suits.fits.0 whole.suits.fits.1 mappable.1 in
    let named : names_entry shape b ≡ true =
    ap (λ (o : Option Entry). option_map_or (is_mappable Receive) o false) whole.suits.there ∙ mappable.0 in
    let ok : takes shape b (entry_bits from a) into ≡ true =
    ap (λ test. test && is_ok (write_check shape into (mapped_place b) (value_of_bits (entry_bits from a)))) named
    ∙ ap (λ v. is_ok (write_check shape into (mapped_place b) v)) value
    ∙ ap is_ok (suits_taken shape into (mapped_place b) bytes whole.described whole.suits whole.outside) in
    gets_bits shape taken frame 0 into i b apart at_b whole.outside
    ∙ ap (λ v. get (with_bits shape b v into) (mapped_place b)) bits
    ∙ with_there shape b (entry_bits from a) into
    ∙ ap (λ t. cond t (Some (value_of_bits (entry_bits from a))) (get into (mapped_place b))) ok
    ∙ ap (λ v. Some v) value

pub from_start : (shape : Shaped) (mapping bytes : List ℕ) (values : Values) (i entry : ℕ) → AreApart shape mapping
    → slice_get mapping i ≡ Some entry
    → is_of_pdos (mapped_place entry).0 ≡ false
    → get (after_payload shape mapping bytes values) (mapped_place entry)
    ≡ get (with_bits shape entry (bits_for entry (mapping_bits (take i mapping)) (frame_bits bytes)) values)
    (mapped_place entry)
from_start shape mapping bytes values i entry apart e outside =
    let start : 0 + mapping_bits (take i mapping) ≡ mapping_bits (take i mapping) = omega arith in
    gets_bits shape mapping (frame_bits bytes) 0 values i entry apart e outside
    ∙ ap (λ n. get (with_bits shape entry (bits_for entry n (frame_bits bytes)) values) (mapped_place entry)) start

pub others_stay : (shape : Shaped) (mapping bytes : List ℕ) (values : Values) (place : ℕ × ℕ)
    → ((i entry : ℕ) → slice_get mapping i ≡ Some entry → names_entry shape entry ≡ true → place ≢ mapped_place entry)
    → get (after_payload shape mapping bytes values) place ≡ get values place
others_stay shape mapping bytes values place apart =
    unmapped_stays shape (frame_bits bytes) place mapping 0 values apart

pub ruleset each_its_own = (from_start, others_stay)
