-- The bits on the wire are of one frame.
use Rattle.std.proofs.Common.{◌≡◌, ℕ, suc, ◌+◌, ◌*◌, ◌-◌, ◌/◌, ◌%◌, ◌^◌, ◌<◌, ◌≤◌, List, [], ◌∷◌, ◌++◌, length, get_or, take, drop}
use Rattle.std.proofs.Common.{refl, ap, subst, sym, ◌∙◌, arith, append_assoc}
use Rattle.std.specs.Prelude.{replicate}
use Rattle.std.specs.Int.{bit_at}
use Rattle.std.specs.List.{flat_map}
use Rattle.std.proofs.lemmas.List.{length-append, take_all, take_more}
use Rattle.std.proofs.lemmas.List.Concat.{flat_map-append}
use Rattle.std.proofs.lemmas.Nat.Bits.{same_from_bits_below}
use Rattle.base.specs.Bytes.{AreBytes}
use Rattle.can_frame.specs.Frames.{BaseFrame, IsFrame, slot_bits}
use Rattle.can_frame.specs.Slots.{bits_of_slot}
use Rattle.can_frame.specs.WireBits.{bits, checked_bits, crc, exact_bits, plain_bits, stuffed, unstuffed, wire_bits}
use Rattle.can_frame.specs.declared.slot_rule.SlotRule.{SlotRule}
use Rattle.can_frame.specs.declared.slot_rule.SlotRule.TheVariants.{Unstuffed, Stuffed}
use Rattle.can_frame.specs.declared.wire.Wire.{Wire}
use Rattle.can_frame.specs.Sent.{HasSent}
use Rattle.can_frame.proofs.BitLemmas.{bit_of, low_bits, parted_bits}
use Rattle.can_frame.proofs.TraceLemmas.{fronts, behind}
use Rattle.can_frame.proofs.WireLemmas.{few_stuffed, none_lost, six_fit_nowhere, stuffed_fits, undone}

-- ---- numbers and bytes

bit_below : (width m n i : ℕ) → bits width m ≡ bits width n → i < width → bit_at m i ≡ bit_at n i
bit_below width m n i e h =
    let place : width - 1 - (width - 1 - i) ≡ i = omega arith in
    ap (bit_at m) (sym place) ∙ sym (bit_of width m (width - 1 - i) (omega arith)) ∙ ap (λ xs. get_or xs (width - 1 - i) 0) e
    ∙ bit_of width n (width - 1 - i) (omega arith) ∙ ap (bit_at n) place

same_number : (width m n : ℕ) → m < 2 ^ width → n < 2 ^ width → bits width m ≡ bits width n → m ≡ n
same_number width m n g h e = same_from_bits_below width m n g h (λ i less. bit_below width m n i e less)

bytes_long : (bytes : List ℕ) → length (flat_map (bits 8) bytes) ≡ 8 * length bytes
bytes_long [] = refl
bytes_long (byte ∷ bytes) = omega (arith, bytes_long bytes)

same_bytes : (xs ys : List ℕ) → AreBytes xs → AreBytes ys → flat_map (bits 8) xs ≡ flat_map (bits 8) ys → xs ≡ ys
same_bytes [] [] g h e = refl
same_bytes [] (y ∷ ys) g h e = absurd cc
same_bytes (x ∷ xs) [] g h e = absurd cc
same_bytes (x ∷ xs) (y ∷ ys) g h e =
    let first : x ≡ y = same_number 8 x y (g 0) (h 0) (fronts (bits 8 x) (flat_map (bits 8) xs) (bits 8 y)
    (flat_map (bits 8) ys) refl e) in
    let rest : xs ≡ ys = same_bytes xs ys (λ i. g (suc i)) (λ i. h (suc i)) (behind (bits 8 x) (flat_map (bits 8) xs)
    (bits 8 y) (flat_map (bits 8) ys) refl e) in
    cc

-- ---- frames

-- the bits behind the identifier, and behind the length
abbrev tail : BaseFrame → List ℕ
tail frame = bits 15 (crc (checked_bits frame))

abbrev body : BaseFrame → List ℕ
body frame = flat_map (bits 8) frame.bytes

abbrev control : BaseFrame → List ℕ
control frame = 0 ∷ 0 ∷ 0 ∷ (bits 4 (length frame.bytes) ++ body frame)

laid_out : (frame : BaseFrame) → plain_bits frame
    ≡ 0 ∷ (bits 11 frame.id ++ 0 ∷ 0 ∷ 0 ∷ (bits 4 (length frame.bytes) ++ (body frame ++ tail frame)))
laid_out frame = ap (λ (xs : List ℕ). 0 ∷ xs) (append_assoc (bits 11 frame.id) (control frame) (tail frame)
    ∙ ap (λ (xs : List ℕ). bits 11 frame.id ++ 0 ∷ 0 ∷ 0 ∷ xs)
    (append_assoc (bits 4 (length frame.bytes)) (body frame) (tail frame)))

same_plain : (f g : BaseFrame) → IsFrame f → IsFrame g → plain_bits f ≡ plain_bits g → f ≡ g
same_plain f g is is' e =
    let made : ℕ → List ℕ → BaseFrame = λ id bytes. record { id = id; bytes = bytes } in
    let flat = ap (drop 1) (sym (laid_out f) ∙ e ∙ laid_out g) in
    let id = same_number 11 f.id g.id is.identifier is'.identifier (fronts (bits 11 f.id) _ (bits 11 g.id) _ refl flat) in
    let low = ap (drop 3) (behind (bits 11 f.id) _ (bits 11 g.id) _ refl flat) in
    let count = same_number 4 (length f.bytes) (length g.bytes) (omega (arith, is.short)) (omega (arith, is'.short))
    (fronts (bits 4 (length f.bytes)) _ (bits 4 (length g.bytes)) _ refl low) in
    let long : length (body f) ≡ length (body g) = omega (arith, bytes_long f.bytes, bytes_long g.bytes) in
    let all = same_bytes f.bytes g.bytes is.are_bytes is'.are_bytes (fronts (body f) (tail f) (body g) (tail g) long
    (behind (bits 4 (length f.bytes)) _ (bits 4 (length g.bytes)) _ refl low)) in
    ap (λ id. made id f.bytes) id ∙ ap (made g.id) all

-- ---- laws

pub unstuffed_again : (frame : BaseFrame) → unstuffed (wire_bits frame) ≡ plain_bits frame
unstuffed_again frame = undone 0 0 (plain_bits frame) (omega arith)

pub wire_is_of_one : (f g : BaseFrame) → IsFrame f → IsFrame g → wire_bits f ≡ wire_bits g → f ≡ g
wire_is_of_one f g is is' e = same_plain f g is is' (sym (unstuffed_again f) ∙ ap unstuffed e ∙ unstuffed_again g)

pub no_six : (frame : BaseFrame) (bit : ℕ) (front rest : List ℕ) → ¬ (wire_bits frame ≡ front ++ (replicate 6 bit ++ rest))
no_six frame bit front rest e = absurd (
    let fit = stuffed_fits 0 0 (plain_bits frame) (omega arith) in
    let not = six_fit_nowhere 0 0 bit front rest in
    cc
    )

plain_long : (frame : BaseFrame) → length (plain_bits frame) ≡ 34 + 8 * length frame.bytes
plain_long frame = ap length (laid_out frame) ∙ omega (
  arith,
  length-append (bits 11 frame.id) (0 ∷ 0 ∷ 0 ∷ (bits 4 (length frame.bytes) ++ (body frame ++ tail frame))),
  length-append (bits 4 (length frame.bytes)) (body frame ++ tail frame),
  length-append (body frame) (tail frame),
  bytes_long frame.bytes,
)

pub least_bits : (frame : BaseFrame) → 47 + 8 * length frame.bytes ≤ exact_bits frame
least_bits frame = omega (arith, none_lost 0 0 (plain_bits frame), plain_long frame)

pub least_of_slot : (rule : SlotRule) (frame : BaseFrame) → 47 + 8 * length frame.bytes ≤ bits_of_slot rule frame
least_of_slot Unstuffed frame = omega arith
least_of_slot Stuffed frame = least_bits frame

pub most_bits : (frame : BaseFrame) → exact_bits frame ≤ 47 + 8 * length frame.bytes + (33 + 8 * length frame.bytes) / 4
most_bits frame =
    let behind_start = bits 11 frame.id ++ control frame ++ tail frame in
    let few = few_stuffed 0 1 behind_start (omega arith) (omega arith) in
    omega (arith, few, plain_long frame)

-- ---- a frame, part by part

-- the bits up to the length, and what is behind it
abbrev pub head : BaseFrame → List ℕ → List ℕ
head frame rest = 0 ∷ (bits 11 frame.id ++ (0 ∷ 0 ∷ 0 ∷ (bits 4 (length frame.bytes) ++ rest)))

-- the bits up to the first bytes
abbrev pub up_to : BaseFrame → List ℕ → ℕ → List ℕ
up_to frame items i = head frame (flat_map (bits 8) (take i items))

-- the bits up to the length are three and two bytes
in_bytes : (id count first second third : ℕ) → id < 0x800 → count ≤ 8 → first ≡ id / 0x200 → second ≡ id / 2 % 0x100
    → third ≡ id % 2 * 0x80 + count
    → (bits 3 first ++ bits 8 second) ++ bits 8 third ≡ 0 ∷ (bits 11 id ++ 0 ∷ 0 ∷ 0 ∷ bits 4 count)
in_bytes id count first second third small short first_is second_is third_is =
    let top : bit_at first 2 ≡ 0 = omega arith in
    let two : bits 2 first ≡ bits 2 (id / 2 ^ 9) = ap (bits 2) first_is in
    let eight : bits 8 second ≡ bits 8 (id / 2 ^ 1) = sym (low_bits 8 (id / 2 ^ 1) second (sym second_is)) in
    let one : bits 1 (third / 2 ^ 7) ≡ bits 1 id = ap (λ bit. bit ∷ []) (omega arith) in
    let none : count / 2 ^ 4 ≡ 0 = omega arith in
    let low : bits 7 third ≡ 0 ∷ 0 ∷ 0 ∷ bits 4 count = low_bits 7 third count (omega arith) ∙ parted_bits 3 4 7 count refl
    ∙ ap (λ n. bits 3 n ++ bits 4 count) none in
    ap (λ bit. bit ∷ ((bits 2 first ++ bits 8 second) ++ bits 8 third)) top
    ∙ ap (λ xs. 0 ∷ ((xs ++ bits 8 second) ++ bits 8 third)) two
    ∙ ap (λ xs. 0 ∷ ((bits 2 (id / 2 ^ 9) ++ xs) ++ bits 8 third)) eight
    ∙ ap (λ xs. 0 ∷ ((bits 2 (id / 2 ^ 9) ++ bits 8 (id / 2 ^ 1)) ++ xs)) (parted_bits 1 7 8 third refl)
    ∙ ap (λ xs. 0 ∷ ((bits 2 (id / 2 ^ 9) ++ bits 8 (id / 2 ^ 1)) ++ (xs ++ bits 7 third))) one
    ∙ ap (λ xs. 0 ∷ ((bits 2 (id / 2 ^ 9) ++ bits 8 (id / 2 ^ 1)) ++ (bits 1 id ++ xs))) low
    ∙ ap (λ xs. 0 ∷ (bits 2 (id / 2 ^ 9) ++ (xs ++ 0 ∷ 0 ∷ 0 ∷ bits 4 count))) (sym (parted_bits 8 1 9 id refl))
    ∙ ap (λ xs. 0 ∷ (xs ++ 0 ∷ 0 ∷ 0 ∷ bits 4 count)) (sym (parted_bits 2 9 11 id refl))

pub head_sent : (frame : BaseFrame) (id count first second third : ℕ) (wire : Wire) → IsFrame frame → id ≡ frame.id
    → count ≡ length frame.bytes → first ≡ id / 0x200 → second ≡ id / 2 % 0x100 → third ≡ id % 2 * 0x80 + count
    → HasSent ((bits 3 first ++ bits 8 second) ++ bits 8 third) wire → HasSent (head frame []) wire
head_sent frame id count first second third wire is id_is count_is first_is second_is third_is h =
    let small : id < 0x800 = omega (arith, is.identifier) in
    let short : count ≤ 8 = omega (arith, is.short) in
    let whole = in_bytes id count first second third small short first_is second_is third_is
    ∙ ap (λ id. 0 ∷ (bits 11 id ++ 0 ∷ 0 ∷ 0 ∷ bits 4 count)) id_is
    ∙ ap (λ count. 0 ∷ (bits 11 frame.id ++ 0 ∷ 0 ∷ 0 ∷ bits 4 count)) count_is in
    subst (λ (xs : List ℕ). HasSent xs wire) whole h

pub byte_sent : (frame : BaseFrame) (items : List ℕ) (i byte : ℕ) (wire next : Wire) → i < length items
    → byte ≡ get_or items i 0
    → HasSent (up_to frame items i) wire
    → ((sent : List ℕ) → HasSent sent wire → HasSent (sent ++ bits 8 byte) next)
    → HasSent (up_to frame items (i + 1)) next
byte_sent frame items i byte wire next less is h more =
    let bytes = ap (flat_map (bits 8)) (take_more items i 0 less)
    ∙ flat_map-append (bits 8) (take i items) (get_or items i 0 ∷ []) in
    rw (bytes, ← is) (more (up_to frame items i) h)

pub all_sent : (frame : BaseFrame) (items : List ℕ) (i : ℕ) (wire : Wire) → items ≡ frame.bytes → length items ≤ i
    → HasSent (up_to frame items i) wire → HasSent (checked_bits frame) wire
all_sent frame items i wire same all h =
    let bytes : up_to frame items i ≡ checked_bits frame = ap (λ xs. head frame (flat_map (bits 8) xs))
    (take_all i items all ∙ same) in
    rw (← bytes) h

pub counted : (frame : BaseFrame) (stuff_bits : ℕ)
    → length (stuffed (plain_bits frame)) ≡ length (checked_bits frame) + 15 + stuff_bits
    → slot_bits frame + stuff_bits ≡ exact_bits frame
counted frame stuff_bits h =
    omega (arith, h, plain_long frame, length-append (checked_bits frame) (bits 15 (crc (checked_bits frame))))

pub ruleset bit_laws = (least_bits, least_of_slot, most_bits, no_six, unstuffed_again, wire_is_of_one)
