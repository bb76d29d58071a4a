-- Bits that have gone over the wire, byte by byte.
use Rattle.std.proofs.Common.{◌≡◌, ℕ, ◌+◌, ◌*◌, ◌-◌, ◌/◌, ◌%◌, ◌^◌, List, [], ◌∷◌, ◌++◌, length}
use Rattle.std.proofs.Common.{refl, ap, sym, ◌∙◌, arith, append_assoc}
use Rattle.std.specs.Int.{bit_at}
use Rattle.std.proofs.lemmas.List.{append-nil, length-append}
use Rattle.can_frame.specs.declared.stuffing.Stuffing.{Stuffing}
use Rattle.can_frame.specs.declared.wire.Wire.{Wire}
use Rattle.can_frame.specs.Sent.{HasSent, HasStuffed}
use Rattle.can_frame.specs.WireBits.{bits, crc, stuffed}
use Rattle.can_frame.proofs.BitLemmas.{low_bits, parted_bits}
use Rattle.can_frame.proofs.StuffingLemmas.{turned_adds_one}

-- a bit of the other value fills the check up to two bytes
filled_up : (check filled high low : ℕ) → filled ≡ check * 2 + 1 - check % 2 → high ≡ filled / 0x100
    → low ≡ filled % 0x100
    → bits 8 high ++ bits 8 low ≡ bits 14 (check / 2) ++ check % 2 ∷ (1 - check % 2) ∷ []
filled_up check filled high low is high_is low_is =
    let half : filled / 2 ^ 2 ≡ check / 2 = omega arith in
    let last : bit_at filled 1 ≡ check % 2 = omega arith in
    let turned : bit_at filled 0 ≡ 1 - check % 2 = omega arith in
    ap (λ n. bits 8 n ++ bits 8 low) high_is
    ∙ ap (λ xs. bits 8 (filled / 2 ^ 8) ++ xs) (sym (low_bits 8 filled low (sym low_is)))
    ∙ sym (parted_bits 8 8 16 filled refl) ∙ parted_bits 14 2 16 filled refl ∙ ap (λ n. bits 14 n ++ bits 2 filled) half
    ∙ ap (λ bit. bits 14 (check / 2) ++ bit ∷ bit_at filled 0 ∷ []) last
    ∙ ap (λ bit. bits 14 (check / 2) ++ check % 2 ∷ bit ∷ []) turned

last_apart : (check : ℕ) → bits 14 (check / 2) ++ check % 2 ∷ [] ≡ bits 15 check
last_apart check =
    let last : check % 2 ≡ bit_at check 0 = omega arith in
    ap (λ bit. bits 14 (check / 2) ++ bit ∷ []) last ∙ sym (parted_bits 14 1 15 check refl)

pub check_counted : (sent : List ℕ) (wire : Wire) (filled high low : ℕ) (next : Stuffing)
    → filled ≡ wire.check * 2 + 1 - wire.check % 2 → high ≡ filled / 0x100 → low ≡ filled % 0x100 → HasSent sent wire
    → HasStuffed ((sent ++ bits 8 high) ++ bits 8 low) next
    → length (stuffed (sent ++ bits 15 (crc sent))) ≡ length sent + 15 + next.stuff_bits
check_counted sent wire filled high low next is high_is low_is h done =
    let bit = wire.check % 2 in
    let front = bits 14 (wire.check / 2) in
    let whole = append-nil ((sent ++ bits 8 high) ++ bits 8 low) ∙ append_assoc sent (bits 8 high) (bits 8 low)
    ∙ ap (λ xs. sent ++ xs) (filled_up wire.check filled high low is high_is low_is)
    ∙ sym (append_assoc sent front (bit ∷ (1 - bit) ∷ [])) in
    let checked = append_assoc sent front (bit ∷ []) ∙ ap (λ xs. sent ++ xs) (last_apart wire.check)
    ∙ ap (λ check. sent ++ bits 15 check) h.check in
    omega (
      arith,
      done.count [],
      ap (λ xs. length (stuffed xs)) whole,
      turned_adds_one 0 0 bit (sent ++ front),
      ap (λ xs. length (stuffed xs)) checked,
      length-append (sent ++ bits 8 high) (bits 8 low),
      length-append sent (bits 8 high),
    )
