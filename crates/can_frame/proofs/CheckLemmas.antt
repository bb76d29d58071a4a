-- A step of the check by eight bits is that of the table. A register is taken as q xor s, where s has the bits that are
-- sent as its highest ones: then s is shifted alone, and q goes on as behind 0s.
use Rattle.std.proofs.Common.{◌≡◌, ℕ, zero, suc, ◌+◌, ◌*◌, ◌-◌, ◌/◌, ◌%◌, ◌^◌, ◌<◌, ◌≤◌, Bool, true, false, List, [], ◌∷◌}
use Rattle.std.proofs.Common.{map, get_or, refl, ap, sym, ◌∙◌, lit<, lit≤, arith}
use Rattle.std.specs.Prelude.{◌==◌, if◌then◌else◌}
use Rattle.std.specs.Int.{bit_at}
use Rattle.std.specs.Int.Bits.{bit_xor}
use Rattle.std.specs.List.{fold, range_with_len}
use Rattle.std.proofs.lemmas.List.FromFn.{get_or-map-range_with_len}
use Rattle.std.proofs.lemmas.Nat.{xor_block, xor_comm, xor_lt, xor_mod}
use Rattle.std.proofs.lemmas.Nat.Bits.{bit_at-lt, bit_at-suc, bit_at-zero, bit_at_cat_high, bit_at_cat_low, bit_at_xor}
use lib.Bits.{xor_assoc, xor_self, xor_zero_r}
use Rattle.can_frame.specs.WireBits.{bits, with_bit}
use Rattle.can_frame.specs.declared.check.TheConstants.{CHECKS}

-- ---- one bit

polynomial_goes : (same : Bool) (q s : ℕ) → (if same then bit_xor q s else bit_xor (bit_xor q s) 0x4599)
    ≡ bit_xor (if same then q else bit_xor q 0x4599) s
polynomial_goes true q s = refl
polynomial_goes false q s = xor_assoc q s 0x4599 ∙ ap (bit_xor q) (xor_comm s 0x4599) ∙ sym (xor_assoc q 0x4599 s)

same_test : (a b : ℕ) → a < 2 → b < 2 → (b == (a + b) % 2) ≡ (0 == a)
same_test zero zero g h = refl
same_test zero (suc zero) g h = refl
same_test (suc zero) zero g h = refl
same_test (suc zero) (suc zero) g h = refl
same_test (suc (suc a)) b g h = absurd (omega arith)
same_test a (suc (suc b)) g h = absurd (omega arith)

twice_xor : (q s : ℕ) → bit_xor q s * 2 % 0x8000 ≡ bit_xor (q * 2 % 0x8000) (s * 2 % 0x8000)
twice_xor q s = ap (λ n. n % 0x8000) (sym (twice q s)) ∙ xor_mod (q * 2) (s * 2) 15
  where
    twice : (q s : ℕ) → bit_xor (q * 2) (s * 2) ≡ bit_xor q s * 2
    twice q s =
        let block = xor_block 1 q s 0 0 (lit< tt) (lit< tt) in
        ap (λ n. bit_xor n (s * 2)) (omega arith) ∙ ap (bit_xor (q * 2 + 0)) (omega arith) ∙ block ∙ omega arith

-- where a bit is as the highest of s, s is shifted alone
shifted_alone : (q s : ℕ) → with_bit (bit_xor q s) (bit_at s 14) ≡ bit_xor (with_bit q 0) (s * 2 % 0x8000)
shifted_alone q s =
    let test : (bit_at s 14 == bit_at (bit_xor q s) 14) ≡ (0 == bit_at q 14)
    = ap (λ bit. bit_at s 14 == bit) (bit_at_xor q s 14)
    ∙ same_test (bit_at q 14) (bit_at s 14) (bit_at-lt q 14) (bit_at-lt s 14) in
    ap (λ (same : Bool). if same then bit_xor q s * 2 % 0x8000 else bit_xor (bit_xor q s * 2 % 0x8000) 0x4599) test
    ∙ ap (λ n. if 0 == bit_at q 14 then n else bit_xor n 0x4599) (twice_xor q s)
    ∙ polynomial_goes (0 == bit_at q 14) (q * 2 % 0x8000) (s * 2 % 0x8000)

-- ---- more bits

abbrev shifted : ℕ → ℕ → ℕ
shifted zero s = s
shifted (suc width) s = shifted width (s * 2 % 0x8000)

bit_shifted : (s i : ℕ) → i < 14 → bit_at (s * 2 % 0x8000) (suc i) ≡ bit_at s i
bit_shifted s i h =
    let half : s * 2 % 0x8000 / 2 ≡ s % 2 ^ 14 = omega arith in
    let whole : s / 2 ^ 14 * 2 ^ 14 + s % 2 ^ 14 ≡ s = omega arith in
    bit_at-suc (s * 2 % 0x8000) i ∙ ap (λ n. bit_at n i) half ∙ sym (bit_at_cat_low (s / 2 ^ 14) 14 (s % 2 ^ 14) i h)
    ∙ ap (λ n. bit_at n i) whole

-- where bits are the highest ones of s, s is shifted alone
all_shifted_alone : (width q s number : ℕ) → width ≤ 15
    → ((i : ℕ) → i < width → bit_at number i ≡ bit_at s (15 - width + i))
    → fold with_bit (bit_xor q s) (bits width number) ≡ bit_xor (fold with_bit q (bits width 0)) (shifted width s)
all_shifted_alone zero q s number short same = refl
all_shifted_alone (suc width) q s number short same =
    let top : 15 - suc width + width ≡ 14 = omega arith in
    let bit : bit_at number width ≡ bit_at s 14 = same width (omega arith) ∙ ap (bit_at s) top in
    let rest : (i : ℕ) → i < width → bit_at number i ≡ bit_at (s * 2 % 0x8000) (15 - width + i) = λ i less.
    let place : 15 - width + i ≡ suc (15 - suc width + i) = omega arith in
    same i (omega arith) ∙ sym (bit_shifted s (15 - suc width + i) (omega arith)) ∙ ap (bit_at (s * 2 % 0x8000)) (sym place) in
    ap (λ bit. fold with_bit (with_bit (bit_xor q s) bit) (bits width number)) bit
    ∙ ap (λ register. fold with_bit register (bits width number)) (shifted_alone q s)
    ∙ all_shifted_alone width (with_bit q 0) (s * 2 % 0x8000) number (omega arith) rest
    ∙ ap (λ bit. bit_xor (fold with_bit (with_bit q bit) (bits width 0)) (shifted width (s * 2 % 0x8000)))
    (sym (bit_at-zero width))

-- ---- eight bits

-- the register behind eight 0s
abbrev check_at : ℕ → ℕ
check_at upper = fold with_bit (upper * 0x80) (bits 8 0)

checks_are : CHECKS ≡ map check_at (range_with_len 0 256)
checks_are = refl

check_is : (upper : ℕ) → upper < 256 → get_or CHECKS upper 0 ≡ check_at upper
check_is upper h = ap (λ (checks : List ℕ). get_or checks upper 0) checks_are
    ∙ get_or-map-range_with_len check_at 0 256 upper upper 0 h (omega arith)

-- a register is the upper part that the table knows and one whose highest bits are the byte
parted : (register byte : ℕ)
    → register ≡ bit_xor (bit_xor (register / 0x80) byte * 0x80) (byte * 0x80 + register % 0x80)
parted register byte =
    let upper = bit_xor (register / 0x80) byte in
    let low : register % 0x80 < 0x80 = omega arith in
    let block = xor_block 7 upper byte 0 (register % 0x80) (lit< tt) low in
    let again : bit_xor upper byte ≡ register / 0x80
    = xor_assoc (register / 0x80) byte byte ∙ ap (bit_xor (register / 0x80)) (xor_self byte)
    ∙ xor_zero_r (register / 0x80) in
    let whole : register ≡ register / 0x80 * 0x80 + register % 0x80 = omega arith in
    let zero_more : upper * 0x80 + 0 ≡ upper * 0x80 = omega arith in
    whole ∙ ap (λ n. n * 0x80 + register % 0x80) (sym again) ∙ sym block
    ∙ ap (λ n. bit_xor n (byte * 0x80 + register % 0x80)) zero_more

pub by_table : (register byte : ℕ) → byte < 256 → register < 0x8000
    → bit_xor (register % 0x80 * 0x100) (get_or CHECKS (bit_xor (register / 0x80) byte) 0)
    ≡ fold with_bit register (bits 8 byte)
by_table register byte g h =
    let upper = bit_xor (register / 0x80) byte in
    let s = byte * 0x80 + register % 0x80 in
    let few : upper < 256 = xor_lt 8 (register / 0x80) byte (omega arith) g in
    let low : register % 0x80 < 0x80 = omega arith in
    let same : (i : ℕ) → i < 8 → bit_at byte i ≡ bit_at s (15 - 8 + i) = λ i less.
    let place : 7 + i - 7 ≡ i = omega arith in
    sym (bit_at_cat_high byte 7 (register % 0x80) (7 + i) low (omega arith) ∙ ap (bit_at byte) place) in
    let lower : shifted 8 s ≡ register % 0x80 * 0x100 = omega arith in
    sym (
    ap (λ register. fold with_bit register (bits 8 byte)) (parted register byte)
    ∙ all_shifted_alone 8 (upper * 0x80) s byte (lit≤ tt) same
    ∙ ap (bit_xor (check_at upper)) lower
    ∙ xor_comm (check_at upper) (register % 0x80 * 0x100)
    ∙ ap (bit_xor (register % 0x80 * 0x100)) (sym (check_is upper few))
    )

small_step : (same : Bool) (n : ℕ) → n < 0x8000 → (if same then n else bit_xor n 0x4599) < 0x8000
small_step true n h = h
small_step false n h = xor_lt 15 n 0x4599 h (lit< tt)

pub stays_small : (register : ℕ) (sent : List ℕ) → register < 0x8000 → fold with_bit register sent < 0x8000
stays_small register [] h = h
stays_small register (bit ∷ sent) h = stays_small (with_bit register bit) sent
    (small_step (bit == bit_at register 14) (register * 2 % 0x8000) (omega arith))
