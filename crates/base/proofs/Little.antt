-- From bytes to the number and back, which the laws of `ByteOrder` leave out.
use Rattle.std.proofs.Common.{◌/◌, ◌%◌, ◌≡◌, ℕ, zero, suc, ◌+◌, ◌*◌, ◌^◌, ◌<◌, ◌≤◌, List, [], ◌∷◌, length, take, refl}
use Rattle.std.proofs.Common.{sym, ap, ◌∙◌, arith}
use Rattle.std.proofs.Math.Nat.{div-div-eq-div-mul, pow-succ'}
use Rattle.std.specs.Int.{byte_at, bytes_low_first}
use Rattle.byteorder.specs.Endian.{little_bytes, little_number}
use Rattle.byteorder.specs.Numbers.{little_from-cons}
use Rattle.base.specs.Bytes.{AreBytes}

-- byte i + 1 of a number is byte i of what is above its lowest
byte_at-suc : (i x : ℕ) → byte_at (suc i) x ≡ byte_at i (x / 256)
byte_at-suc zero x = ap (λ (p : ℕ). x / p % 256) refl
byte_at-suc (suc i) x = ap (λ (y : ℕ). y % 256)
    (ap (λ (p : ℕ). x / p) (pow-succ' 256 (suc i)) ∙ sym (div-div-eq-div-mul x 256 (256 ^ suc i)))

bytes_low_first-suc : (i k x : ℕ) → bytes_low_first (suc i) k x ≡ bytes_low_first i k (x / 256)
bytes_low_first-suc i zero x = refl
bytes_low_first-suc i (suc k) x = rw (byte_at-suc i x, bytes_low_first-suc (suc i) k x) refl

-- the bytes of the number in n bytes are those bytes
pub spelled_again : (n : ℕ) (bytes : List ℕ) → n ≤ length bytes → AreBytes bytes
    → little_bytes n (little_number n bytes) ≡ take n bytes
spelled_again zero bytes h fits = refl
spelled_again (suc n) [] h fits = absurd (omega arith)
spelled_again (suc n) (b ∷ bytes) h fits =
    let low : b < 256 = fits 0 in
    let number : little_number (suc n) (b ∷ bytes) ≡ b + 256 * little_number n bytes = ap (λ (r : ℕ). b + 256 * r)
    (little_from-cons 0 n b bytes) in
    let first : (b + 256 * little_number n bytes) % 256 ≡ b = omega arith in
    let above : (b + 256 * little_number n bytes) / 256 ≡ little_number n bytes = omega arith in
    let rest : bytes_low_first 1 n (b + 256 * little_number n bytes) ≡ take n bytes =
    bytes_low_first-suc 0 n (b + 256 * little_number n bytes) ∙ ap (bytes_low_first 0 n) above
    ∙ spelled_again n bytes (omega arith) (λ i. fits (suc i)) in
    rw (number, first, rest) refl
