-- Lines of a trace: how a time is written, and that a line is of one time and one frame alone.
use Rattle.std.proofs.Common.{◌≡◌, ℕ, zero, suc, ◌+◌, ◌*◌, ◌-◌, ◌/◌, ◌%◌, ◌^◌, ◌<◌, ◌≤◌, true, List, [], ◌∷◌, ◌++◌, length, take, drop}
use Rattle.std.proofs.Common.{get_or, set, replicate, ⊎_elim, refl, ap, sym, ◌∙◌, arith, append_assoc, lit<}
use Rattle.std.specs.Prelude.{decimal}
use Rattle.std.proofs.lemmas.Bool.{cases_lt}
use Rattle.std.specs.Char.{digit_value}
use Rattle.std.specs.Fmt.{digit_glyph}
use Rattle.std.specs.Str.{byte}
use Rattle.std.specs.Str.Parse.{digits_value}
use Rattle.std.proofs.Math.Seq.{take-append_seam, drop-append_seam}
use Rattle.std.proofs.lemmas.Fmt.{decimal_digit, decimal_is_IsNumeral, decimal_step, length-decimal-le}
use Rattle.std.proofs.lemmas.List.{length-append, length-replicate, length-set, take_more, take_more_set}
use Rattle.std.proofs.lemmas.List.Concat.{flat_map-append}
use Rattle.std.proofs.lemmas.Option.{same_Some}
use Rattle.base.specs.Bytes.{AreBytes}
use Rattle.base.specs.Digits.{byte_digits, digits_number, identifier_digits}
use Rattle.base.proofs.DigitLemmas.{byte_again, digit_value-glyph}
use Rattle.can_frame.specs.Frames.{BaseFrame, IsFrame}
use Rattle.can_frame.specs.TraceLines.{byte_count, frame_line, spaced_bytes, ten_digits}

-- ---- a number in ten digits, each by a division

-- a number in at least so many digits
abbrev padded : ℕ → ℕ → List ℕ
padded k n = replicate (k - length (decimal n)) 48 ++ decimal n

abbrev zeros : ℕ → List ℕ
zeros k = replicate k 48

abbrev and_digit : List ℕ → ℕ → List ℕ
and_digit digits n = digits ++ (48 + n % 10) ∷ []

zeros_end_in_one : (k : ℕ) → zeros (suc k) ≡ zeros k ++ 48 ∷ []
zeros_end_in_one zero = refl
zeros_end_in_one (suc k) = ap (λ (xs : List ℕ). 48 ∷ xs) (zeros_end_in_one k)

one_digit : (k n : ℕ) → n < 10 → padded (suc k) n ≡ zeros k ++ (48 + n) ∷ []
one_digit k n h =
    let lacks : suc k - 1 ≡ k = omega arith in
    ap (λ (digits : List ℕ). zeros (suc k - length digits) ++ digits) (decimal_digit n h)
    ∙ ap (λ z. zeros z ++ (48 + n) ∷ []) lacks

-- the last digit, behind the others
last_digit : (k n m : ℕ) → n < 2 ^ 64 → n / 10 ≡ m → padded (suc (suc k)) n ≡ and_digit (padded (suc k) m) n
last_digit k n m small e = ⊎_elim few many (cases_lt n 10)
  where
    few : n < 10 → padded (suc (suc k)) n ≡ and_digit (padded (suc k) m) n
    few h =
        let none : m ≡ 0 = omega arith in
        let same : n % 10 ≡ n = omega arith in
        one_digit (suc k) n h
        ∙ ap (λ (front : List ℕ). front ++ (48 + n) ∷ []) (zeros_end_in_one k ∙ sym (one_digit k 0 (omega arith)))
        ∙ ap (λ d. padded (suc k) d ++ (48 + n) ∷ []) (sym none)
        ∙ ap (λ d. padded (suc k) m ++ (48 + d) ∷ []) (sym same)

    many : 10 ≤ n → padded (suc (suc k)) n ≡ and_digit (padded (suc k) m) n
    many h =
        let front = decimal m in
        let end : List ℕ = (48 + n % 10) ∷ [] in
        let split : decimal n ≡ front ++ end = decimal_step n h small ∙ ap (λ d. decimal d ++ end) e in
        let long : length (front ++ end) ≡ length front + 1 = length-append front end in
        let lacks : suc (suc k) - length (front ++ end) ≡ suc k - length front = omega (arith, long) in
        ap (λ (digits : List ℕ). zeros (suc (suc k) - length digits) ++ digits) split
        ∙ ap (λ z. zeros z ++ (front ++ end)) lacks
        ∙ sym (append_assoc (zeros (suc k - length front)) front end)

pub ten_digits_by_division : (n : ℕ) → n < 2 ^ 32
    → (48 + n / 1000000000) ∷ (48 + n / 100000000 % 10) ∷ (48 + n / 10000000 % 10) ∷ (48 + n / 1000000 % 10)
    ∷ (48 + n / 100000 % 10) ∷ (48 + n / 10000 % 10) ∷ (48 + n / 1000 % 10) ∷ (48 + n / 100 % 10) ∷ (48 + n / 10 % 10)
    ∷ (48 + n % 10) ∷ [] ≡ ten_digits n
ten_digits_by_division n h = sym (
    last_digit 8 n (n / 10) (omega arith) refl
    ∙ ap (λ ds. and_digit ds n) (last_digit 7 (n / 10) (n / 100) (omega arith) (omega arith)
    ∙ ap (λ ds. and_digit ds (n / 10)) (last_digit 6 (n / 100) (n / 1000) (omega arith) (omega arith)
    ∙ ap (λ ds. and_digit ds (n / 100)) (last_digit 5 (n / 1000) (n / 10000) (omega arith) (omega arith)
    ∙ ap (λ ds. and_digit ds (n / 1000)) (last_digit 4 (n / 10000) (n / 100000) (omega arith) (omega arith)
    ∙ ap (λ ds. and_digit ds (n / 10000)) (last_digit 3 (n / 100000) (n / 1000000) (omega arith) (omega arith)
    ∙ ap (λ ds. and_digit ds (n / 100000)) (last_digit 2 (n / 1000000) (n / 10000000) (omega arith) (omega arith)
    ∙ ap (λ ds. and_digit ds (n / 1000000)) (last_digit 1 (n / 10000000) (n / 100000000) (omega arith) (omega arith)
    ∙ ap (λ ds. and_digit ds (n / 10000000)) (last_digit 0 (n / 100000000) (n / 1000000000) (omega arith) (omega arith)
    ∙ ap (λ ds. and_digit ds (n / 100000000)) (one_digit 0 (n / 1000000000) (omega arith)))))))))))

-- ---- ten digits write one number

zeros_add_nothing : (k : ℕ) (digits : List ℕ) → digits_value 10 (replicate k 48 ++ digits) ≡ digits_value 10 digits
zeros_add_nothing zero digits = refl
zeros_add_nothing (suc k) digits = zeros_add_nothing k digits

ten_digits-value : (n : ℕ) → n < 10 ^ 10 → digits_value 10 (ten_digits n) ≡ n
ten_digits-value n h = zeros_add_nothing (10 - length (decimal n)) (decimal n)
    ∙ (decimal_is_IsNumeral n (omega arith)).1

ten_digits-length : (n : ℕ) → n < 10 ^ 10 → length (ten_digits n) ≡ 10
ten_digits-length n h =
    let short = length-decimal-le 10 n (lit< tt) h (omega arith) in
    omega (
      arith,
      length-append (replicate (10 - length (decimal n)) 48) (decimal n),
      length-replicate {A = ℕ} (10 - length (decimal n)) 48,
    )

-- ---- bytes written one after the other

three_more : (s : List ℕ) (k a b c : ℕ) → k + 3 ≤ length s
    → take (k + 3) (set (set (set s k a) (k + 1) b) (k + 2) c) ≡ take k s ++ a ∷ b ∷ c ∷ []
three_more s k a b c h =
    let one = set s k a in
    let two = set one (k + 1) b in
    let far : k + 3 ≡ k + 2 + 1 = omega arith in
    let near : k + 2 ≡ k + 1 + 1 = omega arith in
    ap (λ n. take n (set two (k + 2) c)) far
    ∙ take_more_set two (k + 2) c (omega (arith, length-set {A = ℕ}))
    ∙ ap (λ (xs : List ℕ). xs ++ c ∷ []) (ap (λ n. take n two) near ∙ take_more_set one (k + 1) b (omega (arith, length-set {A = ℕ}))
    ∙ ap (λ (xs : List ℕ). xs ++ b ∷ []) (take_more_set s k a (omega arith)))
    ∙ simp append_assoc

pub spaced_more : (s bytes digits : List ℕ) (i : ℕ) → length s ≡ 24 → length bytes ≤ 8 → i < length bytes
    → digits ≡ byte_digits (get_or bytes i 0) → take (3 * i) s ≡ spaced_bytes (take i bytes)
    → take (3 * (i + 1)) (set (set (set s (3 * i) 32) (3 * i + 1) (get_or digits 0 0)) (3 * i + 2) (get_or digits 1 0))
    ≡ spaced_bytes (take (i + 1) bytes)
spaced_more s bytes digits i long short below is here =
    let b = get_or bytes i 0 in
    let both : List ℕ → List ℕ = λ ds. set (set (set s (3 * i) 32) (3 * i + 1) (get_or ds 0 0)) (3 * i + 2) (get_or ds 1 0) in
    let size : 3 * (i + 1) ≡ 3 * i + 3 = omega arith in
    ap (λ n. take n (both digits)) size
    ∙ ap (λ ds. take (3 * i + 3) (both ds)) is
    ∙ three_more s (3 * i) 32 (digit_glyph true (b / 16)) (digit_glyph true (b % 16)) (omega arith)
    ∙ ap (λ (xs : List ℕ). xs ++ 32 ∷ byte_digits b) here
    ∙ sym (flat_map-append (λ b. byte " " ∷ byte_digits b) (take i bytes) (b ∷ []))
    ∙ ap spaced_bytes (sym (take_more bytes i 0 below))

-- ---- the parts of two equal lines

pub fronts : (a b c d : List ℕ) → length a ≡ length c → a ++ b ≡ c ++ d → a ≡ c
fronts a b c d n e = sym (take-append_seam a b) ∙ ap (take (length a)) e ∙ ap (λ k. take k (c ++ d)) n
    ∙ take-append_seam c d

pub behind : (a b c d : List ℕ) → length a ≡ length c → a ++ b ≡ c ++ d → b ≡ d
behind a b c d n e = sym (drop-append_seam a b) ∙ ap (drop (length a)) e ∙ ap (λ k. drop k (c ++ d)) n
    ∙ drop-append_seam c d

same_digit : (m n : ℕ) → m < 16 → n < 16 → digit_glyph true m ≡ digit_glyph true n → m ≡ n
same_digit m n g h e = sym (digit_value-glyph m g) ∙ ap digit_value e ∙ digit_value-glyph n h

same_identifier : (m n : ℕ) → m < 0x800 → n < 0x800 → identifier_digits m ≡ identifier_digits n → m ≡ n
same_identifier m n g h e =
    let high : m / 256 ≡ n / 256 = same_digit (m / 256) (n / 256) (omega arith) (omega arith)
    (ap (λ xs. get_or xs 0 0) e) in
    let middle : m / 16 % 16 ≡ n / 16 % 16 = same_digit (m / 16 % 16) (n / 16 % 16) (omega arith) (omega arith)
    (ap (λ xs. get_or xs 1 0) e) in
    let low : m % 16 ≡ n % 16 = same_digit (m % 16) (n % 16) (omega arith) (omega arith) (ap (λ xs. get_or xs 2 0) e) in
    omega arith

same_byte : (m n : ℕ) → m < 256 → n < 256 → byte_digits m ≡ byte_digits n → m ≡ n
same_byte m n g h e = same_Some m n (sym (byte_again m (omega arith)) ∙ ap (digits_number 16) e
    ∙ byte_again n (omega arith))

same_bytes : (xs ys : List ℕ) → AreBytes xs → AreBytes ys → spaced_bytes xs ≡ spaced_bytes ys → xs ≡ ys
same_bytes [] [] g h e = refl
same_bytes [] (y ∷ ys) g h e = absurd cc
same_bytes (x ∷ xs) [] g h e = absurd cc
same_bytes (x ∷ xs) (y ∷ ys) g h e =
    let front = fronts (byte " " ∷ byte_digits x) (spaced_bytes xs) (byte " " ∷ byte_digits y) (spaced_bytes ys) refl e
    in
    let first : x ≡ y = same_byte x y (g 0) (h 0) (ap (drop 1) front) in
    let rest : xs ≡ ys = same_bytes xs ys (λ i. g (suc i)) (λ i. h (suc i))
    (behind (byte " " ∷ byte_digits x) (spaced_bytes xs) (byte " " ∷ byte_digits y) (spaced_bytes ys) refl e) in
    cc

pub line_is_of_one : (time other : ℕ) (f g : BaseFrame) → time < 10 ^ 10 → other < 10 ^ 10 → IsFrame f → IsFrame g
    → frame_line time f ≡ frame_line other g → (time ≡ other) × (f ≡ g)
line_is_of_one time other f g early early' is is' e =
    let made : ℕ → List ℕ → BaseFrame = λ id bytes. record { id = id; bytes = bytes } in
    let long = ten_digits-length time early ∙ sym (ten_digits-length other early') in
    let times = fronts (ten_digits time) _ (ten_digits other) _ long e in
    let frames = behind (ten_digits time) _ (ten_digits other) _ long e in
    let identifiers = fronts (byte " " ∷ identifier_digits f.id) (byte_count (length f.bytes) ++ spaced_bytes f.bytes)
    (byte " " ∷ identifier_digits g.id) (byte_count (length g.bytes) ++ spaced_bytes g.bytes) refl frames in
    let bytes = behind (byte " " ∷ identifier_digits f.id) (byte_count (length f.bytes) ++ spaced_bytes f.bytes)
    (byte " " ∷ identifier_digits g.id) (byte_count (length g.bytes) ++ spaced_bytes g.bytes) refl frames in
    let id = same_identifier f.id g.id is.identifier is'.identifier (ap (drop 1) identifiers) in
    let all = same_bytes f.bytes g.bytes is.are_bytes is'.are_bytes (behind (byte_count (length f.bytes))
    (spaced_bytes f.bytes) (byte_count (length g.bytes)) (spaced_bytes g.bytes) refl bytes) in (
      sym (ten_digits-value time early) ∙ ap (digits_value 10) times ∙ ten_digits-value other early',
      ap (λ id. made id f.bytes) id ∙ ap (made g.id) all,
    )
