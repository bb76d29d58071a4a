-- The first line of bytes in hexadecimal digits, the others, and their number.
use Rattle.std.proofs.Common.{◌≡◌, ◌≢◌, ℕ, zero, suc, ◌+◌, ◌-◌, ◌/◌, ◌%◌, ◌<◌, ◌≤◌, true, false, cond, eqb, ltb, List}
use Rattle.std.proofs.Common.{[], ◌∷◌, ◌++◌, length, take, drop, refl, sym, ap, ◌∙◌, append_assoc, append-nil, zero-add}
use Rattle.std.proofs.Common.{arith, length-drop, length-append, get_or, subst}
use Rattle.std.proofs.lemmas.List.{take_min, drop_min, take_all, drop_all, take_at, drop_at}
use Rattle.std.proofs.lemmas.List.Sums.{sum_by-cons, sum_by-append}
use Rattle.std.proofs.lemmas.Bool.{ne_eqb}
use Rattle.std.specs.Prelude.{min, ◌==◌}
use Rattle.std.specs.Str.{byte}
use Rattle.std.specs.Fmt.{digit_glyph}
use Rattle.std.specs.List.{flat_map}
use Rattle.base.specs.Lines.{line_feed, line_count}
use Rattle.base.specs.Digits.{byte_digits}
use Rattle.base.specs.Hex.{hex_line, rows, row_count, hex_text, digits_and_space}

one_more : (n k : ℕ) → 0 < n → k ≡ n - 16 → (n + 15) / 16 ≡ suc ((k + 15) / 16)
one_more n k some e = omega arith

row_count-more : (bs : List ℕ) → 0 < length bs → row_count bs ≡ suc (row_count (drop 16 bs))
row_count-more bs some = one_more (length bs) (length (drop 16 bs)) some (length-drop 16 bs)

pub hex_text-more : (bs : List ℕ) → 0 < length bs → hex_text bs ≡ hex_line (take 16 bs) ++ hex_text (drop 16 bs)
unfolding hex_text
hex_text-more bs some = ap (λ n. flat_map hex_line (rows n bs)) (row_count-more bs some)

none_left : (n : ℕ) → n ≡ 0 → (n + 15) / 16 ≡ 0
none_left n e = omega arith

pub hex_text-none : (bs : List ℕ) → length bs ≡ 0 → hex_text bs ≡ []
unfolding hex_text
hex_text-none bs none = ap (λ n. flat_map hex_line (rows n bs)) (none_left (length bs) none)

-- the loop's step
pub hex_step : (out new row rest after all : List ℕ) → new ≡ out ++ hex_line row
    → row ≡ take (min 16 (length rest)) rest → after ≡ drop (min 16 (length rest)) rest
    → 0 < length rest → out ++ hex_text rest ≡ all → new ++ hex_text after ≡ all
hex_step out new row rest after all e r a some inv =
    ap (λ t. t ++ hex_text after) e
    ∙ append_assoc out (hex_line row) (hex_text after)
    ∙ ap (λ t. out ++ (hex_line t ++ hex_text after)) (r ∙ take_min 16 rest)
    ∙ ap (λ t. out ++ (hex_line (take 16 rest) ++ hex_text t)) (a ∙ drop_min 16 rest)
    ∙ ap (λ t. out ++ t) (sym (hex_text-more rest some))
    ∙ inv

-- ---- four bytes of a line at once

-- what is added for them
abbrev four : ℕ → ℕ → ℕ → ℕ → ℕ → List ℕ
four a b c d end = digits_and_space a (digits_and_space b (digits_and_space c (byte_digits d ++ end ∷ [])))

four_is : (a b c d end : ℕ) (after : List ℕ) → end ≡ cond (length after == 0) line_feed (byte " ")
    → four a b c d end ++ hex_line after ≡ hex_line (a ∷ b ∷ c ∷ d ∷ after)
four_is a b c d end [] e = ap (λ t. four a b c d t) e
four_is a b c d end (x ∷ xs) e =
    let some : (suc (length xs) == 0) ≡ false = grind arith in
    ap (λ t. four a b c d t ++ hex_line (x ∷ xs)) (e ∙ ap (λ t. cond t line_feed (byte " ")) some)

-- the line's step
pub four_step : (out new all rest : List ℕ) (n end : ℕ) → 4 ≤ length rest → n ≡ length rest
    → end ≡ cond (length (take (n - 4) (drop 4 rest)) == 0) line_feed (byte " ")
    → new ≡ out ++ four (get_or rest 0 0) (get_or rest 1 0) (get_or rest 2 0) (get_or rest 3 0) end
    → out ++ hex_line rest ≡ all → new ++ hex_line (take (n - 4) (drop 4 rest)) ≡ all
four_step out new all [] n end le len e added inv = absurd (omega arith)
four_step out new all (a ∷ []) n end le len e added inv = absurd (omega arith)
four_step out new all (a ∷ b ∷ []) n end le len e added inv = absurd (omega arith)
four_step out new all (a ∷ b ∷ c ∷ []) n end le len e added inv = absurd (omega arith)
four_step out new all (a ∷ b ∷ c ∷ d ∷ after) n end le len e added inv =
    let left : length after ≤ n - 4 = omega arith in
    let whole : take (n - 4) after ≡ after = take_all (n - 4) after left in
    let ended : end ≡ cond (length after == 0) line_feed (byte " ") =
    subst (λ (t : List ℕ). end ≡ cond (length t == 0) line_feed (byte " ")) whole e in
    ap (λ (t : List ℕ). new ++ hex_line t) whole
    ∙ ap (λ (t : List ℕ). t ++ hex_line after) added
    ∙ append_assoc out (four a b c d end) (hex_line after)
    ∙ ap (λ (t : List ℕ). out ++ t) (four_is a b c d end after ended)
    ∙ inv

-- ---- a row, and the rows counted

pub hex_text-row : (row rest : List ℕ) → length row ≡ 16 → hex_text (row ++ rest) ≡ hex_line row ++ hex_text rest
hex_text-row row rest full =
    hex_text-more (row ++ rest) (omega (arith, length-append row rest))
    ∙ ap (λ t. hex_line t ++ hex_text (drop 16 (row ++ rest))) (take_at row rest 16 full)
    ∙ ap (λ t. hex_line row ++ hex_text t) (drop_at row rest 16 full)

pub hex_text-last : (row : List ℕ) → 0 < length row → length row ≤ 16 → hex_text row ≡ hex_line row
hex_text-last row some le =
    hex_text-more row some
    ∙ ap (λ t. hex_line t ++ hex_text (drop 16 row)) (take_all 16 row le)
    ∙ ap (λ t. hex_line row ++ hex_text t) (drop_all 16 row le)
    ∙ ap (λ t. hex_line row ++ t) (hex_text-none [] refl)
    ∙ append-nil (hex_line row)

-- ---- the lines counted

abbrev is_lf : ℕ → ℕ
is_lf b = cond (eqb b line_feed) 1 0

abbrev count : List ℕ → ℕ
count text = line_count text

not_lf : (b : ℕ) → b ≢ line_feed → is_lf b ≡ 0
not_lf b ne = rw (ne_eqb b line_feed ne) refl

digit_not_lf : (n : ℕ) → is_lf (digit_glyph true n) ≡ 0
digit_not_lf n =
    elim (ltb n 10) as (λ t. is_lf (cond t (48 + n) (55 + n)) ≡ 0) [
      | true ↦ not_lf (48 + n) (λ h. absurd (omega arith))
      | false ↦ not_lf (55 + n) (λ h. absurd (omega arith))
    ]

count-cons : (b : ℕ) (bs : List ℕ) → count (b ∷ bs) ≡ is_lf b + count bs
count-cons b bs = sum_by-cons is_lf b bs

count-pair : (m n end k : ℕ) (rest : List ℕ) → is_lf end ≡ k
    → count (digit_glyph true m ∷ digit_glyph true n ∷ end ∷ rest) ≡ k + count rest
count-pair m n end k rest e =
    count-cons (digit_glyph true m) (digit_glyph true n ∷ end ∷ rest)
    ∙ ap (λ x. x + count (digit_glyph true n ∷ end ∷ rest)) (digit_not_lf m)
    ∙ zero-add (count (digit_glyph true n ∷ end ∷ rest))
    ∙ count-cons (digit_glyph true n) (end ∷ rest)
    ∙ ap (λ x. x + count (end ∷ rest)) (digit_not_lf n)
    ∙ zero-add (count (end ∷ rest))
    ∙ count-cons end rest
    ∙ ap (λ x. x + count rest) e

count-line : (b : ℕ) (bs : List ℕ) → count (hex_line (b ∷ bs)) ≡ 1
count-line b [] = count-pair (b / 16) (b % 16) line_feed 1 [] refl
count-line b (c ∷ cs) = count-pair (b / 16) (b % 16) 32 0 (hex_line (c ∷ cs)) refl
    ∙ zero-add (count (hex_line (c ∷ cs))) ∙ count-line c cs

count-row : (n : ℕ) (bs : List ℕ) → 0 < length bs → count (hex_line (take (suc n) bs)) ≡ 1
count-row n [] some = absurd (omega arith)
count-row n (b ∷ bs) some = count-line b (take n bs)

one_more_is : (n : ℕ) → 1 + n ≡ suc n
one_more_is n = omega arith

some_left : (n k : ℕ) → suc n ≡ (k + 15) / 16 → 0 < k
some_left n k e = omega arith

count-rows : (n : ℕ) (bs : List ℕ) → n ≡ row_count bs → count (flat_map hex_line (rows n bs)) ≡ n
count-rows zero bs e = refl
count-rows (suc n) bs e =
    let some = some_left n (length bs) e in
    let others : n ≡ row_count (drop 16 bs) = let more = row_count-more bs some in cc in
    sum_by-append is_lf (hex_line (take 16 bs)) (flat_map hex_line (rows n (drop 16 bs)))
    ∙ ap (λ x. x + count (flat_map hex_line (rows n (drop 16 bs)))) (count-row 15 bs some)
    ∙ ap (λ x. 1 + x) (count-rows n (drop 16 bs) others)
    ∙ one_more_is n

-- there are as many lines as rows
pub hex_text-lines : (bs : List ℕ) → line_count (hex_text bs) ≡ row_count bs
unfolding hex_text
hex_text-lines bs = count-rows (row_count bs) bs refl
