-- The words of a line, read one after another.
use Rattle.std.proofs.Common.{◌≡◌, ℕ, ◌+◌, ◌<◌, ◌≤◌, Bool, true, false, List, [], ◌∷◌, ◌++◌, length, take, drop, refl}
use Rattle.std.proofs.Common.{ap, ◌∙◌, arith}
use Rattle.std.specs.Prelude.{nat_lt}
use Rattle.std.specs.List.{prefix_len, take_while, list_any, list_all}
use Rattle.std.proofs.Math.Numerals.{one-add}
use Rattle.std.proofs.lemmas.Bool.{and_parts}
use Rattle.std.proofs.lemmas.Bool.Decides.{nat_tests}
use Rattle.std.proofs.lemmas.List.{take_at, drop_at}
use Rattle.base.specs.Blanks.{is_blank, trim_start}
use Rattle.base.specs.Words.{is_word_byte, word, after}
use Rattle.project_edits.specs.Forms.{is_control}

-- a byte above the space: neither a blank nor a control byte
abbrev pub is_visible : ℕ → Bool
is_visible b = nat_lt 32 b

-- a word: one such byte or more, and at most so many
pub record IsWord (most : ℕ) (w : List ℕ) : Type 0 where
  pub some : 0 < length w
  pub few : length w ≤ most
  pub visible : list_all is_visible w ≡ true

-- ---- one byte

no_blank : (b : ℕ) → is_visible b ≡ true → is_blank b ≡ false
no_blank b h = grind (arith, nat_tests)

word_byte : (b : ℕ) → is_visible b ≡ true → is_word_byte b ≡ true
word_byte b h = rw (no_blank b h) refl

no_control : (b : ℕ) → is_visible b ≡ true → is_control b ≡ false
no_control b h = grind (arith, nat_tests)

-- ---- one word

-- no byte of a word is a control byte
pub clean_word : (w : List ℕ) → list_all is_visible w ≡ true → list_any is_control w ≡ false
clean_word [] h = refl
clean_word (b ∷ w) h =
    let both = and_parts (is_visible b) (list_all is_visible w) h in
    rw (no_control b both.0) (clean_word w both.1)

-- the bytes up to a blank or the end
word_prefix : (w tail : List ℕ) → list_all is_visible w ≡ true → prefix_len is_word_byte tail ≡ 0
    → prefix_len is_word_byte (w ++ tail) ≡ length w
word_prefix [] tail h ends = ends
word_prefix (b ∷ w) tail h ends =
    let both = and_parts (is_visible b) (list_all is_visible w) h in
    rw (no_blank b both.0) (ap (λ n. 1 + n) (word_prefix w tail both.1 ends) ∙ one-add (length w))

-- a space in front is left out
pub trim-space : (line : List ℕ) → trim_start is_blank (32 ∷ line) ≡ trim_start is_blank line
trim-space line = ap (λ n. drop n (32 ∷ line)) (one-add (prefix_len is_blank line))

-- a word in front stays
trim-word : (w tail : List ℕ) → 0 < length w → list_all is_visible w ≡ true
    → trim_start is_blank (w ++ tail) ≡ w ++ tail
trim-word [] tail some h = absurd (omega arith)
trim-word (b ∷ w) tail some h = rw (no_blank b (and_parts (is_visible b) (list_all is_visible w) h).0) refl

module _ (most : ℕ) (w tail : List ℕ) (is : IsWord most w) (ends : prefix_len is_word_byte tail ≡ 0) where
  trimmed_is : trim_start is_blank (32 ∷ (w ++ tail)) ≡ w ++ tail
  trimmed_is = trim-space (w ++ tail) ∙ trim-word w tail is.some is.visible

  cut_at : prefix_len is_word_byte (w ++ tail) ≡ length w
  cut_at = word_prefix w tail is.visible ends

  -- the first word behind a space
  pub word_is : word (32 ∷ (w ++ tail)) ≡ w
  unfolding word
  word_is = ap (take_while is_word_byte) trimmed_is ∙ ap (λ n. take n (w ++ tail)) cut_at
      ∙ take_at w tail (length w) refl

  -- what follows it
  pub after_is : after (32 ∷ (w ++ tail)) ≡ tail
  unfolding after
  after_is = ap (λ (rest : List ℕ). drop (prefix_len is_word_byte rest) rest) trimmed_is
      ∙ ap (λ n. drop n (w ++ tail)) cut_at ∙ drop_at w tail (length w) refl

-- a space in front of a line changes no word
pub word-space : (line : List ℕ) → word (32 ∷ line) ≡ word line
unfolding word
word-space line = ap (take_while is_word_byte) (trim-space line)

pub after-space : (line : List ℕ) → after (32 ∷ line) ≡ after line
unfolding after
after-space line = ap (λ (rest : List ℕ). drop (prefix_len is_word_byte rest) rest) (trim-space line)
