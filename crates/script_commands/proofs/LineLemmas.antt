-- Lines of words, as they are printed.
use Rattle.std.proofs.Common.{◌≡◌, ℕ, suc, ◌+◌, ◌≤◌, Bool, true, false, not, ◌&&◌, List, [], ◌∷◌, ◌++◌, length, refl}
use Rattle.std.proofs.Common.{sym, ap, ◌∙◌, arith, append-nil, length-append}
use Rattle.std.specs.Prelude.{nat_lt, nat_le, Result, Ok, codes}
use Rattle.std.specs.List.{list_any, list_all}
use Rattle.std.specs.Str.{bytes_eq}
use Rattle.std.proofs.lemmas.Bool.{and_parts, not-true, le-ltb, leb-true, ltb-true}
use Rattle.std.proofs.lemmas.List.Folds.{list_any-append}
use Rattle.std.proofs.lemmas.Slice.Eq.{bytes_eq-Decides}
use Rattle.base.specs.Blanks.{is_blank, trim_end, trim}
use Rattle.base.specs.Words.{word, after}
use Rattle.project_edits.specs.declared.fault.EditFault.{EditFault}
use Rattle.script_commands.specs.declared.request.Request.{Request}
use Rattle.base.specs.Ranges.{is_between}
use Rattle.project_edits.specs.Forms.{is_control, is_plain, is_text}
use Rattle.script_commands.specs.Words.{is_bad_line, text}
use Rattle.script_commands.specs.Requests.{request, command_of, block_of}
use Rattle.script_commands.proofs.WordLemmas.{is_visible, IsWord, clean_word, trim-space, word-space, after-space, word_is}
use Rattle.script_commands.proofs.WordLemmas.{after_is}

-- ---- words and what ends them

-- the words of a line, one after another, and then what has a property
abbrev pub Has : (List ℕ → Type 0) → List ℕ → List (List ℕ) → Type 0
Has P line [] = P line
Has P line (w ∷ words) = (word line ≡ w) × Has P (after line) words

-- no more words
abbrev pub Ends : List ℕ → Type 0
Ends line = list_all is_blank line ≡ true

-- a text
abbrev pub Keeps : List ℕ → List ℕ → Type 0
Keeps kept line = text line ≡ Ok kept

-- a line that has some words behind a space: it has at most so many bytes, and no control byte
pub record Spells (P : List ℕ → Type 0) (most : ℕ) (line : List ℕ) (words : List (List ℕ)) : Type 0 where
  pub few : length line ≤ most
  pub clean : list_any is_control line ≡ false
  pub has : Has P (32 ∷ line) words

-- the last word
pub last : {m : ℕ} {w : List ℕ} → IsWord m w → Spells Ends m w (w ∷ [])
last {m = m} {w = w} is = record {
  few = is.few;
  clean = clean_word w is.visible;
  has = (
    ap (λ l. word (32 ∷ l)) (sym (append-nil w)) ∙ word_is m w [] is refl,
    ap (λ l. list_all is_blank (after (32 ∷ l))) (sym (append-nil w))
        ∙ ap (list_all is_blank) (after_is m w [] is refl),
  );
}

-- one more word in front
pub more : {P : List ℕ → Type 0} {m n : ℕ} {w line : List ℕ} {words : List (List ℕ)} → IsWord m w
    → Spells P n line words → Spells P (m + suc n) (w ++ 32 ∷ line) (w ∷ words)
more {m = m} {w = w} {line = line} is rest = record {
  few = omega (arith, length-append w (32 ∷ line), is.few, rest.few);
  clean = list_any-append is_control w (32 ∷ line) ∙ rw (clean_word w is.visible) rest.clean;
  has = (word_is m w (32 ∷ line) is refl, rw (after_is m w (32 ∷ line) is refl) rest.has);
}

-- a text at the end
pub kept : (t : List ℕ) → is_text t ≡ true → Spells (Keeps t) 4000 t []
kept t h =
    let all = and_parts (is_plain t) (bytes_eq (trim t) t) h in
    let plain = and_parts (is_between 1 4000 (length t)) (not (list_any is_control t)) all.0 in
    let sizes = and_parts (nat_le 1 (length t)) (nat_le (length t) 4000) plain.0 in
    let same : trim (32 ∷ t) ≡ t = ap (trim_end is_blank) (trim-space t) ∙ (bytes_eq-Decides (trim t) t).0 all.1
    in
    record {
      few = leb-true (length t) 4000 sizes.1;
      clean = not-true (list_any is_control t) plain.1;
      has = rw (same, all.0) refl;
    }

-- ---- the first word

-- a word of up to twelve bytes; of a word in letters it computes
abbrev pub is_short : List ℕ → Bool
is_short w = nat_lt 0 (length w) && nat_le (length w) 12 && list_all is_visible w

pub short : (w : List ℕ) → is_short w ≡ true → IsWord 12 w
short w h =
    let all = and_parts (nat_lt 0 (length w) && nat_le (length w) 12) (list_all is_visible w) h in
    let sizes = and_parts (nat_lt 0 (length w)) (nat_le (length w) 12) all.0 in
    record { some = ltb-true 0 (length w) sizes.0; few = leb-true (length w) 12 sizes.1; visible = all.1 }

-- a line without control bytes, and what it is read as
pub record IsRead (line : List ℕ) (asked : Result Request EditFault) : Type 0 where
  pub clean : list_any is_control line ≡ false
  pub is : request line ≡ asked

module _ {P : List ℕ → Type 0} {n : ℕ} {line : List ℕ} {words : List (List ℕ)} (first : List ℕ)
    (is : is_short first ≡ true) (few : n ≤ 4083) (rest : Spells P n line words) where
  all_words : Spells P (12 + suc n) (first ++ 32 ∷ line) (first ∷ words)
  all_words = more (short first is) rest

  first_is : word (first ++ 32 ∷ line) ≡ first
  first_is = sym (word-space (first ++ 32 ∷ line)) ∙ all_words.has.0

  rest_is : after (first ++ 32 ∷ line) ≡ 32 ∷ line
  rest_is = sym (after-space (first ++ 32 ∷ line)) ∙ after_is 12 first (32 ∷ line) (short first is) refl

  good_line : is_bad_line (first ++ 32 ∷ line) ≡ false
  good_line = rw (le-ltb 4096 (length (first ++ 32 ∷ line)) (omega (arith, all_words.few)), all_words.clean) refl

  -- the line of a command
  pub command : {asked : Result Request EditFault} → bytes_eq first (codes "eds") ≡ false
      → command_of first (32 ∷ line) ≡ asked
      → IsRead (first ++ 32 ∷ line) asked
  unfolding request
  command other h = record { clean = all_words.clean; is = rw (first_is, rest_is, other, good_line) h }

  -- the line before those of an EDS
  pub block : {asked : Request} → bytes_eq first (codes "eds") ≡ true → block_of false (32 ∷ line) ≡ Ok asked
      → IsRead (first ++ 32 ∷ line) (Ok asked)
  unfolding request
  block same h = record { clean = all_words.clean; is = rw (first_is, rest_is, same, good_line) h }
