-- The line of time stamps, written part for part.
use Rattle.std.proofs.Common.{◌≡◌, ℕ, List, [], ◌∷◌, ◌++◌, Some, codes, decimal, append_assoc, refl}
use Rattle.project_edits.specs.declared.edit.Edit.TheVariants as edit
use Rattle.project_edits.specs.declared.time_stamps.TimeStamps.{TimeStamps}
use Rattle.project_edits.specs.Lines.{line_of, text_of, words_of}

-- a byte before two texts
byte_before : (byte : ℕ) (a b : List ℕ) → (byte ∷ a) ++ b ≡ byte ∷ (a ++ b)
byte_before byte a b = refl

-- three words of a line and its end, one after the other
words_in_turn : (out a b c : List ℕ) → out ++ a ++ 32 ∷ b ++ 32 ∷ c ++ 10 ∷ []
    ≡ out ++ (a ++ 32 ∷ (b ++ 32 ∷ c) ++ 10 ∷ [])
words_in_turn out a b c = simp (append_assoc, byte_before) refl

-- the first word, the numbers, and the end of the line
pub stamps_written : (stamps : TimeStamps) (out begun numbered line : List ℕ) → begun ≡ out ++ codes "time-period"
    → numbered ≡ begun ++ 32 ∷ decimal stamps.period_us ++ 32 ∷ decimal stamps.first_day
    → line ≡ numbered ++ 10 ∷ [] → line ≡ out ++ text_of (edit.TimeStamps (Some stamps))
unfolding line_of text_of words_of
stamps_written stamps out begun numbered line first numbers ended =
    rw (ended, numbers, first)
    (words_in_turn out (codes "time-period") (decimal stamps.period_us) (decimal stamps.first_day))
