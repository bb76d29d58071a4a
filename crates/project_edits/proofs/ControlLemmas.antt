-- Control bytes looked for many at a time.
use Rattle.std.proofs.Common.{◌≡◌, ℕ, ◌+◌, ◌-◌, ◌≤◌, Bool, true, false, ◌||◌, cond, List, [], ◌∷◌, ◌++◌, length, take, drop}
use Rattle.std.proofs.Common.{refl, sym, ap, ◌∙◌, arith, take-take}
use Rattle.std.specs.List.{count_by, list_any}
use Rattle.std.specs.Simd.Lanes.{chunk}
use Rattle.std.proofs.lemmas.List.{take-append-drop, take_all}
use Rattle.std.proofs.lemmas.List.Folds.{list_any-append}
use Rattle.std.proofs.lemmas.List.Sums.{sum_by-append}
use Rattle.std.proofs.Math.Seq.{take-add}
use Rattle.project_edits.specs.Forms.{is_control, is_low}

-- what is no byte below a space is no control byte
none_low : (bytes : List ℕ) → count_by is_low bytes ≡ 0 → list_any is_control bytes ≡ false
none_low [] none = refl
none_low (b ∷ bytes) none =
    let parts = sum_by-append (λ x. cond (is_low x) 1 0) (b ∷ []) bytes in
    by (is_low b) refl (omega (arith, parts, none)) (none_low bytes)
  where
    by : (low : Bool) → is_low b ≡ low → cond low 1 0 + count_by is_low bytes ≡ 0
        → (count_by is_low bytes ≡ 0 → list_any is_control bytes ≡ false) → list_any is_control (b ∷ bytes) ≡ false
    by true is none others = absurd (omega arith)
    by false is none others = rw is (others (omega (arith, none)))

-- neither part has what the whole doesn't have
neither : (a b : Bool) → (a || b) ≡ false → (a ≡ false) × (b ≡ false)
neither true b lacks = cc
neither false b lacks = (refl, lacks)

-- the beginning of bytes without control bytes has none
none_before : (bytes : List ℕ) (n : ℕ) → list_any is_control bytes ≡ false → list_any is_control (take n bytes) ≡ false
none_before bytes n none =
    (neither (list_any is_control (take n bytes)) (list_any is_control (drop n bytes))
    (sym (list_any-append is_control (take n bytes) (drop n bytes)) ∙ ap (list_any is_control) (take-append-drop n bytes)
    ∙ none)).0

-- two parts without control bytes have none together
none_together : (a b : List ℕ) → list_any is_control a ≡ false → list_any is_control b ≡ false
    → list_any is_control (a ++ b) ≡ false
none_together a b before behind = list_any-append is_control a b ∙ rw before behind

-- n bytes more have none
pub none_more : (bytes : List ℕ) (at n count : ℕ) → count ≡ count_by is_low (chunk at n bytes) → count ≤ 0
    → list_any is_control (take at bytes) ≡ false → list_any is_control (take (at + n) bytes) ≡ false
none_more bytes at n count is lacks before =
    ap (list_any is_control) (take-add at n bytes)
    ∙ none_together (take at bytes) (chunk at n bytes) before (none_low (chunk at n bytes) (omega (arith, is)))

-- where the first and the last of the bytes have none, and nothing lies between, none has one
pub none_at_all : (bytes : List ℕ) (at n count : ℕ) → n ≤ length bytes → length bytes ≤ at + n
    → count ≡ count_by is_low (chunk (length bytes - n) n bytes) → count ≤ 0
    → list_any is_control (take at bytes) ≡ false → list_any is_control bytes ≡ false
none_at_all bytes at n count long short is lacks before =
    let k = length bytes - n in
    let first : list_any is_control (take k bytes) ≡ false =
    ap (list_any is_control) (sym (take-take k at bytes (omega arith))) ∙ none_before (take at bytes) k before in
    let all = none_more bytes k n count is lacks first in
    sym (ap (list_any is_control) (take_all (k + n) bytes (omega arith))) ∙ all
