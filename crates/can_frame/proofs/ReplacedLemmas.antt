-- A frame in the place of the first of its purpose.
use Rattle.std.proofs.Common.{◌≡◌, ℕ, suc, ◌+◌, ◌<◌, ◌≤◌, Bool, true, false, not, cond, List, [], ◌∷◌, ◌++◌, length}
use Rattle.std.proofs.Common.{set, Some, None, refl, sym, ap, arith}
use Rattle.std.specs.Prelude.{if◌then◌else◌, nat_lt, ◌||◌, position}
use Rattle.std.specs.List.{position_or_len}
use Rattle.std.proofs.lemmas.Bool.Decides.{nat_tests}
use Rattle.can_frame.specs.declared.purpose.Purpose.{Purpose}
use Rattle.can_frame.specs.declared.waiting.Waiting.{Waiting}
use Rattle.can_frame.specs.Frames.{BaseFrame}
use Rattle.can_frame.specs.WaitingFrames.{is_same, with_latest, waiting, waits_for}

abbrev place_in : Purpose → List Waiting → ℕ
place_in purpose frames = position_or_len (λ w. is_same w.purpose purpose) frames

set_step : (k : ℕ) (w v : Waiting) (ws rs : List Waiting) (b : Bool) → (k < length ws → set ws k v ≡ rs)
    → cond (not b) (1 + k) 0 < suc (length ws)
    → set (w ∷ ws) (cond (not b) (1 + k) 0) v ≡ (if b then v ∷ ws else w ∷ rs)
set_step k w v ws rs true h less = refl
set_step k w v ws rs false h less = let e : 1 + k ≡ suc k = omega arith
    in rw e (ap (λ (xs : List Waiting). w ∷ xs) (h (omega arith)))

set_there : (purpose : Purpose) (frame : BaseFrame) (ws : List Waiting) → place_in purpose ws < length ws
    → set ws (place_in purpose ws) (waiting purpose frame) ≡ with_latest purpose frame ws
set_there purpose frame [] h = absurd (omega arith)
set_there purpose frame (w ∷ ws) h =
    set_step (place_in purpose ws) w (waiting purpose frame) ws (with_latest purpose frame ws)
    (is_same w.purpose purpose) (set_there purpose frame ws) h

add_step : (k : ℕ) (w v : Waiting) (ws rs : List Waiting) (b : Bool) → (length ws ≤ k → rs ≡ ws ++ v ∷ [])
    → suc (length ws) ≤ cond (not b) (1 + k) 0
    → (if b then v ∷ ws else w ∷ rs) ≡ w ∷ (ws ++ v ∷ [])
add_step k w v ws rs true h less = absurd (omega arith)
add_step k w v ws rs false h less = ap (λ (xs : List Waiting). w ∷ xs) (h (omega arith))

add_last : (purpose : Purpose) (frame : BaseFrame) (ws : List Waiting) → length ws ≤ place_in purpose ws
    → with_latest purpose frame ws ≡ ws ++ waiting purpose frame ∷ []
add_last purpose frame [] h = refl
add_last purpose frame (w ∷ ws) h =
    add_step (place_in purpose ws) w (waiting purpose frame) ws (with_latest purpose frame ws)
    (is_same w.purpose purpose) (add_last purpose frame ws) h

none_step : (k n : ℕ) (b t : Bool) → (n ≤ k → t ≡ false) → suc n ≤ cond (not b) (1 + k) 0 → (b || t) ≡ false
none_step k n true t h less = absurd (omega arith)
none_step k n false t h less = h (omega arith)

none_waits : (purpose : Purpose) (ws : List Waiting) → length ws ≤ place_in purpose ws → waits_for purpose ws ≡ false
none_waits purpose [] h = refl
none_waits purpose (w ∷ ws) h = none_step (place_in purpose ws) (length ws) (is_same w.purpose purpose)
    (waits_for purpose ws) (none_waits purpose ws) h

-- ---- by what the search for the place gave

found : (k n len : ℕ) (b : Bool) → nat_lt n len ≡ b → Some k ≡ cond b (Some n) None → (k ≡ n) × (n < len)
found k n len true is e = (cc, grind (arith, nat_tests))
found k n len false is e = absurd cc

not_found : (n len : ℕ) (b : Bool) → nat_lt n len ≡ b → None ≡ cond b (Some n) None → len ≤ n
not_found n len true is e = absurd cc
not_found n len false is e = grind (arith, nat_tests)

-- the list that is walked is the one that is kept, and that is the one that contracts see
pub replaced_there : (purpose : Purpose) (frame : BaseFrame) (walked kept seen : List Waiting) (k : ℕ) → walked ≡ kept
    → kept ≡ seen
    → Some k ≡ position (λ (w : Waiting). is_same w.purpose purpose) walked
    → set kept k (waiting purpose frame) ≡ with_latest purpose frame seen
replaced_there purpose frame walked kept seen k f g e =
    let at = found k (place_in purpose walked) (length walked) (nat_lt (place_in purpose walked) (length walked)) refl e
    in
    rw (← g, ← f, at.0) (set_there purpose frame walked at.1)

where_none : (purpose : Purpose) (walked : List Waiting)
    → None ≡ position (λ (w : Waiting). is_same w.purpose purpose) walked → length walked ≤ place_in purpose walked
where_none purpose walked e = not_found (place_in purpose walked) (length walked)
    (nat_lt (place_in purpose walked) (length walked)) refl e

pub replaced_last : (purpose : Purpose) (frame : BaseFrame) (walked kept seen : List Waiting) → walked ≡ kept
    → kept ≡ seen
    → None ≡ position (λ (w : Waiting). is_same w.purpose purpose) walked
    → seen ++ waiting purpose frame ∷ [] ≡ with_latest purpose frame seen
replaced_last purpose frame walked kept seen f g e = rw (← g, ← f)
    (sym (add_last purpose frame walked (where_none purpose walked e)))

pub none_of_purpose : (purpose : Purpose) (walked kept seen : List Waiting) → walked ≡ kept → kept ≡ seen
    → None ≡ position (λ (w : Waiting). is_same w.purpose purpose) walked → waits_for purpose seen ≡ false
none_of_purpose purpose walked kept seen f g e = rw (← g, ← f) (none_waits purpose walked (where_none purpose walked e))

-- ---- in the words of lists

step : (b t : Bool) (v x : Waiting) (xs rs ys : List Waiting) → (t ≡ false → rs ≡ ys) → (b || t) ≡ false
    → (if b then v ∷ xs else x ∷ rs) ≡ x ∷ ys
step true t v x xs rs ys h none = absurd cc
step false t v x xs rs ys h none = ap (λ (zs : List Waiting). x ∷ zs) (h none)

pub replaced-append : (purpose : Purpose) (frame : BaseFrame) (front behind : List Waiting) (w : Waiting)
    → waits_for purpose front ≡ false → is_same w.purpose purpose ≡ true
    → with_latest purpose frame (front ++ w ∷ behind) ≡ front ++ waiting purpose frame ∷ behind
replaced-append purpose frame [] behind w none is = rw is refl
replaced-append purpose frame (x ∷ front) behind w none is =
    step (is_same x.purpose purpose) (waits_for purpose front) (waiting purpose frame) x (front ++ w ∷ behind)
    (with_latest purpose frame (front ++ w ∷ behind)) (front ++ waiting purpose frame ∷ behind)
    (λ none'. replaced-append purpose frame front behind w none' is) none

pub replaced-none : (purpose : Purpose) (frame : BaseFrame) (frames : List Waiting) → waits_for purpose frames ≡ false
    → with_latest purpose frame frames ≡ frames ++ waiting purpose frame ∷ []
replaced-none purpose frame [] none = refl
replaced-none purpose frame (x ∷ frames) none =
    step (is_same x.purpose purpose) (waits_for purpose frames)
    (waiting purpose frame) x frames (with_latest purpose frame frames) (frames ++ waiting purpose frame ∷ [])
    (λ none'. replaced-none purpose frame frames none') none

pub ruleset replaced_laws = (replaced-append, replaced-none)
