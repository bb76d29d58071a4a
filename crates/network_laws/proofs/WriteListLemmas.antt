-- Frames that wait: the answers of the SDO server among them, and a boot-up message.
use Rattle.std.proofs.Common.{◌≡◌, ℕ, zero, suc, Bool, true, false, not, List, [], ◌∷◌, ◌++◌, refl, sym, ap, ◌∙◌, subst}
use Rattle.std.specs.Prelude.{if◌then◌else◌, ◌||◌, replicate}
use Rattle.can_frame.specs.Frames.{BaseFrame}
use Rattle.can_frame.specs.WaitingFrames.{is_same, is_unwanted, waiting, waits_for, with_latest, without_unwanted}
use Rattle.can_frame.specs.declared.purpose.Purpose.{Purpose}
use Rattle.can_frame.specs.declared.purpose.Purpose.TheVariants.{BootUp, Emergency, Sdo, Tpdo}
use Rattle.can_frame.specs.declared.unwanted.Unwanted.{Unwanted}
use Rattle.can_frame.specs.declared.unwanted.Unwanted.TheVariants.{Emergencies, Sdos, Tpdos}
use Rattle.can_frame.specs.declared.waiting.Waiting.{Waiting}
use Rattle.can_frame.proofs.PurposeLemmas.{same_purpose}
use Rattle.network_laws.specs.Leaves.{answers_of}

-- neither for an answer of the SDO server nor for a boot-up message
pub record IsOther (purpose : Purpose) : Type 0 where
  pub no_answer : is_unwanted Sdos purpose ≡ false
  pub no_boot_up : is_same purpose BootUp ≡ false

-- the same answers wait, and a boot-up message if one did
pub record WaitsAlike (ws vs : List Waiting) : Type 0 where
  pub answers : answers_of vs ≡ answers_of ws
  pub boot_up : waits_for BootUp vs ≡ waits_for BootUp ws

pub alike_itself : (ws : List Waiting) → WaitsAlike ws ws
alike_itself ws = record { answers = refl; boot_up = refl }

pub alike_then : (ws vs us : List Waiting) → WaitsAlike ws vs → WaitsAlike vs us → WaitsAlike ws us
alike_then ws vs us h g = record { answers = g.answers ∙ h.answers; boot_up = g.boot_up ∙ h.boot_up }

alike_back : (ws vs : List Waiting) → WaitsAlike ws vs → WaitsAlike vs ws
alike_back ws vs h = record { answers = sym h.answers; boot_up = sym h.boot_up }

-- behind one more frame
alike_behind : (w : Waiting) (ws vs : List Waiting) → WaitsAlike ws vs → WaitsAlike (w ∷ ws) (w ∷ vs)
unfolding answers_of
alike_behind w ws vs h = record {
  answers = ap (λ rest. if is_unwanted Sdos w.purpose then w ∷ rest else rest) h.answers;
  boot_up = ap (λ b. is_same w.purpose BootUp || b) h.boot_up;
}

-- without the first, where that is another one
without_first : (w : Waiting) (ws : List Waiting) → IsOther w.purpose → WaitsAlike (w ∷ ws) ws
unfolding answers_of
without_first w ws h = record {
  answers = ap (λ b. if b then w ∷ answers_of ws else answers_of ws) (sym h.no_answer);
  boot_up = ap (λ b. b || waits_for BootUp ws) (sym h.no_boot_up);
}

-- ---- frames that come behind all

behind_all : (ws vs : List Waiting) → WaitsAlike [] vs → WaitsAlike ws (ws ++ vs)
behind_all [] vs h = h
behind_all (w ∷ ws) vs h = alike_behind w ws (ws ++ vs) (behind_all ws vs h)

replicated : (count : ℕ) (w : Waiting) → IsOther w.purpose → WaitsAlike [] (replicate count w)
replicated zero w h = alike_itself []
replicated (suc count) w h =
    alike_then [] (replicate count w) (w ∷ replicate count w) (replicated count w h)
    (alike_back (w ∷ replicate count w) (replicate count w) (without_first w (replicate count w) h))

pub one_behind : (ws : List Waiting) (w : Waiting) → IsOther w.purpose → WaitsAlike ws (ws ++ w ∷ [])
one_behind ws w h = behind_all ws (w ∷ []) (alike_back (w ∷ []) [] (without_first w [] h))

pub some_behind : (ws : List Waiting) (count : ℕ) (w : Waiting) → IsOther w.purpose
    → WaitsAlike ws (ws ++ replicate count w)
some_behind ws count w h = behind_all ws (replicate count w) (replicated count w h)

-- ---- a frame that takes the place of another

pub latest_alike : (purpose : Purpose) (frame : BaseFrame) (ws : List Waiting) → IsOther purpose
    → WaitsAlike ws (with_latest purpose frame ws)
latest_alike purpose frame [] h =
    alike_back (waiting purpose frame ∷ []) [] (without_first (waiting purpose frame) [] h)
latest_alike purpose frame (w ∷ ws) h = by (is_same w.purpose purpose) refl (latest_alike purpose frame ws h)
  where
    by : (b : Bool) → is_same w.purpose purpose ≡ b → WaitsAlike ws (with_latest purpose frame ws)
        → WaitsAlike (w ∷ ws) (if b then waiting purpose frame ∷ ws else w ∷ with_latest purpose frame ws)
    by true e rest =
        alike_then (w ∷ ws) ws (waiting purpose frame ∷ ws)
        (without_first w ws (subst IsOther (sym (same_purpose w.purpose purpose e)) h))
        (alike_back (waiting purpose frame ∷ ws) ws (without_first (waiting purpose frame) ws h))
    by false e rest = alike_behind w ws (with_latest purpose frame ws) rest

-- ---- frames that are dropped

dropped_alike : (unwanted : Unwanted) (ws : List Waiting)
    → ((purpose : Purpose) → is_unwanted unwanted purpose ≡ true → IsOther purpose)
    → WaitsAlike ws (without_unwanted unwanted ws)
dropped_alike unwanted [] other = alike_itself []
dropped_alike unwanted (w ∷ ws) other = by (is_unwanted unwanted w.purpose) refl (dropped_alike unwanted ws other)
  where
    by : (b : Bool) → is_unwanted unwanted w.purpose ≡ b → WaitsAlike ws (without_unwanted unwanted ws)
        → WaitsAlike (w ∷ ws) (if not b then w ∷ without_unwanted unwanted ws else without_unwanted unwanted ws)
    by true e rest = alike_then (w ∷ ws) ws (without_unwanted unwanted ws) (without_first w ws (other w.purpose e)) rest
    by false e rest = alike_behind w ws (without_unwanted unwanted ws) rest

tpdo_is_other : (purpose : Purpose) → is_unwanted Tpdos purpose ≡ true → IsOther purpose
tpdo_is_other (Tpdo number) h = record { no_answer = refl; no_boot_up = refl }
tpdo_is_other _ h = absurd cc

emergency_is_other : (purpose : Purpose) → is_unwanted Emergencies purpose ≡ true → IsOther purpose
emergency_is_other Emergency h = record { no_answer = refl; no_boot_up = refl }
emergency_is_other _ h = absurd cc

pub without_tpdos : (ws : List Waiting) → WaitsAlike ws (without_unwanted Tpdos ws)
without_tpdos ws = dropped_alike Tpdos ws tpdo_is_other

pub without_emergencies : (ws : List Waiting) → WaitsAlike ws (without_unwanted Emergencies ws)
without_emergencies ws = dropped_alike Emergencies ws emergency_is_other

-- the answers of the SDO server

answer_is_no_boot_up : (purpose : Purpose) → is_unwanted Sdos purpose ≡ true → is_same purpose BootUp ≡ false
answer_is_no_boot_up (Sdo node) h = refl
answer_is_no_boot_up _ h = absurd cc

pub no_answer_is_left : (ws : List Waiting) → answers_of (without_unwanted Sdos ws) ≡ []
unfolding answers_of
no_answer_is_left [] = refl
no_answer_is_left (w ∷ ws) = by (is_unwanted Sdos w.purpose) refl (no_answer_is_left ws)
  where
    by : (b : Bool) → is_unwanted Sdos w.purpose ≡ b → answers_of (without_unwanted Sdos ws) ≡ []
        → answers_of (if not b then w ∷ without_unwanted Sdos ws else without_unwanted Sdos ws) ≡ []
    by true e rest = rest
    by false e rest =
        let left : List Waiting = answers_of (without_unwanted Sdos ws) in
        ap (λ b. if b then w ∷ left else left) e ∙ rest

pub boot_up_is_left : (ws : List Waiting) → waits_for BootUp (without_unwanted Sdos ws) ≡ waits_for BootUp ws
boot_up_is_left [] = refl
boot_up_is_left (w ∷ ws) = by (is_unwanted Sdos w.purpose) refl (boot_up_is_left ws)
  where
    by : (b : Bool) → is_unwanted Sdos w.purpose ≡ b
        → waits_for BootUp (without_unwanted Sdos ws) ≡ waits_for BootUp ws
        → waits_for BootUp (if not b then w ∷ without_unwanted Sdos ws else without_unwanted Sdos ws)
        ≡ waits_for BootUp (w ∷ ws)
    by true e rest = rest ∙ ap (λ b. b || waits_for BootUp ws) (sym (answer_is_no_boot_up w.purpose e))
    by false e rest = ap (λ b. is_same w.purpose BootUp || b) rest
