-- Known bytes that are written piece by piece.
use Rattle.std.proofs.Common.{◌≡◌, ◌≢◌, ℕ, zero, suc, ◌+◌, ◌<◌, arith, List, [], ◌∷◌, take, drop, length, ◌-◌}
use Rattle.std.proofs.Common.{length-drop, Option, sym, refl, ap, ◌∙◌}
use Rattle.std.proofs.KnownBytes.{Appends-trans}
use Rattle.std.proofs.Math.Seq.{take-add, take-length}
use Rattle.std.proofs.lemmas.List.{take-append-drop}
use Rattle.std.specs.Io.KnownBytes.{Appends}
use Rattle.streams.specs.Streams.{OneFailed, TakesFail}
use Rattle.streams.specs.Written.{Took}

-- `&text[at..]`, as the code has it
pub slice-from : (text : List ℕ) (at : ℕ) → take (length text - at) (drop at text) ≡ drop at text
slice-from text at = ap (λ n. take n (drop at text)) (sym (length-drop at text)) ∙ take-length (drop at text)

-- one more write
pub Appends-more : (u v w : Option (List ℕ)) (text : List ℕ) (at n : ℕ) → Appends u v (take at text)
    → Appends v w (take n (take (length text - at) (drop at text))) → Appends u w (take (at + n) text)
Appends-more u v w text at n p q =
    let r = rw (slice-from text at) at q in
    rw (take-add at n text) (Appends-trans u v w _ _ p r)

-- so far a front
pub Took-take : (u v : Option (List ℕ)) (text : List ℕ) (n : ℕ) → Appends u v (take n text) → Took u v text
Took-take u v text n h = (take n text, drop n text, sym (take-append-drop n text), h)

-- a write that took some has not failed
pub took_some : (old new n : ℕ) (buf : List ℕ) → n ≢ 0 → TakesFail old new n buf → new ≡ old
took_some old new zero buf some h = absurd (some refl)
took_some old new (suc n) buf some h = h

-- one that took none of some has
pub took_none : (old new n : ℕ) (buf : List ℕ) → n ≡ 0 → 0 < length buf → TakesFail old new n buf → OneFailed old new
took_none old new zero [] none some h = absurd (omega arith)
took_none old new zero (b ∷ bs) none some h = h
took_none old new (suc n) buf none some h = absurd (omega arith)
