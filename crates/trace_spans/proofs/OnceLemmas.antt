-- Each name once.
use Rattle.std.proofs.Common.{◌≡◌, ℕ, zero, suc, ◌<◌, List, [], ◌∷◌, ◌++◌, length, get_or, refl, sym, ap, ◌∙◌, arith, ◌↔◌}
use Rattle.std.proofs.lemmas.List.{append-nil}
use Rattle.std.proofs.lemmas.List.Quantifiers.{all_pairs_push}
use Rattle.image_parts.specs.Asking.{Agrees}
use Rattle.image_parts.specs.Contents.{Content}
use Rattle.image_parts.specs.Contents.{Image}
use Rattle.image_parts.specs.declared.part.Part.{Part}
use Rattle.trace_spans.specs.Records.{IsOnce, IsNew, IsNewAmong}
use Rattle.trace_spans.specs.Reads.{Recorded, plain, plain_read}

pub agrees_push : (image : Image) (xs : List (Part × Content)) (r : Part × Content) → Agrees image (xs ++ r ∷ []) ↔ (Agrees image xs × (image r.0 ≡ r.1))
agrees_push image [] r = (λ h. (tt, h.0), λ h. (h.1, tt))
agrees_push image (x ∷ xs) r =
    let rest = agrees_push image xs r in
    (λ h. ((h.0, (rest.0 h.1).0), (rest.0 h.1).1), λ h. (h.0.0, rest.1 (h.0.1, h.1)))

pub agrees_at : (image : Image) (xs : List (Part × Content)) (k : ℕ) (d : Part × Content) → k < length xs → Agrees image xs → image (get_or xs k d).0 ≡ (get_or xs k d).1
agrees_at image [] k d h a = absurd (omega (arith, h))
agrees_at image (x ∷ xs) zero d h a = a.0
agrees_at image (x ∷ xs) (suc k) d h a = agrees_at image xs k d (omega (arith, h)) a.1

pub once_push : (xs : List (Part × Content)) (r : Part × Content) → IsOnce xs → IsNew r.0 xs → IsOnce (xs ++ r ∷ [])
once_push xs r once new = all_pairs_push (λ a b. a.0 ≡ b.0 → ⊥) xs r once (λ k d h. new k d h)

-- what has the name already stands for it
pub known_agrees : (xs : List (Part × Content)) (r : Part × Content) (k : ℕ) → k < length xs → ((d : _) → (get_or xs k d).0 ≡ r.0) → (one : Image) → Agrees one xs → one r.0 ≡ r.1 → (image : Image) → Agrees image xs ↔ (Agrees image xs × (image r.0 ≡ r.1))
known_agrees xs r k h same one a e image =
    let name : (get_or xs k r).0 ≡ r.0 = same r in
    let value : (get_or xs k r).1 ≡ r.1 = sym (agrees_at one xs k r h a) ∙ ap one name ∙ e in
    (λ b. (b, ap image (sym name) ∙ agrees_at image xs k r h b ∙ value), λ b. b.0)

middle : (image : Image) (xs : List (Part × Content)) (r : Part × Content) (ys : List (Part × Content)) → Agrees image (xs ++ (r ∷ ys)) → Agrees image xs × (image r.0 ≡ r.1)
middle image [] r ys a = (tt, a.0)
middle image (x ∷ xs) r ys a = let rest = middle image xs r ys a.1 in ((a.0, rest.0), rest.1)

pub agrees_middle : (image : Image) (xs : List (Part × Content)) (r : Part × Content) (ys all : List (Part × Content)) → xs ++ (r ∷ ys) ≡ all → Agrees image all → Agrees image xs × (image r.0 ≡ r.1)
agrees_middle image xs r ys all e a = middle image xs r ys (rw (← e) at a)

pub agrees_on : (image : Image) (kept xs : List (Part × Content)) (r : Part × Content) → Agrees image kept ↔ Agrees image xs → (kept' : List (Part × Content)) → Agrees image kept' ↔ (Agrees image kept × (image r.0 ≡ r.1)) → Agrees image kept' ↔ Agrees image (xs ++ r ∷ [])
agrees_on image kept xs r same kept' added =
    let push = agrees_push image xs r in
    (λ h. push.1 (same.0 (added.0 h).0, (added.0 h).1), λ h. added.1 (same.1 (push.0 h).0, (push.0 h).1))

pub all_came : (xs ys all : List (Part × Content)) → length ys ≡ 0 → xs ++ ys ≡ all → xs ≡ all
all_came xs [] all h e = sym (append-nil xs) ∙ e
all_came xs (y ∷ ys) all h e = absurd (omega (arith, h))

-- names are those without numbers
pub plain_push : (rs : List Recorded) (r : Recorded) → plain (rs ++ r ∷ []) ≡ plain rs ++ plain_read r ∷ []
plain_push [] r = refl
plain_push (x ∷ rs) r = ap (λ ps. plain_read x ∷ ps) (plain_push rs r)

pub plain_at : (rs : List Recorded) (k : ℕ) (d : Recorded) (e : Part × Content) → k < length rs
    → get_or (plain rs) k e ≡ plain_read (get_or rs k d)
plain_at [] k d e h = absurd (omega (arith, h))
plain_at (r ∷ rs) zero d e h = refl
plain_at (r ∷ rs) (suc k) d e h = plain_at rs k d e (omega (arith, h))

pub plain_length : (rs : List Recorded) → length (plain rs) ≡ length rs
plain_length [] = refl
plain_length (r ∷ rs) = omega (arith, plain_length rs)

pub new_plain : (name : Part) (rs : List Recorded) → IsNewAmong name rs → IsNew name (plain rs)
new_plain name [] h k d within = absurd (omega (arith, within))
new_plain name (r ∷ rs) h zero d within = h 0 r (omega arith)
new_plain name (r ∷ rs) h (suc k) d within = new_plain name rs (λ j e w. h (suc j) e (omega (arith, w))) k d
    (omega (arith, within))

pub none_once : IsOnce (plain [])
none_once i j d before within = absurd (omega (arith, within))
