-- Whether an image has all that was recorded.
use Rattle.std.proofs.Common.{below_more, ◌≡◌, ℕ, zero, suc, ◌+◌, ◌<◌, List, [], ◌∷◌, length, get_or, arith}
use Rattle.image_parts.specs.Asking.{Agrees}
use Rattle.image_parts.specs.Contents.{Image}
use Rattle.trace_spans.specs.Reads.{Recorded, plain}

abbrev pub HasRead : Image → Recorded → Type 0
HasRead image r = image r.name ≡ r.content

pub agrees_one : (image : Image) (rs : List Recorded) → Agrees image (plain rs) → (k : ℕ) (d : Recorded) → k < length rs
    → HasRead image (get_or rs k d)
agrees_one image [] a k d h = absurd (omega (arith, h))
agrees_one image (r ∷ rs) a zero d h = a.0
agrees_one image (r ∷ rs) a (suc k) d h = agrees_one image rs a.1 k d (omega (arith, h))

pub agrees_all : (image : Image) (rs : List Recorded)
    → ((k : ℕ) (d : Recorded) → k < length rs → HasRead image (get_or rs k d)) → Agrees image (plain rs)
agrees_all image [] h = tt
agrees_all image (r ∷ rs) h = (h 0 r (omega arith), agrees_all image rs (λ k d w. h (suc k) d (omega (arith, w))))

pub one_more : (image : Image) (rs : List Recorded) (n : ℕ)
    → ((k : ℕ) (d : Recorded) → k < n → HasRead image (get_or rs k d))
    → ((d : Recorded) → HasRead image (get_or rs n d))
    → (k : ℕ) (d : Recorded) → k < n + 1 → HasRead image (get_or rs k d)
one_more image rs n a b k d h = below_more _ _ (λ j q. a j d q) (b d) k h
