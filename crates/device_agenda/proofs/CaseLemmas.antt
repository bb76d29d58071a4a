-- Cases of devices, and of what is asked.
use Rattle.std.proofs.Common.{◌≡◌, Bool, true, false, List, [], ◌∷◌, refl}
use Rattle.std.specs.Prelude.{if◌then◌else◌}
use Rattle.image_parts.specs.Asking.{Asking, outcome}
use Rattle.image_parts.proofs.QuestionLemmas.{outcome_bind}
use Rattle.image_parts.specs.Contents.{Content, Image}
use Rattle.image_parts.specs.declared.part.Part.{Part}
use Rattle.co_device.specs.Device.{Device}
use Rattle.co_device.specs.Receiving.{walk}

-- one of two devices, with what the test gave
pub either : (P : Device → Type 0) (b : Bool) (d e : Device) → (b ≡ true → P d) → (b ≡ false → P e)
    → P (if b then d else e)
either P true d e p q = p refl
either P false d e p q = q refl

-- one of two devices
pub one_of : (P : Device → Type 0) (b : Bool) (d e : Device) → P d → P e → P (if b then d else e)
one_of P true d e p q = p
one_of P false d e p q = q

-- one of two trees, with what the test gave
pub picked : (image : Image) (P : Device → Type 0) (b : Bool) (m n : Asking Part Content Device)
    → (b ≡ true → P (outcome m image)) → (b ≡ false → P (outcome n image)) → P (outcome (if b then m else n) image)
picked image P true m n p q = p refl
picked image P false m n p q = q refl

pub not_both : {A : Type 0} (b : Bool) → b ≡ false → b ≡ true → A
not_both b e h = absurd cc

-- what each step of a walk keeps, the walk keeps
pub walk_keeps : {X : Type 0} (image : Image) (P : Device → Type 0) (step : X → Device → Asking Part Content Device)
    → ((x : X) (d : Device) → P d → P (outcome (step x d) image)) → (xs : List X) (d : Device) → P d
    → P (outcome (walk step xs d) image)
walk_keeps image P step keeps [] d h = h
walk_keeps image P step keeps (x ∷ xs) d h = rw (outcome_bind (step x d) (walk step xs) image)
    (walk_keeps image P step keeps xs (outcome (step x d) image) (keeps x d h))
