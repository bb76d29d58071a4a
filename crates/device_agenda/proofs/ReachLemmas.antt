-- The identifiers that both sets have.
use Rattle.std.proofs.Common.{◌≡◌, ◌⊎◌, Bool, true, false, ◌&&◌, inl, inr, refl}

-- one of the two hasn't it
pub either_out : (a b : Bool) → a && b ≡ false → (a ≡ false) ⊎ (b ≡ false)
either_out true b h = inr h
either_out false b h = inl refl

pub first_out : (a b : Bool) → a ≡ false → a && b ≡ false
first_out true b h = absurd cc
first_out false b h = refl

pub second_out : (a b : Bool) → b ≡ false → a && b ≡ false
second_out true b h = h
second_out false b h = refl

pub both_kept : (a b x y : Bool) → (a ≡ false → x ≡ false) → (b ≡ false → y ≡ false) → a && b ≡ false → x && y ≡ false
both_kept true b x y f g h = second_out x y (g h)
both_kept false b x y f g h = first_out x y (f refl)

-- what follows where it isn't in the one, and where it isn't in the other, follows
pub one_left_out : (a b t : Bool) → (a ≡ false → t ≡ false) → (b ≡ false → t ≡ false) → a && b ≡ false → t ≡ false
one_left_out true b t f g h = g h
one_left_out false b t f g h = f refl
