-- Moments, in microseconds from a start, which may be there or not.
use Rattle.std.specs.Prelude.{ℕ, ◌+◌, ◌==◌, nat_le, nat_lt, Bool, false, List, [], ◌∷◌, min, Option, Some, None}
use Rattle.std.specs.Prelude.{if◌then◌else◌}

-- a moment is there, and is t
abbrev pub is_due : ℕ → Option ℕ → Bool
is_due t None = false
is_due t (Some moment) = moment == t

-- a moment is there that has come at t
abbrev pub has_come : ℕ → Option ℕ → Bool
has_come t None = false
has_come t (Some moment) = nat_le moment t

-- a moment is there that lies ahead of t
abbrev pub is_ahead : ℕ → Option ℕ → Bool
is_ahead t None = false
is_ahead t (Some moment) = nat_lt t moment

-- the moment a time from t; none where the time is 0
abbrev pub moment_after : ℕ → ℕ → Option ℕ
moment_after t time = if time == 0 then None else Some (t + time)

-- the moment, if there is one
abbrev pub moments_of : Option ℕ → List ℕ
moments_of None = []
moments_of (Some moment) = moment ∷ []

-- the earlier of two
abbrev pub earlier : Option ℕ → Option ℕ → Option ℕ
earlier None b = b
earlier (Some a) None = Some a
earlier (Some a) (Some b) = Some (min a b)

-- the earliest of moments
abbrev pub earliest : List ℕ → Option ℕ
earliest [] = None
earliest (moment ∷ moments) = earlier (Some moment) (earliest moments)
