-- What a meter counts.
use Rattle.std.specs.Prelude.{◌≡◌, ℕ, ◌+◌, ◌-◌, ◌^◌, ◌≤◌, ◌⊎◌, min, true, false, Option, is_some}

-- the segments that were run, and the parts that were made
pub record Work : Type 0 where
  pub segments : ℕ
  pub parts : ℕ

-- nothing was counted yet
abbrev pub idle : Work
idle = record { segments = 0; parts = 0 }

-- what is counted never becomes less
abbrev pub Rises : Work → Work → Type 0
Rises old new = (old.segments ≤ new.segments) × (old.parts ≤ new.parts)

-- n more, of a count that stops at 2^64 - 1
abbrev pub IsMoreBy : ℕ → ℕ → ℕ → Type 0
IsMoreBy n before after = (min (before + n) (2 ^ 64 - 1) ≤ after) × (after ≤ before + n)

-- a part is to be made: it is to be there, and isn't held as it is to be made now
abbrev pub IsToMake : {V : Type 0} → Option V → Option V → Type 0
IsToMake held now = (held ≡ now → ⊥) × (is_some now ≡ true)

-- a part needs no making: it is held as it is to be made now, or isn't to be there
abbrev pub NeedsNone : {V : Type 0} → Option V → Option V → Type 0
NeedsNone held now = (held ≡ now) ⊎ (is_some now ≡ false)

-- of a part that is to be made exactly one is counted, up to 2^64 - 1, and of one that needs no making nothing; the
-- count never becomes less
abbrev pub Refreshes : {V : Type 0} → Option V → Option V → Work → Work → Type 0
Refreshes held now old new = (old.parts ≤ new.parts)
    × ((IsToMake held now × (new ≡ record old { parts = min (old.parts + 1) (2 ^ 64 - 1) }))
    ⊎ (NeedsNone held now × (new ≡ old)))
