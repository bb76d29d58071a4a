-- What bringing parts up to date does, and how many of them are made. A part has a name, and is held with what it was
-- made from.
use Rattle.std.specs.Prelude.{◌≡◌, ℕ, ◌+◌, ◌≤◌, ◌⊎◌, Bool, List, [], ◌∷◌, Option, None, if◌then◌else◌}
use Rattle.std.specs.List.{list_any}
use Rattle.kept_values.specs.Work.{IsMoreBy, IsToMake, Work}

-- one more where it is to be made
abbrev pub IsOneMore : Type 0 → ℕ → ℕ → Type 0
IsOneMore ToMake m n = (ToMake × (n ≡ m + 1)) ⊎ ((ToMake → ⊥) × (n ≡ m))

-- what is held, but of parts that are gone
abbrev pub without : {N V : Type 0} → (N → Bool) → (N → Option V) → N → Option V
without gone held q = if gone q then None else held q

module _ {N V : Type 0} (same : N → N → Bool) (now : N → Option V) where
  -- these parts as they are now, and the others as they were
  abbrev pub settled : List N → (N → Option V) → N → Option V
  settled parts held q = if list_any (same q) parts then now q else held q

  -- n of the parts are to be made as they are reached, each after those before it are brought up to date
  abbrev pub Counts : List N → (N → Option V) → ℕ → Type 0
  Counts [] held n = n ≡ 0
  Counts (p ∷ ps) held n = (m : ℕ) × IsOneMore (IsToMake (held p) (now p)) m n × Counts ps (settled (p ∷ []) held) m

  -- the parts are brought up to date, and exactly those of them are counted, up to 2^64 - 1, that were to be made as
  -- they were reached; the count never becomes less
  pub record AreBrought (parts : List N) (old new : N → Option V) (before after : Work) : Type 0 where
    pub settled_is : new ≡ settled parts old
    pub segments_stay : after.segments ≡ before.segments
    pub parts_rise : before.parts ≤ after.parts
    pub counted : (n : ℕ) × Counts parts old n × IsMoreBy n before.parts after.parts
