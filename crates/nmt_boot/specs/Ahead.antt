-- Words of the laws of managers.
use Rattle.std.specs.Prelude.{◌≤◌, ℕ, All}
use Rattle.nmt_boot.specs.Manager.{Manager, moments}

-- no moment of the manager lies before t
abbrev pub IsAhead : ℕ → Manager → Type 0
IsAhead t m = All (λ moment. t ≤ moment) (moments m)
