-- Flags of nodes, and a node with its data sheet.
use Rattle.std.proofs.Common.{◌≡◌, ℕ, zero, suc, false, refl}
use Rattle.std.proofs.Math.ListN.{replicate}
use Rattle.project_plan.specs.Named.{is_flagged}
use Rattle.eds_device.specs.Sheets.{Sheet}

-- no node is named
pub none_flagged : (count node : ℕ) → is_flagged (replicate count false) node ≡ false
none_flagged zero node = refl
none_flagged (suc count) zero = refl
none_flagged (suc count) (suc node) = none_flagged count node

-- a node with its data sheet
abbrev pub numbered : ℕ → Sheet → ℕ × Sheet
numbered id sheet = (id, sheet)
