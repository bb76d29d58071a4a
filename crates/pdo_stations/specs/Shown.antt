-- The devices of nodes as contracts see them.
use Rattle.std.specs.Prelude.{ℕ, List, map}
use Rattle.std.specs.Borrow.{Bor}
use Rattle.eds_device.specs.Sheets.{Sheet}

-- nodes with their data sheets
abbrev pub nodes_of : List (ℕ × Bor Sheet) → List (ℕ × Sheet)
nodes_of nodes = map (λ n. (n.0, n.1.now)) nodes
