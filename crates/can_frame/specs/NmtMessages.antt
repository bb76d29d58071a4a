-- The messages of the NMT services of CiA 301: a command and the node that it is to.
use Rattle.std.specs.Prelude.{ℕ, ◌∷◌, []}
use Rattle.can_frame.specs.Frames.{BaseFrame}
use Rattle.can_frame.specs.Identifiers.{nmt_id}

-- the message of an NMT service: its command, and the number of a node or 0 for all
abbrev pub nmt_message : ℕ → ℕ → BaseFrame
nmt_message command node = record { id = nmt_id; bytes = command ∷ node ∷ [] }
