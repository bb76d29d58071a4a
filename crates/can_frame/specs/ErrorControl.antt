-- The error control messages of CiA 301: a byte at the identifier of its node.
use Rattle.std.specs.Prelude.{◌≡◌, ℕ, ◌∷◌, []}
use Rattle.can_frame.specs.Frames.{BaseFrame}
use Rattle.can_frame.specs.Identifiers.{error_control_id}

abbrev pub error_control_frame : ℕ → ℕ → BaseFrame
error_control_frame node byte = record { id = error_control_id node; bytes = byte ∷ [] }

-- the boot-up message of a node
abbrev pub boot_up_message : ℕ → BaseFrame
boot_up_message node = error_control_frame node 0

-- a frame is the boot-up message of a node
abbrev pub IsBootUp : ℕ → BaseFrame → Type 0
IsBootUp node frame = (frame.id ≡ error_control_id node) × (frame.bytes ≡ 0 ∷ [])
