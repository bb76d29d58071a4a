-- What can follow a stage of a node's boot.
use Rattle.std.specs.Prelude.{◌≡◌, ℕ, ◌+◌, ◌⊎◌, Option, Some, None}
use Rattle.can_frame.specs.Identifiers.{sdo_answer_id}
use Rattle.image_parts.specs.Contents.{Image, write_of}
use Rattle.image_parts.specs.declared.part.Part.TheVariants.{Boot}
use Rattle.sdo_client.specs.Client.{after_answer}
use Rattle.sdo_client.specs.declared.progress.Progress.TheVariants as progress
use Rattle.sdo_client.specs.declared.client_transfer.ClientTransfer.{ClientTransfer as Transfer}
use Rattle.node_boot.specs.declared.boot_stage.BootStage.{BootStage}
use Rattle.node_boot.specs.declared.boot_stage.BootStage.TheVariants.{Unseen, Comparing, Writing, Configured, Failed, Own}
use Rattle.can_bus.specs.declared.slot.Slot.{Slot}
use Rattle.can_frame.specs.ErrorControl.{IsBootUp}

-- the frame that was delivered is the boot-up message of the node
abbrev pub IsBootUpOf : ℕ → Option Slot → Type 0
IsBootUpOf node None = ⊥
IsBootUpOf node (Some slot) = IsBootUp node slot.frame

-- the frame that was delivered is the node's SDO answer by which the download is confirmed
abbrev pub IsConfirmedBy : ℕ → Transfer → Option Slot → Type 0
IsConfirmedBy node transfer None = ⊥
IsConfirmedBy node transfer (Some slot) =
    (slot.frame.id ≡ sdo_answer_id node) × ((after_answer transfer slot.frame.bytes).progress ≡ Some progress.Written)

-- no write comes after this one
abbrev pub IsLastWrite : Image → ℕ → ℕ → Type 0
IsLastWrite image node place = write_of (image (Boot node (place + 1))) ≡ None

-- WHAT CAN FOLLOW WRITE j: the same write; once it is confirmed the next one, or the end where there is none; a
-- failure; and what a boot-up message of the node begins anew
abbrev pub FollowsWrite : Image → ℕ → Option Slot → ℕ → Transfer → BootStage → Type 0
FollowsWrite image node heard j transfer Unseen = ⊥
FollowsWrite image node heard j transfer (Comparing place expected reading deadline) = IsBootUpOf node heard
FollowsWrite image node heard j transfer (Writing place writing deadline) =
    (place ≡ j)
    ⊎ (((place ≡ j + 1) × IsConfirmedBy node transfer heard)
    ⊎ ((place ≡ 0) × IsBootUpOf node heard))
FollowsWrite image node heard j transfer Configured =
    (IsLastWrite image node j × IsConfirmedBy node transfer heard) ⊎ IsBootUpOf node heard
FollowsWrite image node heard j transfer Failed = Unit {0}
FollowsWrite image node heard j transfer Own = ⊥
