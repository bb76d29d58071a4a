-- The start of the network.
use Rattle.std.specs.Prelude.{◌≡◌, ◌≢◌, ◌≤◌, ◌++◌, ℕ, ◌+◌, ◌==◌, ◌&&◌, Bool, true, false, List, filter, length, slice_index_or}
use Rattle.std.specs.List.{AllByRecursion}
use Rattle.manager_nodes.specs.Table.{all_configured}
use Rattle.can_frame.specs.WaitingFrames.{is_same}
use Rattle.can_frame.specs.declared.purpose.Purpose.TheVariants.{Nmt}
use Rattle.can_frame.specs.declared.waiting.Waiting.{Waiting}
use Rattle.image_parts.specs.declared.start_mode.StartMode.{StartMode}
use Rattle.image_parts.specs.declared.start_mode.StartMode.TheVariants.{ConfiguredNodes, EachNode, WholeNetwork}
use Rattle.nmt_boot.specs.Manager.{Manager}
use Rattle.nmt_boot.specs.Startup.{network_start_frames}

-- Start remote node (01) to all nodes (00)
abbrev pub is_network_start : Waiting → Bool
is_network_start w = is_same w.purpose Nmt
    && ((slice_index_or w.frame.bytes 0 0 == 1) && (slice_index_or w.frame.bytes 1 1 == 0))

-- how many of these frames start the network
unfoldable pub network_starts : List Waiting → ℕ
network_starts frames = length (filter is_network_start frames)

-- no node of the table has the number 0, which stands for all nodes in a command
abbrev pub HasNodeNumbers : Manager → Type 0
HasNodeNumbers m = AllByRecursion (λ node. 1 ≤ node.number) m.nodes

-- nothing of the start of the network changes: it was started or not as before, and no further start of it waits
pub record KeepsStart (before after : Manager) : Type 0 where
  pub startup : after.startup ≡ before.startup
  pub waiting : network_starts after.waiting ≡ network_starts before.waiting

-- how many frames to all nodes start the network
abbrev pub starts_of_all : StartMode → ℕ
starts_of_all EachNode = 0
starts_of_all WholeNetwork = 1
starts_of_all ConfiguredNodes = 0

-- the network is started, which it wasn't before: each mandatory node is configured now; what starts it waits behind
-- other frames, and so one start to all nodes more, or none
pub record StartsNetwork (before after : Manager) : Type 0 where
  pub mode : before.startup.mode ≢ EachNode
  pub not_before : before.startup.is_started ≡ false
  pub configured : all_configured after.nodes before.startup.mandatory ≡ true
  pub started : after.startup ≡ record before.startup { is_started = true }
  pub sent : (ws : List Waiting) × (after.waiting ≡ ws ++ network_start_frames before.startup.mode after.nodes)
  pub waiting : network_starts after.waiting ≡ network_starts before.waiting + starts_of_all before.startup.mode
