-- The SDO requests of the manager to a node, and what a rule of the manager makes of them and of the node's boot.
use Rattle.std.specs.Prelude.{◌≡◌, ◌≢◌, ℕ, ◌<◌, ◌==◌, List, [], ◌∷◌, ◌++◌, All, filter, length, map}
use Rattle.std.specs.List.{AllByRecursion}
use Rattle.can_frame.specs.ErrorControl.{IsBootUp}
use Rattle.can_frame.specs.Frames.{BaseFrame}
use Rattle.can_frame.specs.Identifiers.{error_control_id, nmt_id, sdo_request_id, sync_id, time_id}
use Rattle.can_frame.specs.WaitingFrames.{is_unwanted}
use Rattle.can_frame.specs.declared.purpose.Purpose.{Purpose}
use Rattle.can_frame.specs.declared.purpose.Purpose.TheVariants.{BootUp, Emergency, Heartbeat, Nmt, Sdo, Sync, Time, Tpdo}
use Rattle.can_frame.specs.declared.unwanted.Unwanted.TheVariants.{SdoOf}
use Rattle.can_frame.specs.declared.waiting.Waiting.{Waiting}
use Rattle.nmt_boot.specs.Manager.{Manager}
use Rattle.manager_nodes.specs.Table.{is_own, node_at, sdo_frames}
use Rattle.manager_nodes.specs.declared.booting.Booting.{Booting}
use Rattle.node_boot.specs.declared.boot_step.BootStep.{BootStep}
use Rattle.cia301.specs.Limits.{IsNodeNumber}

-- those that wait at the manager, aborts too
unfoldable pub requests_to : ℕ → List Waiting → List Waiting
requests_to node frames = filter (λ w. is_unwanted (SdoOf node) w.purpose) frames

-- ---- the table of nodes

-- a node stands at the place, and no other has its number
pub record IsAlone (nodes : List Booting) (i : ℕ) : Type 0 where
  pub within : i < length nodes
  pub alone : (k : ℕ) → k < length nodes → (node_at nodes k).number ≡ (node_at nodes i).number → k ≡ i

abbrev pub numbers_of : List Booting → List ℕ
numbers_of nodes = map (λ node. node.number) nodes

-- ---- the frames of the manager by what they are for

-- no node of these numbers is the manager's own
abbrev pub AreOthers : ℕ → List ℕ → Type 0
AreOthers number nodes = AllByRecursion (λ node. node ≢ number) nodes

-- a frame of the manager of this number, with nodes of these, for a purpose: its boot-up message, where no node is its
-- own, which would send it; a heartbeat, no boot-up message; and an SDO request to another node, with that identifier
abbrev pub IsManagersFrame : ℕ → List ℕ → Purpose → BaseFrame → Type 0
IsManagersFrame number nodes BootUp frame = IsBootUp number frame × AreOthers number nodes
IsManagersFrame number nodes Heartbeat frame = (frame.id ≡ error_control_id number) × (frame.bytes ≢ 0 ∷ [])
IsManagersFrame number nodes (Tpdo k) frame = ⊥
IsManagersFrame number nodes (Sdo node) frame =
    IsNodeNumber node × ((node ≢ number) × (frame.id ≡ sdo_request_id node))
IsManagersFrame number nodes Emergency frame = ⊥
IsManagersFrame number nodes Sync frame = frame.id ≡ sync_id
IsManagersFrame number nodes Time frame = frame.id ≡ time_id
IsManagersFrame number nodes Nmt frame = frame.id ≡ nmt_id

-- EACH FRAME THAT WAITS AT THE MANAGER IS ITS OWN; its nodes have numbers of nodes, and the one of its number, and no
-- other, is its own node
pub record HasManagerFrames (m : Manager) : Type 0 where
  pub frames : All (λ w. IsManagersFrame m.number (numbers_of m.nodes) w.purpose w.frame) m.waiting
  pub nodes : All (λ node. IsNodeNumber node.number) m.nodes
  pub own : All (λ node. is_own node.stage ≡ (node.number == m.number)) m.nodes

-- the manager has the number that it had, and its nodes have theirs
pub record StaysManager (m after : Manager) : Type 0 where
  pub number : after.number ≡ m.number
  pub numbers : numbers_of after.nodes ≡ numbers_of m.nodes

-- ---- what becomes of the node at a place

-- its boot stays as it is, and the requests that wait
pub record LeavesBoot (i : ℕ) (m after : Manager) : Type 0 where
  pub node : node_at after.nodes i ≡ node_at m.nodes i
  pub requests : requests_to (node_at m.nodes i).number after.waiting ≡ requests_to (node_at m.nodes i).number m.waiting

-- its boot takes a step, whose request waits behind those that are left
pub record TakesStep (i : ℕ) (step : BootStep) (left : List Waiting) (m after : Manager) : Type 0 where
  pub stage : node_at after.nodes i ≡ record (node_at m.nodes i) { stage = step.stage }
  pub requests : requests_to (node_at m.nodes i).number after.waiting
      ≡ left ++ sdo_frames (node_at m.nodes i).number step.request
