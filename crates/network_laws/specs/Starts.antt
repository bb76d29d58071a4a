-- What the start of a slot changes, and which NMT commands an instant queues at the manager.
use Rattle.std.specs.Prelude.{◌≡◌, ℕ, ◌||◌, true, Contains, List, [], ◌∷◌, Some, None, map, remove, slice_get, slice_set}
use Rattle.can_frame.specs.declared.contender.Contender.{Contender}
use Rattle.can_frame.specs.declared.waiting.Waiting.{Waiting}
use Rattle.co_device.specs.Device.{Device, after_instant}
use Rattle.can_bus.specs.Bus.{Bus, after_delivery, ended_slot, manager_after_delivery, open_slot}
use Rattle.image_parts.specs.Asking.{outcome}
use Rattle.image_parts.specs.Contents.{Image}
use Rattle.manager_nodes.specs.Table.{has_booted, is_own}
use Rattle.manager_nodes.specs.declared.booting.Booting.{Booting}
use Rattle.network_laws.specs.Reads.{at_delivery}
use Rattle.nmt_boot.specs.Startup.{start_of}

-- the frame w leaves its place in the list of its node, and every other list is as it was
pub record LeavesItsList (c : Contender) (w : Waiting) (before after : List (ℕ × List Waiting)) : Type 0 where
  pub number : ℕ
  pub frames : List Waiting
  pub its_list : slice_get before number ≡ Some (c.sender, frames)
  pub its_place : slice_get frames c.place ≡ Some w
  pub left : after ≡ slice_set before number (c.sender, remove frames c.place)

-- the bus but for the frames that wait and the wire
abbrev pub but_for_frames : Bus → Bus
but_for_frames s = record s {
  devices = map {A = Device} (λ d. record d { waiting = [] }) s.devices;
  manager = record s.manager { waiting = [] };
  wire = None;
}

-- the frame whose slot ends is off the wire, each other node has heard it, and the timers of all have run
abbrev pub after_nodes_ran : Image → ℕ → Bus → Bus
after_nodes_ran image t s = record s {
  devices = map (after_instant t) (outcome (after_delivery t (ended_slot t s.wire) s.devices) image);
  manager = (outcome (manager_after_delivery t (ended_slot t s.wire) s.manager) image).0;
  wire = open_slot t s.wire;
}

-- the bus of the instant ahead of its arbitration: all that the instant queues waits
abbrev pub at_arbitration : Image → ℕ → Bus → Bus
at_arbitration image t s = after_nodes_ran image t (at_delivery image t s)

-- the frame starts a node that is configured, or the one that the manager runs in
pub record StartsConfigured (nodes : List Booting) (w : Waiting) : Type 0 where
  pub booting : Booting
  pub listed : Contains nodes booting
  pub configured : (has_booted booting.stage || is_own booting.stage) ≡ true
  pub is : start_of booting.number ≡ w ∷ []
