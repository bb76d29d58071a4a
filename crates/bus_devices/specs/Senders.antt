-- The devices that contend for a bus.
use Rattle.std.specs.Prelude.{ℕ, ◌==◌, ◌&&◌, not, Bool, false, List, map, remove, slice_set, Option, Some, None}
use Rattle.std.specs.List.{position}
use Rattle.bus_devices.specs.Places.{device_at}
use Rattle.can_frame.specs.Senders.{device_sender}
use Rattle.can_frame.specs.Winner.{contenders_of, is_below, winner_of}
use Rattle.can_frame.specs.declared.contender.Contender.{Contender}
use Rattle.can_frame.specs.declared.waiting.Waiting.{Waiting}
use Rattle.co_device.specs.Device.{Device}

-- the lists of the frames that wait at devices, with their senders
abbrev pub device_lists : List Device → List (ℕ × List Waiting)
device_lists ds = map (λ d. (device_sender d.number, d.waiting)) ds

abbrev pub is_contender : Contender → Option Contender → Bool
is_contender c None = false
is_contender c (Some b) = (b.id == c.id) && ((b.sender == c.sender) && (b.place == c.place))

-- it is this device that contends with the frame
abbrev pub contends_with : Contender → Device → Bool
contends_with c d = is_contender c (winner_of (contenders_of (device_sender d.number, d.waiting)))

-- a frame can be one of those of which this is the least: it isn't below it
abbrev pub may_wait_at : Contender → Option Contender → Bool
may_wait_at c None = false
may_wait_at c (Some best) = not (is_below c best)

-- the place of the first device that contends with the frame
unfoldable pub sender_place : Contender → List Device → Option ℕ
sender_place c ds = position (contends_with c) ds

-- the frame at a place of its list leaves the device at a place
abbrev pub with_sent : List Device → ℕ → ℕ → List Device
with_sent ds i place = slice_set ds i (record (device_at ds i) { waiting = remove (device_at ds i).waiting place })
