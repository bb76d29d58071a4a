-- What a device does in an instant, and when it does nothing.
use Rattle.std.specs.Prelude.{◌≡◌, ◌<◌, ℕ, ◌==◌, not, ◌&&◌, Bool, false, List, [], flat_map, Option, Some, None}
use Rattle.std.specs.Prelude.{if◌then◌else◌}
use Rattle.std.specs.List.{AllByRecursion}
use Rattle.image_parts.specs.Asking.{Asking, Answer, bind}
use Rattle.can_frame.specs.Frames.{BaseFrame}
use Rattle.can_frame.specs.Senders.{device_sender}
use Rattle.co_device.specs.Device.{Device, moments, after_instant}
use Rattle.co_device.specs.Receiving.{after_frame}
use Rattle.image_parts.specs.Contents.{Content}
use Rattle.base.specs.Moments.{earliest, has_come}
use Rattle.image_parts.specs.declared.part.Part.{Part}
use Rattle.device_agenda.specs.Deaf.{IsDeafTo}
use Rattle.device_agenda.specs.Rest.{Rests}
use Rattle.device_agenda.specs.Delivered.{Delivered}
use Rattle.device_agenda.specs.Groups.{includes}
use Rattle.device_agenda.specs.declared.agenda.Agenda.{Agenda}
use Rattle.device_agenda.specs.declared.groups.Groups.{Groups}

-- each device but its sender hears what is delivered
unfoldable pub hears : ℕ → Delivered → Device → Asking Part Content Device
hears t delivered d = if device_sender d.number == delivered.sender then Answer d else after_frame t delivered.frame d

-- WHAT A DEVICE DOES IN AN INSTANT: it hears what is delivered, if anything is, and then runs what is due
unfoldable pub at_instant : ℕ → Option Delivered → Device → Asking Part Content Device
at_instant t None d = Answer (after_instant t d)
at_instant t (Some delivered) d = bind (hears t delivered d) (λ heard. Answer (after_instant t heard))

-- ---- agendas

-- the device sleeps: it rests, a call before found memory, and frames of no other groups are anything to it
pub record Sleeps (groups : Groups) (d : Device) : Type 0 where
  pub rests : Rests d
  pub unspent : d.spent ≡ false
  pub deaf : (frame : BaseFrame) → frame.id < 0x800 → includes groups frame.id ≡ false → IsDeafTo frame d

-- an agenda of devices: where they aren't awake, they sleep until it is due or a frame of its groups comes; where none
-- waits, no frame waits at them
pub record IsAgendaOf (a : Agenda) (ds : List Device) : Type 0 where
  pub due : a.awake ≡ false → a.due ≡ earliest (flat_map moments ds)
  pub asleep : a.awake ≡ false → AllByRecursion (Sleeps a.groups) ds
  pub silent : a.waits ≡ false → AllByRecursion (λ d. d.waiting ≡ []) ds

-- what is delivered is of one of the groups
abbrev pub stirs : Groups → Option Delivered → Bool
stirs groups None = false
stirs groups (Some delivered) = includes groups delivered.frame.id

-- it says that nothing happens in an instant
abbrev pub sleeps_through : ℕ → Option Delivered → Agenda → Bool
sleeps_through t delivered a = not a.awake && (not (has_come t a.due) && not (stirs a.groups delivered))
