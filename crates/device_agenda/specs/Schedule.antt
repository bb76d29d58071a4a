-- What is kept beside a device that runs only when it has to.
use Rattle.std.specs.Prelude.{◌≡◌, ℕ, false, [], ◌∷◌}
use Rattle.co_device.specs.Device.{Device}
use Rattle.device_agenda.specs.Agenda.{IsAgendaOf}
use Rattle.device_agenda.specs.LowBytes.{IsDeafBeyond}
use Rattle.device_agenda.specs.declared.agenda.Agenda.{Agenda}
use Rattle.device_agenda.specs.declared.low_bytes.LowBytes.{LowBytes}
use Rattle.device_objects.specs.Profile.{sync_identifier}

-- its agenda, and where it isn't awake the low bytes of what it takes, and the identifier of SYNC
pub record IsScheduled (a : Agenda) (bytes : LowBytes) (number : ℕ) (d : Device) : Type 0 where
  pub agenda : IsAgendaOf a (d ∷ [])
  pub low_bytes : a.awake ≡ false → IsDeafBeyond bytes d
  pub sync : a.awake ≡ false → number ≡ sync_identifier d.learnt d.values
