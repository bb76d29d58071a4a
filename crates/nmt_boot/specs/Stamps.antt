-- The time stamps that wait.
use Rattle.std.specs.Prelude.{◌≡◌, ◌<◌, ℕ, All}
use Rattle.can_frame.specs.Frames.{BaseFrame}
use Rattle.can_frame.specs.declared.purpose.Purpose.TheVariants.{Time}
use Rattle.image_parts.specs.declared.roster.Roster.{Roster}
use Rattle.nmt_boot.specs.Beats.{IsMultiple}
use Rattle.nmt_boot.specs.Manager.{Manager}
use Rattle.nmt_boot.specs.TimeOfDay.{time_frame}

-- a frame tells the time of a moment before t at which TIME was due
pub record IsStampBefore (network : Roster) (t : ℕ) (frame : BaseFrame) : Type 0 where
  pub moment : ℕ
  pub earlier : moment < t
  pub due : IsMultiple moment network.time_us
  pub tells : frame ≡ time_frame network.first_day moment

-- EACH TIME THAT WAITS at the manager tells when it was due
abbrev pub TellsWhenDue : Roster → ℕ → Manager → Type 0
TellsWhenDue network t m = All (λ w. w.purpose ≡ Time → IsStampBefore network t w.frame) m.waiting
