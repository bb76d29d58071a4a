-- A quiet TPDO.
use Rattle.std.proofs.Common.{◌≡◌, ℕ, ◌&&◌, not, Bool, true, false, List, Option, Some, None, refl}
use Rattle.std.specs.Prelude.{if◌then◌else◌}
use Rattle.base.specs.Moments.{has_come, is_ahead}
use Rattle.cia301.specs.declared.transmission_type.TransmissionType.{TransmissionType}
use Rattle.cia301.specs.declared.transmission_type.TransmissionType.TheVariants.{Acyclic, Cyclic, EventDriven}
use Rattle.cia301.specs.declared.transmission_type.TransmissionType.TheVariants.{Reserved, OnRequest}
use Rattle.pdo_rules.specs.declared.communication.Communication.{Communication}
use Rattle.pdo_rules.specs.declared.sync_seen.SyncSeen.{SyncSeen}
use Rattle.pdo_rules.specs.Tpdo.{Remembered, Turn, acyclic_turn, cyclic_turn, event_turn, is_quiet, turn_by_type}
use Rattle.pdo_rules.specs.Tpdo.{turn_without_frame}

inhibited : (ahead wanted : Bool) (sent unsent : Turn) → ahead ≡ true
    → (if not ahead && wanted then sent else unsent) ≡ unsent
inhibited true wanted sent unsent e = refl
inhibited false wanted sent unsent e = absurd cc

pub quiet : (type : Option TransmissionType) (c : Communication) (seen : Option SyncSeen) (t : ℕ) (bytes : List ℕ)
    (r : Remembered) → is_quiet type seen t r ≡ true → turn_by_type type c seen t bytes r ≡ turn_without_frame r
unfolding is_quiet turn_by_type acyclic_turn cyclic_turn event_turn
quiet (Some Acyclic) c None t bytes r e = refl
quiet (Some Acyclic) c (Some seen) t bytes r e = absurd cc
quiet (Some (Cyclic n)) c None t bytes r e = refl
quiet (Some (Cyclic n)) c (Some seen) t bytes r e = absurd cc
quiet (Some EventDriven) c seen t bytes r e = inhibited (is_ahead t r.inhibit) _ _ _ e
quiet (Some Reserved) c seen t bytes r e = refl
quiet (Some OnRequest) c seen t bytes r e = refl
quiet None c seen t bytes r e = refl
