-- The turn of a quiet TPDO.
use Rattle.std.proofs.Common.{◌≡◌, ℕ, true, List, Option, Some, None, ap}
use Rattle.co_dict.specs.Values.{Values}
use Rattle.device_pdos.specs.Tpdos.{bytes_now, frame_if, turn}
use Rattle.pdo_rules.proofs.QuietLemmas.{quiet}
use Rattle.pdo_rules.specs.Tpdo.{Remembered, Turn, is_quiet, without_past_inhibit}
use Rattle.pdo_rules.specs.declared.configuration.Configuration.{Configuration}
use Rattle.pdo_rules.specs.declared.sync_seen.SyncSeen.{SyncSeen}

pub quiet_turn : (c : Configuration) (t : ℕ) (seen : Option SyncSeen) (values : Values) (r : Remembered)
    → is_quiet c.communication.transmission_type seen t (without_past_inhibit t r) ≡ true
    → turn (Some c) t seen values r ≡ (without_past_inhibit t r, None)
unfolding turn
quiet_turn c t seen values r e =
    let bytes : List ℕ = bytes_now values c in
    ap (λ (own : Turn). (own.remembered, frame_if own.is_sent c.identifier bytes))
    (quiet c.communication.transmission_type c.communication seen t bytes (without_past_inhibit t r) e)
