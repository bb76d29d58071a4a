-- The first moment at which devices are due.
use Rattle.std.proofs.Common.{◌≡◌, ℕ, ◌+◌, ◌<◌, List, drop, flat_map, get_or}
use Rattle.std.proofs.Common.{length, Option, ap, ◌∙◌}
use Rattle.co_device.specs.Device.{Device, moments, next_due}
use Rattle.base.specs.Moments.{earlier, earliest}
use Rattle.base.proofs.EarliestLemmas.{one_more}

-- of one device more
pub device_more : (first next due : Option ℕ) (d : Device) (ds : List Device) (i : ℕ) → i < length ds
    → d ≡ get_or ds i d → due ≡ next_due d → next ≡ earlier first due
    → earlier next (earliest (flat_map moments (drop (i + 1) ds)))
    ≡ earlier first (earliest (flat_map moments (drop i ds)))
unfolding next_due
device_more first next due d ds i within is e f =
    let rest : Option ℕ = earliest (flat_map moments (drop (i + 1) ds)) in
    ap (λ (o : Option ℕ). earlier o rest) f
    ∙ ap (λ (o : Option ℕ). earlier (earlier first o) rest) (e ∙ ap (λ (x : Device). earliest (moments x)) is)
    ∙ one_more moments ds i first d within
