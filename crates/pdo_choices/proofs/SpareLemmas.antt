-- The free RPDOs of a node, by its station.
use Rattle.std.proofs.Common.{◌≡◌, ℕ, ◌&&◌, not, Bool, true, false, Some, None, refl, sym, ap}
use Rattle.co_dict.specs.Shapes.{Shaped}
use Rattle.cia301.specs.PdoObjects.{rpdo_object}
use Rattle.pdo_stations.specs.Seats.{shape_at}
use Rattle.pdo_stations.specs.Stations.{devices_in}
use Rattle.pdo_stations.specs.declared.stations.Stations.{Stations}
use Rattle.pdo_stations.proofs.AlikeLemmas.{pdo_at, no_pdo_at}
use Rattle.pdo_choices.specs.declared.taken.Taken.{Taken}
use Rattle.pdo_stations.specs.Flags.{is_flagged, is_spare}
use Rattle.pdo_choices.specs.Least.{least_free}
use Rattle.pdo_choices.specs.Rpdos.{is_free_rpdo}
use Rattle.pdo_choices.specs.Taken.{had_in}
use Rattle.pdo_choices.proofs.LeastLemmas.{is_least_free}

-- the free RPDOs of a node with a station
pub spare_free : (stations : Stations) (taken : Taken) (node count : ℕ) (shape : Shaped)
    → shape_at stations.seats node ≡ Some shape
    → least_free (is_spare shape taken.rpdos.flags.items node count) 1 512
    ≡ least_free (is_free_rpdo (had_in taken) (devices_in stations) node count) 1 512
unfolding is_spare
spare_free stations taken node count shape at =
    let same : (number : ℕ) → is_spare shape taken.rpdos.flags.items node count number ≡ is_free_rpdo (had_in taken)
    (devices_in stations) node count number =
    λ number. ap (λ b. not (is_flagged taken.rpdos.flags.items node number) && b)
    (pdo_at stations node (rpdo_object number) count shape at) in
    ap (λ (f : ℕ → Bool). least_free f 1 512) (λ i number. same number i)

and_false : (a b : Bool) → b ≡ false → (a && b) ≡ false
and_false true b e = e
and_false false b e = refl

-- a node without a station has none
pub none_free : (stations : Stations) (taken : Taken) (node count : ℕ) → shape_at stations.seats node ≡ None
    → None ≡ least_free (is_free_rpdo (had_in taken) (devices_in stations) node count) 1 512
none_free stations taken node count at =
    is_least_free (is_free_rpdo (had_in taken) (devices_in stations) node count) 1 512 None
    (λ number low below. and_false (not (is_flagged taken.rpdos.flags.items node number)) _
    (sym (no_pdo_at stations node (rpdo_object number) count at)))
