-- What is withheld, node by node.
use Rattle.std.proofs.Common.{◌≡◌, ℕ, ◌≤◌, ◌||◌, ◌∙◌, ap, sym, arith, Bool, true, false, Option, Some, None, is_some, option_and_then, refl}
use Rattle.std.specs.List.{list_any, range_with_len}
use Rattle.std.specs.Option.{option_map_or}
use Rattle.pdo_stations.specs.Devices.{Devices}
use Rattle.pdo_stations.specs.declared.as_made.AsMade.{AsMade}
use Rattle.cia301.specs.PdoObjects.{rpdo_object, tpdo_object}
use Rattle.vendor_pdos.specs.Fixed.{fixes, has_fixed, is_withheld}
use Rattle.vendor_pdos.proofs.EachLemmas.{passes_none}

abbrev pub at_node : Option (ℕ → Option AsMade) → ℕ → ℕ → Bool
at_node vendor id node = option_map_or (λ device. fixes device id) (option_and_then (λ made. made node) vendor) false

-- in version 3
pub withheld_some : (devices : Devices) (id : ℕ) → is_some devices.vendor ≡ true
    → list_any (at_node devices.vendor id) (range_with_len 1 127) ≡ is_withheld devices id
unfolding is_withheld
withheld_some devices id e = by devices.vendor e
  where
    by : (vendor : Option (ℕ → Option AsMade)) → is_some vendor ≡ true
        → list_any (at_node vendor id) (range_with_len 1 127)
        ≡ option_map_or
        (λ made. list_any (λ node. option_map_or (λ device. fixes device id) (made node) false) (range_with_len 1 127))
        vendor false
    by None e = cc
    by (Some made) e = refl

-- and in others
pub withheld_none : (devices : Devices) (id : ℕ) → is_some devices.vendor ≡ false → false ≡ is_withheld devices id
unfolding is_withheld
withheld_none devices id e = by devices.vendor e
  where
    by : (vendor : Option (ℕ → Option AsMade)) → is_some vendor ≡ false
        → false
        ≡ option_map_or
        (λ made. list_any (λ node. option_map_or (λ device. fixes device id) (made node) false) (range_with_len 1 127))
        vendor false
    by None e = refl
    by (Some made) e = cc

or_none : (a b : Bool) → a || b ≡ false → b ≡ false
or_none false b e = e
or_none true b e = cc

-- what isn't withheld no RPDO of a node has as its fixed identifier
pub fixes_none : (devices : Devices) (id node number : ℕ) (made : AsMade) → is_withheld devices id ≡ false
    → option_and_then (λ all. all node) devices.vendor ≡ Some made → 1 ≤ node → node ≤ 127 → 1 ≤ number → number ≤ 512
    → has_fixed made (rpdo_object number) id ≡ false
unfolding is_withheld fixes
fixes_none devices id node number made none there low high from to = by devices.vendor none there
  where
    fixed : ℕ → Bool
    fixed n = has_fixed made (tpdo_object n) id || has_fixed made (rpdo_object n) id

    by : (vendor : Option (ℕ → Option AsMade))
        → option_map_or
        (λ made. list_any (λ node. option_map_or (λ device. fixes device id) (made node) false) (range_with_len 1 127))
        vendor false ≡ false
        → option_and_then (λ all. all node) vendor ≡ Some made → has_fixed made (rpdo_object number) id ≡ false
    by None none there = cc
    by (Some all) none there =
        let here : option_map_or (λ device. fixes device id) (all node) false ≡ false =
        passes_none (λ node. option_map_or (λ device. fixes device id) (all node) false) 1 127 node none low
        (omega arith) in
        let of_made : fixes made id ≡ false =
        sym (ap (λ (o : Option AsMade). option_map_or (λ device. fixes device id) o false) there) ∙ here in
        or_none (has_fixed made (tpdo_object number) id) (has_fixed made (rpdo_object number) id)
        (passes_none fixed 1 512 number of_made from (omega arith))
