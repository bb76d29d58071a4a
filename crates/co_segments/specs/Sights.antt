-- What is seen of a bus at one entry.
use Rattle.std.specs.Prelude.{Option, Some, None, option_map, ◌≡◌}
use Rattle.can_bus.specs.Bus.{Bus}
use Rattle.bus_devices.specs.Numbers.{values_of}
use Rattle.dict_values.specs.Values.{number_at}
use Rattle.trace_spans.specs.declared.place.Place.{Place}
use Rattle.co_segments.specs.declared.sight.Sight.{Sight}

-- the number that the first eight bytes of an entry spell, where the node has a device
abbrev pub sight_of : Place → Bus → Option Sight
sight_of place bus = option_map
    (λ values. record { place = place; number = number_at 8 values (place.index, place.sub) })
    (values_of place.node bus.devices)

-- it is seen of the bus
abbrev pub IsSightOf : Bus → Sight → Type 0
IsSightOf bus sight = sight_of sight.place bus ≡ Some sight

-- nothing is told, or what is seen of the bus
abbrev pub AreSightsOf : Bus → Option Sight → Type 0
AreSightsOf bus None = Unit {0}
AreSightsOf bus (Some sight) = IsSightOf bus sight
