-- What an `Origin` of the program is.
use Rattle.eds_places.specs.declared.origin.Origin.{Origin as Read}
use Rattle.eds_places.specs.declared.origin.Origin.TheVariants.{Own, Compact}
use Rattle.eds_places.specs.Origins.{Origin, own, compact}

-- where an entry stands
abbrev pub origin_shown : Read → Origin
origin_shown (Own section) = own section.now
origin_shown (Compact section highest) = compact section.now highest
