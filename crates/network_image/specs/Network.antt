-- The parts that are held of a network, and the image that they are.
use Rattle.std.specs.Prelude.{Some, option_map, option_and_then, slice_get, refl}
use Rattle.std.specs.Coded.{Coded, code_by, coded×}
use Rattle.std.specs.FinMap.{get}
use Rattle.image_parts.specs.Contents.{Image, RosterIs, DefaultsAre, ShapeIs, ExpectIs, BootIs, EventsAre}
use Rattle.image_parts.specs.declared.part.Part.TheVariants as part
use Rattle.image_parts.specs.declared.roster.Roster.{Roster}
use Rattle.network_image.specs.Held.{AllHeld, PartsOfNode, Windows}

-- the roster, the parts of the nodes, and the windows
pub record Network : Type 0 where
  pub roster : Roster
  pub nodes : AllHeld
  pub windows : Windows

-- they are stored one by one
abbrev pub network_code : Coded Roster → Coded AllHeld → Coded Windows → Coded Network
network_code roster_code nodes_code windows_code =
    code_by (Roster × (AllHeld × Windows)) (coded× roster_code (coded× nodes_code windows_code))
    (λ n. (n.roster, (n.nodes, n.windows)))
    (λ t. record { roster = t.0; nodes = t.1.0; windows = t.1.1 })
    (λ _. refl)

-- THE IMAGE of what is held: the parts of a number that isn't held are none
abbrev pub image_held : Network → Image
image_held n part.Roster = RosterIs (Some n.roster)
image_held n (part.Defaults node) = DefaultsAre (option_map (λ (h : PartsOfNode). h.defaults) (get n.nodes node))
image_held n (part.Shape node) = ShapeIs (option_map (λ (h : PartsOfNode). h.shape) (get n.nodes node))
image_held n (part.Expect node) = ExpectIs (option_map (λ (h : PartsOfNode). h.expect) (get n.nodes node))
image_held n (part.Boot node place) =
    BootIs (option_and_then (λ (h : PartsOfNode). slice_get h.writes place) (get n.nodes node))
image_held n (part.Events window) = EventsAre (get n.windows window)
