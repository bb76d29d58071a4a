-- The image of a network whose nodes are all alike, and what was handed out of it.
use Rattle.std.specs.Prelude.{◌&&◌, ℕ, nat_le, nat_lt, length, List, [], ◌∷◌, Option, Some, None}
use Rattle.std.specs.Prelude.{if◌then◌else◌, option_and_then, slice_get}
use Rattle.image_parts.specs.Asking.{Seen}
use Rattle.concise_dcf.specs.declared.write.Write.{Write}
use Rattle.can_frame.specs.declared.slot_rule.SlotRule.{SlotRule}
use Rattle.co_dict.specs.Shapes.{Shaped}
use Rattle.co_dict.specs.Values.{Values}
use Rattle.image_parts.specs.Contents.{Content, Image, RosterIs, DefaultsAre, ShapeIs, ExpectIs, BootIs, EventsAre}
use Rattle.image_parts.specs.Images.{greatest_place}
use Rattle.image_parts.specs.declared.identity.Identity.{Identity}
use Rattle.image_parts.specs.declared.part.Part.{Part}
use Rattle.image_parts.specs.declared.part.Part.TheVariants as part
use Rattle.image_parts.specs.declared.roster.Roster.{Roster}
use Rattle.image_parts.specs.declared.start_mode.StartMode.TheVariants.{EachNode}
use Rattle.checks_bus.specs.declared.one_node.OneNode.{OneNode}

-- a write of 1 to 512 bytes, whose number isn't the greatest
abbrev pub fitting : ℕ → Write → Option Write
fitting place write =
    if nat_lt place greatest_place && (nat_le 1 (length write.bytes) && nat_le (length write.bytes) 512) then Some write
    else None

-- the network of the manager 127 and the nodes 5 and 9, with slots by a rule
abbrev pub network : SlotRule → Roster
network slots = record {
  bit_rate = 125;
  slots = slots;
  manager = 127;
  sync_us = 20000;
  sync_counter = 3;
  time_us = 0;
  first_day = 0;
  heartbeat_ms = 30;
  timeout_ms = 100;
  start_mode = EachNode;
  mandatory = [];
  nodes = 5 ∷ 9 ∷ [];
}

abbrev pub image_of : SlotRule → Values → Shaped → Identity → List Write → Image
image_of slots values shape expect writes part.Roster = RosterIs (Some (network slots))
image_of slots values shape expect writes (part.Defaults node) = DefaultsAre (Some values)
image_of slots values shape expect writes (part.Shape node) = ShapeIs (Some shape)
image_of slots values shape expect writes (part.Expect node) = ExpectIs (Some expect)
image_of slots values shape expect writes (part.Boot node place) =
    BootIs (option_and_then (fitting place) (slice_get writes place))
image_of slots values shape expect writes (part.Events window) = EventsAre None

abbrev pub seen_of : OneNode → Seen Part Content
seen_of node = record {
  image = image_of node.slots node.defaults.value node.shape.value node.expect node.writes.items;
  asked = node.asked.items;
}
