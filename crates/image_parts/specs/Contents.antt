-- What the parts of an image are, and what stands in for a part that is absent.
use Rattle.std.specs.Prelude.{false, List, [], ◌∷◌, Option, Some, None, replicate, unwrap_or}
use Rattle.std.specs.FinMap as map
use Rattle.can_frame.specs.declared.slot_rule.SlotRule.TheVariants.{Unstuffed}
use Rattle.co_dict.specs.Shapes.{Shaped}
use Rattle.co_dict.specs.Values.{Values}
use Rattle.co_scenario.specs.declared.timed_step.TimedStep.{TimedStep}
use Rattle.concise_dcf.specs.declared.write.Write.{Write}
use Rattle.image_parts.specs.declared.identity.Identity.{Identity}
use Rattle.image_parts.specs.declared.part.Part.{Part}
use Rattle.image_parts.specs.declared.roster.Roster.{Roster}
use Rattle.image_parts.specs.declared.start_mode.StartMode.TheVariants.{EachNode}

-- the content of a part, or none where the part is absent
pub data Content : Type 0 where
  RosterIs : Option Roster → Content
  DefaultsAre : Option Values → Content
  ShapeIs : Option Shaped → Content
  ExpectIs : Option Identity → Content
  BootIs : Option Write → Content
  EventsAre : Option (List TimedStep) → Content

-- AN IMAGE: the content of every part by its name
abbrev pub Image : Type 0
Image = Part → Content

-- ---- what stands in for an absent part

-- the network of the first project: its manager alone
abbrev pub first_roster : Roster
first_roster = record {
  bit_rate = 1000;
  slots = Unstuffed;
  manager = 127;
  sync_us = 0;
  sync_counter = 0;
  time_us = 0;
  first_day = 0;
  heartbeat_ms = 0;
  timeout_ms = 500;
  start_mode = EachNode;
  mandatory = [];
  nodes = [];
}

-- the shape of a device without entries
abbrev pub no_shape : Shaped
no_shape = record { entries = map.empty; dummies = replicate 7 false }

-- nothing is expected
abbrev pub no_identity : Identity
no_identity = record { numbers = 0 ∷ 0 ∷ 0 ∷ 0 ∷ 0 ∷ [] }

-- ---- the content of a part as the simulation takes it

abbrev pub roster_of : Content → Roster
roster_of (RosterIs roster) = unwrap_or roster first_roster
roster_of _ = first_roster

abbrev pub values_of : Content → Values
values_of (DefaultsAre values) = unwrap_or values map.empty
values_of _ = map.empty

abbrev pub shape_of : Content → Shaped
shape_of (ShapeIs shape) = unwrap_or shape no_shape
shape_of _ = no_shape

abbrev pub identity_of : Content → Identity
identity_of (ExpectIs identity) = unwrap_or identity no_identity
identity_of _ = no_identity

-- None is the end of the writes
abbrev pub write_of : Content → Option Write
write_of (BootIs write) = write
write_of _ = None

abbrev pub steps_of : Content → List TimedStep
steps_of (EventsAre steps) = unwrap_or steps []
steps_of _ = []
