-- What was handed out, without its pointer.
use Rattle.image_parts.specs.Contents.{Content, RosterIs, DefaultsAre, ShapeIs, ExpectIs, BootIs, EventsAre}
use Rattle.image_parts.specs.Shared.{value_behind}
use Rattle.image_parts.specs.declared.content.Handed.{Handed}
use Rattle.image_parts.specs.declared.content.Handed.TheVariants.{Roster, Defaults, Shape, Expect, Boot, Events}

abbrev pub content_of : Handed → Content
content_of (Roster roster) = RosterIs (value_behind roster)
content_of (Defaults values) = DefaultsAre (value_behind values)
content_of (Shape shape) = ShapeIs (value_behind shape)
content_of (Expect identity) = ExpectIs (value_behind identity)
content_of (Boot write) = BootIs (value_behind write)
content_of (Events steps) = EventsAre (value_behind steps)
