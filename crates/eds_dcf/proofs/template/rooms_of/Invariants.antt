use Rattle.std.proofs.Common.{◌≡◌, map, take}
use Rattle.std.specs.List.{flat_map}
use Rattle.eds_dcf.specs.Template.{no_values, piece, room_of}
use Rattle.eds_dcf.proofs.template.rooms_of.Given as goal

abbrev pub invariant-loop-section : goal.invariant-loop-section
invariant-loop-section l = record {
  rooms : l.rooms.items ≡ map (room_of l.device) (take l.section-index l.section-items);
  text : l.text.items ≡ flat_map (piece l.device no_values) (take l.section-index l.section-items);
}
