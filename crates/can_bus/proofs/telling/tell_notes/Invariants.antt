use Rattle.std.proofs.Common.{◌≡◌, ◌++◌, take}
use Rattle.can_bus.specs.Bus.{note_lines}
use Rattle.can_bus.proofs.telling.tell_notes.Given as goal

abbrev pub invariant-loop-note : goal.invariant-loop-note
invariant-loop-note l = l.lines ≡ l.fn.lines ++ note_lines l.time (take l.note-index l.notes)
