-- The lines of a trace (this profile's own).
use Rattle.std.specs.Prelude.{ℕ, ◌/◌, ◌%◌, List, [], ◌∷◌, ◌++◌, codes, decimal}
use Rattle.std.specs.List.{flat_map}
use Rattle.std.specs.Str.{byte}
use Rattle.can_frame.specs.TraceLines.{frame_line, ten_digits}
use Rattle.base.specs.Digits.{index_digits}
use Rattle.base.specs.Lines.{line_feed}
use Rattle.node_boot.specs.declared.note_kind.NoteKind.{NoteKind}
use Rattle.node_boot.specs.declared.note_kind.NoteKind.TheVariants.{Lost, Configured, Difference, Aborted, TimedOut}
use Rattle.node_boot.specs.declared.note.Note.{Note as Noted}
use Rattle.can_bus.specs.declared.line.Line.{Line}
use Rattle.can_bus.specs.declared.line.Line.TheVariants.{Frame, Note}

-- the abort of an SDO transfer in eight upper-case hexadecimal digits
abbrev pub abort_digits : ℕ → List ℕ
abort_digits code = index_digits (code / 65536) ++ index_digits (code % 65536)

-- what is noted of a node
abbrev pub kind_text : NoteKind → List ℕ
kind_text Lost = codes "lost"
kind_text Configured = codes "configured"
kind_text Difference = codes "failed difference"
kind_text (Aborted abort) = codes "failed " ++ abort_digits abort.0
kind_text TimedOut = codes "failed timeout"

-- the line of a note at a time: the time, the node, and what is noted of it
abbrev pub note_line : ℕ → Noted → List ℕ
note_line time note = ten_digits time ++ (codes " note " ++ (decimal note.node ++ (byte " " ∷ kind_text note.kind)))

abbrev pub line_text : Line → List ℕ
line_text (Frame time frame) = frame_line time frame
line_text (Note time note) = note_line time note

abbrev pub line_time : Line → ℕ
line_time (Frame time frame) = time
line_time (Note time note) = time

-- all of them, each ended by LF
unfoldable pub lines_text : List Line → List ℕ
lines_text lines = flat_map (λ line. line_text line ++ line_feed ∷ []) lines
