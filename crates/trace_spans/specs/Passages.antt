-- Passages of a trace.
use Rattle.std.specs.Prelude.{ℕ, max, List, fold}
use Rattle.std.specs.List.{flat_map}
use Rattle.can_bus.specs.Lines.{line_time}
use Rattle.can_bus.specs.declared.line.Line.{Line}

-- the lines of passages, one behind the other
abbrev pub lines_of_passages : List (List Line) → List Line
lines_of_passages passages = flat_map (λ lines. lines) passages

-- the last time of lines, or 0 where there are none
abbrev pub latest : List Line → ℕ
latest lines = fold (λ last line. max last (line_time line)) 0 lines
