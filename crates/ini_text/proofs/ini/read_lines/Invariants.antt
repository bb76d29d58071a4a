use Rattle.std.proofs.Common.{◌≡◌, ◌+◌, ◌≤◌, length}
use Rattle.indexmap.specs.IndexMap.{values}
use Rattle.ini_text.specs.Content.{Section, line_list}
use Rattle.ini_text.specs.Keyed.{AreFolded}
use Rattle.ini_text.specs.Reading.{state_of, run, start}
use Rattle.ini_text.proofs.ini.read_lines.Given as goal

abbrev pub invariant-lines : goal.invariant-lines
invariant-lines l = record {
  folded : AreFolded (λ (s : Section). s.name) l.sections.entries;
  runs : run (state_of (values l.sections) l.warnings.items l.current l.count) (line_list l.rest)
      ≡ run start (line_list l.text);
  counts : l.count + length l.rest ≤ length l.text;
}

abbrev pub decreases-lines : goal.decreases-lines
decreases-lines l = length l.rest
