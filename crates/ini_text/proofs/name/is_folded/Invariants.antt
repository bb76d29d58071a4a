use Rattle.std.proofs.Common.{◌≡◌, length}
use Rattle.std.specs.Str.{bytes_eq}
use Rattle.ini_text.specs.Content.{lower_case}
use Rattle.ini_text.proofs.name.is_folded.Given as goal

abbrev pub invariant-bytes : goal.invariant-bytes
invariant-bytes l = bytes_eq (lower_case l.name) l.key ≡ bytes_eq (lower_case l.fn.name) l.fn.key

abbrev pub decreases-bytes : goal.decreases-bytes
decreases-bytes l = length l.name
