use Rattle.std.proofs.Common.{◌≡◌, ◌-◌}
use Rattle.concise_dcf.specs.Reading.{entries_at}
use Rattle.concise_dcf.proofs.Entries.{with_front}
use Rattle.concise_dcf.proofs.decoding.read_entries.Given as goal

abbrev pub invariant-loop : goal.invariant-loop
invariant-loop l = with_front l.writes.items (entries_at (l.count - l.counter) l.rest) ≡ entries_at l.count l.bytes
