use Rattle.std.proofs.Common.{◌≡◌, ◌+◌, ◌-◌}
use Rattle.std.specs.List.{list_any, range_with_len}
use Rattle.co_dict.specs.PdoChecks.{is_bad_entry}
use Rattle.co_dict.proofs.pdo_checks.has_bad_entry.Given as goal

-- a bad one is among those left, if any is
abbrev pub invariant-loop-sub : goal.invariant-loop-sub
invariant-loop-sub l =
    list_any (is_bad_entry l.shape l.dict l.object) (range_with_len l.sub (l.count + 1 - l.sub))
    ≡ list_any (is_bad_entry l.shape l.dict l.object) (range_with_len 1 l.count)
