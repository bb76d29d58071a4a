use Rattle.std.proofs.Common.{◌≡◌}
use Rattle.std.specs.FinMap.{empty, entries, from_entries}
use Rattle.co_scenario.proofs.BetweenLemmas.{put_moments}
use Rattle.co_scenario.proofs.between.gather.Given as goal

-- the events that are left, put to those that are there, are all
abbrev pub invariant-loop-number : goal.invariant-loop-number
invariant-loop-number l =
    put_moments l.fn.first l.fn.last l.number-iterator (from_entries l.moments.entries)
    ≡ put_moments l.fn.first l.fn.last (entries l.fn.script) empty
