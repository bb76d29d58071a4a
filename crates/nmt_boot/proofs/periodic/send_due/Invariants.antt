use Rattle.std.proofs.Common.{◌≡◌, ◌++◌, drop, map, take}
use Rattle.nmt_boot.specs.Periodic.{periodic_after, queue_after}
use Rattle.nmt_boot.proofs.periodic.send_due.Given as goal

-- what is done and what is left give what all give
abbrev pub invariant-loop-one : goal.invariant-loop-one
invariant-loop-one l = record {
  next : take l.one-index l.all ++ map (periodic_after l.fn.t) (drop l.one-index l.all)
      ≡ map (periodic_after l.fn.t) l.fn.all;
  queued : queue_after l.fn.t l.fn.number (drop l.one-index l.all) l.waiting
      ≡ queue_after l.fn.t l.fn.number l.fn.all l.fn.waiting;
}
