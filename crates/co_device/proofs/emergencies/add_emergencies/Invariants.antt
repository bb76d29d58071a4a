use Rattle.std.proofs.Common.{◌≡◌, ◌++◌, replicate}
use Rattle.can_frame.specs.WaitingFrames.{waiting}
use Rattle.can_frame.specs.declared.purpose.Purpose.TheVariants.{Emergency}
use Rattle.co_device.proofs.emergencies.add_emergencies.Given as goal

-- so many as were added wait
abbrev pub invariant-loop-added : goal.invariant-loop-added
invariant-loop-added l = l.waiting ≡ l.fn.waiting ++ replicate l._added (waiting Emergency l.frame)
