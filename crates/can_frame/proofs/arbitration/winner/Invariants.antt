use Rattle.std.proofs.Common.{take, map}
use Rattle.can_frame.specs.Winner.{contenders, IsWinner}
use Rattle.can_frame.proofs.arbitration.winner.Given as goal

abbrev pub invariant-loop-sender : goal.invariant-loop-sender
invariant-loop-sender l = IsWinner (contenders (map (λ list. (list.0, list.1.now)) (take l.sender-index l.lists))) l.best
