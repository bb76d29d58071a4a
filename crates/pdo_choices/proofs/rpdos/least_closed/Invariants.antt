use Rattle.std.proofs.Common.{◌≡◌, ℕ, ◌<◌, ◌≤◌, Bool, false, ◌&&◌, not}
use Rattle.cia301.specs.PdoObjects.{rpdo_object}
use Rattle.vendor_pdos.specs.Parameters.{is_open}
use Rattle.pdo_choices.specs.Rpdos.{may_take}
use Rattle.pdo_choices.specs.Taken.{had_in}
use Rattle.pdo_choices.proofs.rpdos.least_closed.Given as goal

-- none so far may be given
abbrev pub invariant-loop-number : goal.invariant-loop-number
invariant-loop-number l =
    let test : ℕ → Bool = λ number. not (is_open l.device (rpdo_object number))
    && may_take (had_in l.taken) l.device l.wish.linked.now l.wish.carried.now l.wish.identifier l.node number in
    (k : ℕ) → 1 ≤ k → k < l.number → test k ≡ false
