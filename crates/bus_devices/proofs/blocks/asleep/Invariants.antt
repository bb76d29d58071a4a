use Rattle.std.proofs.Common.{◌≡◌, ◌<◌, true, take}
use Rattle.std.specs.Prelude.{IfSome}
use Rattle.std.specs.List.{AllByRecursion}
use Rattle.bus_devices.specs.Blocks.{block_sleeps}
use Rattle.bus_devices.proofs.blocks.asleep.Given as goal

-- those so far sleep
abbrev pub invariant-loop-i : goal.invariant-loop-i
invariant-loop-i l = record {
  asleep : AllByRecursion (λ b. block_sleeps l.fn.t l.fn.delivery b ≡ true) (take l.i l.blocks);
  bound : 0 < l.i → IfSome l.fn.delivery (λ d. d.frame.id < 0x800);
}
