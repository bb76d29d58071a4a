use Rattle.std.proofs.Common.{◌≡◌, ◌≤◌, ◌^◌, drop}
use Rattle.base.specs.Digits.{digits_number, within_cap}
use Rattle.base.proofs.Capped.{digits_behind}
use Rattle.base.proofs.digits.read_long.Given as goal

abbrev pub invariant-loop-byte : goal.invariant-loop-byte
invariant-loop-byte l = (l.number ≤ 2 ^ 64)
    × (within_cap (digits_behind l.base l.number (drop l.byte-index l.text)) ≡ within_cap (digits_number l.base l.text))
