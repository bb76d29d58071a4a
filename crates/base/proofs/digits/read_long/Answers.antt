use Rattle.std.proofs.Common.{◌≡◌, sym, ◌∙◌, get_or, arith}
use Rattle.std.specs.Char.{digit_value}
use Rattle.base.proofs.Capped.{digit_more}
use Rattle.base.proofs.digits.read_long.Goals as goal

pub loop-byte-preserved : goal.loop-byte-preserved
loop-byte-preserved c =
    let same : digit_value (get_or c.args.text.now c.loop-byte.byte-index 0)
    ≡ c.from-digit.result = sym (c.from-digit.ensures ∙ c.digit_value.ensures) in (
      omega arith,
      digit_more c.args.base c.loop-byte.number c.loop-byte.byte-index c.min-number.result c.from-digit.result
          c.args.text.now _ (omega arith) c.loop-byte-test.true same
          (omega arith)
          (rw (c.from.ensures, c.from-in-loop-byte.ensures) at c.min-number.ensures)
          c.loop-byte.invariant.1,
    )
