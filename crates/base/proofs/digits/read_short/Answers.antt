use Rattle.std.proofs.Common.{◌≡◌, ◌+◌, ◌*◌, sym, ◌∙◌, get_or, arith}
use Rattle.std.specs.Char.{digit_value}
use Rattle.base.proofs.Capped.{digit_more, digits_all, short_more, short_is_below}
use Rattle.base.proofs.digits.read_short.Goals as goal

pub overflow_mul-number : goal.overflow_mul-number
overflow_mul-number c =
    let more = short_more c.args.base c.loop-byte.number c.loop-byte.byte-index c.from-digit.result (omega arith)
    (omega arith) c.loop-byte.invariant.0 in
    let below = short_is_below (c.loop-byte.byte-index + 1) (omega arith) in
    rw c.from.ensures (record { fits = omega (arith, more, below) })

pub overflow_add-number : goal.overflow_add-number
overflow_add-number c =
    let more = short_more c.args.base c.loop-byte.number c.loop-byte.byte-index c.from-digit.result (omega arith)
    (omega arith) c.loop-byte.invariant.0 in
    let below = short_is_below (c.loop-byte.byte-index + 1) (omega arith) in
    rw (c.from.ensures, c.from-in-loop-byte.ensures) (record { fits = omega (arith, more, below) })

pub loop-byte-preserved : goal.loop-byte-preserved
loop-byte-preserved c =
    let same : digit_value (get_or c.args.text.now c.loop-byte.byte-index 0)
    ≡ c.from-digit.result = sym (c.from-digit.ensures ∙ c.digit_value.ensures) in
    let more = short_more c.args.base c.loop-byte.number c.loop-byte.byte-index c.from-digit.result (omega arith)
    (omega arith) c.loop-byte.invariant.0 in
    let below = short_is_below (c.loop-byte.byte-index + 1) (omega arith) in
    rw (c.from.ensures, c.from-in-loop-byte.ensures) (
      more,
      digit_more c.args.base c.loop-byte.number c.loop-byte.byte-index
          (c.loop-byte.number * c.args.base + c.from-digit.result) c.from-digit.result
          c.args.text.now _ (omega arith) c.loop-byte-test.true same
          (omega arith)
          (omega (arith, more, below))
          c.loop-byte.invariant.1,
    )

pub returns : goal.returns
returns c =
    let below = short_is_below c.loop-byte.byte-index (omega arith) in
    digits_all c.args.base c.loop-byte.number c.loop-byte.byte-index c.args.text.now _ c.loop-byte-test.false
    (omega (arith, below, c.loop-byte.invariant.0)) c.loop-byte.invariant.1
