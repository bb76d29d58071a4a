use Rattle.can_frame.proofs.TraceLemmas.{ten_digits_by_division}
use Rattle.can_frame.proofs.trace_line.ten_digits.Goals as goal

pub returns : goal.returns
returns c =
    rw (
      c.decimal_digit.ensures,
      c.decimal_digit-2.ensures,
      c.decimal_digit-3.ensures,
      c.decimal_digit-4.ensures,
      c.decimal_digit-5.ensures,
      c.decimal_digit-6.ensures,
      c.decimal_digit-7.ensures,
      c.decimal_digit-8.ensures,
      c.decimal_digit-9.ensures,
      c.decimal_digit-10.ensures,
    )
    (ten_digits_by_division c.args.time c.well_formed.0.1)
