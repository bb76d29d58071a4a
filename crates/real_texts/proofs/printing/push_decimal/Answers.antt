use Rattle.std.proofs.Common.{append_assoc}
use Rattle.real_texts.proofs.Digits.{placed}
use Rattle.real_texts.proofs.printing.push_decimal.Goals as goal

pub returns : goal.returns
returns c n are fits =
    let parts = placed c.args.digits.now n c.args.places c.requires are fits in
    rw (c.in_ok-text.ensures, c.in_ok-extend_from_slice.ensures.items, c.without_first_zeros.ensures, c.without_last_zeros.ensures, c.split_at.ensures.front, c.split_at.ensures.back, parts.0, parts.1)
    (append_assoc c.args.text.items _ _)
