use Rattle.std.proofs.Common.{◌≡◌, ◌*◌, ◌^◌, length, lt-ltb}
use Rattle.real_texts.specs.Reals.{format_of, significand, doublings, places}
use Rattle.real_texts.specs.Texts.{bits_text}
use Rattle.real_texts.proofs.Digits.{below_behind_zeros}
use Rattle.real_texts.proofs.printing.finite_text.Goals as goal

pub returns : goal.returns
unfolding bits_text
returns c =
    let f = format_of c.args.real in
    let n = significand f c.args.bits * 2 ^ doublings f c.args.bits in
    let text = c.in_ok-digits.digits.items in
    let product : c.in_ok-shifted.shifted ≡ n * 5 ^ places f c.args.bits =
    rw (c.in_ok-shifted.ensures, c.in_ok-doubled.ensures, c.in_ok-number.ensures, c.significand.ensures, c.doublings.ensures, c.places-places.ensures.value) in
    let digits = rw product at c.in_ok-digits.ensures.digits in
    let enough = rw product at c.in_ok-digits.ensures.enough in
    let fits = below_behind_zeros (n * 5 ^ places f c.args.bits) _ (length text) enough in
    let is = rw (c.deref.ensures.value, c.places-places.ensures.value, c.in_ok-sign.ensures, c.is_negative.ensures) at c.in_ok-text.ensures in
    rw (lt-ltb _ _ c.requires) (is n digits fits)
