use Rattle.std.proofs.Common.{◌≡◌, ◌<◌, ◌∙◌, ap, length, take, drop, arith, rules}
use Rattle.std.specs.Prelude.{min}
use Rattle.base.proofs.Hexes.{hex_step}
use Rattle.base.proofs.hex.hex_text.Goals as goal

pub loop-rest-preserved : goal.loop-rest-preserved
loop-rest-preserved c =
    let rest = c.loop-rest.rest.now in
    let least : c.min.result ≡ min 16 (length rest) = omega (arith, c.min.ensures) in
    let some : 0 < length rest = search rules in
    hex_step c.loop-rest.out.items c.push_line.new.out.items c.split_at.result.0.now rest c.split_at.result.1.now _
    c.in_ok-push_line.ensures
    (c.split_at.ensures.front ∙ ap (λ n. take n rest) least)
    (c.split_at.ensures.back ∙ ap (λ n. drop n rest) least)
    some
    c.loop-rest.invariant
