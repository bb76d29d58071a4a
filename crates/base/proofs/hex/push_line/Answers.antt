use Rattle.std.proofs.Common.{refl}
use Rattle.base.proofs.Hexes.{four_step}
use Rattle.base.proofs.hex.push_line.Goals as goal

pub fours-preserved : goal.fours-preserved
fours-preserved c =
    four_step c.fours.out.items c.push_four.new.out.items _ c.fours.rest.now _ c.end_before.result
    c.in-len4-up.len_at_least refl c.end_before.ensures c.in_ok-push_four.ensures c.fours.invariant
