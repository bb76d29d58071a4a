use Rattle.std.proofs.Common.{◌≡◌, ◌++◌, drop, map, take}
use Rattle.device_pdos.specs.Tpdos.{tpdo_after_turn, with_tpdos}
use Rattle.device_pdos.proofs.tpdos.look_at_tpdos.Given as goal

-- what is done and what is left give what all give
abbrev pub invariant-loop-tpdo : goal.invariant-loop-tpdo
invariant-loop-tpdo l =
    let step = tpdo_after_turn l.fn.t l.fn.seen l.fn.dict in
    record {
      states : take l.tpdo-index l.tpdos ++ map step (drop l.tpdo-index l.tpdos) ≡ map step l.fn.tpdos;
      queued : with_tpdos l.fn.t l.fn.seen l.fn.dict (drop l.tpdo-index l.tpdos) l.waiting
          ≡ with_tpdos l.fn.t l.fn.seen l.fn.dict l.fn.tpdos l.fn.waiting;
    }
