use Rattle.std.proofs.Common.{ℕ, ◌≤◌, List, sym, subst, arith}
use Rattle.std.proofs.lemmas.List.{length-take-le}
use Rattle.device_pdos.proofs.PackedLemmas.{few}
use Rattle.device_pdos.proofs.tpdo_state.TpdoState.look.Goals as goal

pub slice_bounds-bytes-end : goal.slice_bounds-bytes-end
slice_bounds-bytes-end c =
    let within : c.pack-count.result.1 ≤ 8 = subst (λ (p : List ℕ × ℕ). p.1 ≤ 8) (sym c.pack-count.ensures)
    (few c.args.dict.now c.entries.result.now c.entries.ensures.fits) in
    sym (length-take-le c.pack-count.result.1 c.pack-count.result.0 (omega arith))
