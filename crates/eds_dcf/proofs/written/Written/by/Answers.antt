use Rattle.std.proofs.Common.{refl}
use Rattle.std.proofs.Math.ListN.{length-set}
use Rattle.eds_dcf.proofs.LastLemmas.{none_left, nothing_at, one_more_at, one_more_told}
use Rattle.eds_dcf.proofs.written.Written.by.Goals as goal

pub loop-write-init : goal.loop-write-init
loop-write-init c = record {
  left = none_left c.new-values.result c.new-values.ensures;
  told = λ index sub clear. nothing_at c.new-values.result c.new-values.ensures (index, sub);
  flags = refl;
}

pub loop-write-preserved : goal.loop-write-preserved
loop-write-preserved c = record {
  left = one_more_at c.args.writes.now c.loop-write.write-index c.write-item.result c.loop-write.values c.write.new.self
      (c.place_of-index.result.0, c.place_of-index.result.1) _
      c.loop-write-test.true c.write-item.is c.place_of-index.ensures.index c.place_of-index.ensures.sub
      c.as_slice.ensures c.loop-write.invariant.left c.in_ok-write.ensures.ok;
  told = one_more_told c.loop-write.flags c.loop-write.values c.write.new.self
      (c.place_of-index.result.0, c.place_of-index.result.1) c.as_slice.result.now c.from.result c.from.ensures
      c.loop-write.invariant.flags c.in_ok-write.ensures.ok c.loop-write.invariant.told;
  flags = simp length-set c.loop-write.invariant.flags;
}
