use Rattle.std.proofs.Common.{◌<◌, length, arith}
use Rattle.std.proofs.lemmas.List.{length-set}
use Rattle.can_frame.proofs.TraceLemmas.{spaced_more}
use Rattle.can_frame.proofs.trace_line.spaced.Goals as goal

pub loop-place-preserved : goal.loop-place-preserved
loop-place-preserved c =
    let below : c.loop-place.place < length c.args.bytes.now = omega arith in
    record {
      long = simp length-set c.loop-place.invariant.long;
      written = spaced_more c.loop-place.spaced c.args.bytes.now c.byte_digits.result c.loop-place.place
          c.loop-place.invariant.long c.requires below c.byte_digits.ensures c.loop-place.invariant.written;
    }
