use Rattle.std.proofs.Common.{◌+◌, ap, ◌∙◌, arith}
use Rattle.co_dict.specs.Mappings.{mapped_length}
use Rattle.co_dict.proofs.MappingLemmas.{bits_rest}
use Rattle.co_dict.proofs.pdo_checks.mapping_bits.Goals as goal

pub loop-sub-preserved : goal.loop-sub-preserved
loop-sub-preserved c =
    let rest = bits_rest c.args.dict.now c.args.object c.loop-sub.sub (c.args.count + 1) c.loop-sub-test.true in
    let length = c.mapped_length-bits.ensures ∙ ap mapped_length c.number_32.ensures in
    record {
      all = omega (arith, rest, length, c.loop-sub.invariant.all);
      few = omega (arith, c.mapped_length-bits.ensures, c.loop-sub.invariant.few);
    }
