use Rattle.std.proofs.Common.{◌≡◌, ◌≤◌, ◌+◌, ◌*◌, ◌^◌, ℕ, drop, get_or, ap, ◌∙◌, arith}
use Rattle.std.proofs.Math.Pow.{pow_mono}
use Rattle.co_dict.specs.Mappings.{mapped_length}
use Rattle.pdo_rules.specs.Bits.{number_of}
use Rattle.pdo_rules.specs.Packing.{packed_bits}
use Rattle.pdo_rules.proofs.PackLemmas.{bits_left, packed_all, packed_next}
use Rattle.pdo_rules.proofs.packing.pack.Goals as goal

pub loop-entry-preserved : goal.loop-entry-preserved
loop-entry-preserved c =
    let i : ℕ = c.loop-entry.entry-index in
    let position : ℕ = c.loop-entry.position in
    let after : ℕ = c.loop-entry.frame + c.placed-frame.result in
    let count = c.mapped_length-position.ensures in
    let next = packed_next c.args.dict.now c.args.mapping.now i 0 c.loop-entry.frame c.placed-frame.result position
    c.loop-entry-test.true c.placed-frame.ensures.moved in
    let left = bits_left c.args.mapping.now i 0 c.loop-entry-test.true in
    let power : 2 ^ (position + c.mapped_length-position.result)
    ≡ 2 ^ (position + mapped_length (get_or c.args.mapping.now i 0)) = ap (λ (n : ℕ). 2 ^ (position + n)) count in
    record {
      all = ap (λ (n : ℕ). after + n * number_of (packed_bits c.args.dict.now (drop (i + 1) c.args.mapping.now))) power
          ∙ next ∙ c.loop-entry.invariant.all;
      length = omega (arith, left, count, c.loop-entry.invariant.length);
      below = omega (arith, power, c.placed-frame.ensures.bound, c.loop-entry.invariant.below);
    }

pub overflow_add-frame : goal.overflow_add-frame
overflow_add-frame c =
    let i : ℕ = c.loop-entry.entry-index in
    let end : ℕ = c.loop-entry.position + mapped_length (get_or c.args.mapping.now i 0) in
    let left = bits_left c.args.mapping.now i 0 c.loop-entry-test.true in
    let within : end ≤ 64 = omega (arith, left, c.loop-entry.invariant.length, c.requires) in
    let few : 2 ^ end ≤ 2 ^ 64 = pow_mono within in
    omega (arith, few, c.placed-frame.ensures.bound, c.loop-entry.invariant.below)

pub returns : goal.returns
returns c =
    packed_all c.args.dict.now c.args.mapping.now c.loop-entry.entry-index c.loop-entry.frame c.loop-entry.position
    c.to_le.result c.loop-entry-test.false c.to_le.ensures.bytes
    c.loop-entry.invariant.all c.loop-entry.invariant.length
