use Rattle.std.proofs.Common.{◌/◌, ◌%◌, ◌^◌, ℕ, ap, ◌∙◌}
use Rattle.byteorder.specs.Endian.{little_bytes, little_number}
use Rattle.pdo_rules.proofs.UnpackLemmas.{value_there}
use Rattle.pdo_rules.proofs.unpacking.value_for.Goals as goal

pub returns : goal.returns
returns c =
    let number = c.moved_down.ensures
    ∙ ap (λ (n : ℕ). n / 2 ^ c.args.position % 2 ^ c.mapped_length.result) c.number_64.ensures
    ∙ ap (λ (count : ℕ). little_number 8 c.args.bytes.now / 2 ^ c.args.position % 2 ^ count) c.mapped_length.ensures in
    value_there c.args.entry c.args.position (little_number 8 c.args.bytes.now) c.to_le.result c.requires
    (c.to_le.ensures.bytes ∙ ap (little_bytes 8) number)
