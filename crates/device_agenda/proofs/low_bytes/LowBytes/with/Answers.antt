use Rattle.std.proofs.Common.{◌%◌, ◌==◌, ◌||◌, ap, ◌∙◌}
use Rattle.device_agenda.specs.LowBytes.{has_low_byte_of}
use Rattle.device_agenda.proofs.LowByteLemmas.{byte_within}
use Rattle.device_agenda.proofs.low_bytes.LowBytes.with.Goals as goal

pub returns : goal.returns
returns c = λ other.
    c.with_byte.ensures (other % 256) (byte_within other)
    ∙ ap (λ n. (other % 256 == n) || has_low_byte_of c.args.self other) c.low_byte.ensures
