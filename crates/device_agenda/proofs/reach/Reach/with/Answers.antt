use Rattle.std.proofs.Common.{◌%◌}
use Rattle.device_agenda.specs.Groups.{group_of, includes}
use Rattle.device_agenda.specs.LowBytes.{has_low_byte_of}
use Rattle.device_agenda.proofs.GroupLemmas.{left_out, still_out}
use Rattle.device_agenda.proofs.ReachLemmas.{both_kept, one_left_out}
use Rattle.device_agenda.proofs.reach.Reach.with.Goals as goal

pub returns-clause-kept : goal.returns-clause-kept
returns-clause-kept c =
    let old = c.args.self in
    let groups = c.with-groups.result in
    let bytes = c.with-low_bytes.result in
    record {
      kept = λ other within. both_kept (includes groups other) (has_low_byte_of bytes other)
          (includes old.groups other) (has_low_byte_of old.low_bytes other)
          (still_out group_of (includes old.groups) (includes groups) c.args.id c.with-groups.ensures other within)
          (still_out (λ id. id % 256) (has_low_byte_of old.low_bytes) (has_low_byte_of bytes) c.args.id
          (λ other within. c.with-low_bytes.ensures other) other within);
    }

pub returns-clause-with : goal.returns-clause-with
returns-clause-with c = λ other within.
    let old = c.args.self in
    let groups = c.with-groups.result in
    let bytes = c.with-low_bytes.result in
    one_left_out (includes groups other) (has_low_byte_of bytes other) _
    (left_out group_of (includes old.groups) (includes groups) c.args.id c.with-groups.ensures other within)
    (left_out (λ id. id % 256) (has_low_byte_of old.low_bytes) (has_low_byte_of bytes) c.args.id
    (λ other within. c.with-low_bytes.ensures other) other within)
