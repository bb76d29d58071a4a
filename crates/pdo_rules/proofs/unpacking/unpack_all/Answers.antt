use Rattle.std.proofs.Common.{◌+◌, ℕ, List, drop, get_or, sym, ap, ◌∙◌, arith}
use Rattle.co_dict.specs.Mappings.{mapped_length}
use Rattle.pdo_rules.specs.Packing.{after_entries, frame_bits, with_bits}
use Rattle.pdo_rules.proofs.PackLemmas.{bits_left}
use Rattle.pdo_rules.proofs.UnpackLemmas.{entries_end, entry_next}
use Rattle.pdo_rules.proofs.unpacking.unpack_all.Goals as goal

pub unpack_entry-requires : goal.unpack_entry-requires
unpack_entry-requires c = omega (
  arith,
  bits_left c.args.mapping.now c.loop-entry.entry-index 0 c.loop-entry-test.true,
  c.loop-entry.invariant.length,
  c.requires,
)

pub loop-entry-preserved : goal.loop-entry-preserved
loop-entry-preserved c =
    let i : ℕ = c.loop-entry.entry-index in
    let position : ℕ = c.loop-entry.position in
    let bits : List ℕ = frame_bits c.args.bytes.now in
    let rest : List ℕ = drop (i + 1) c.args.mapping.now in
    let count = c.mapped_length-position.ensures in
    let turn = with_bits c.args.shape.now in
    let next = entry_next turn c.args.mapping.now bits c.loop-entry.dict i position c.loop-entry-test.true in
    record {
      all = ap (λ (n : ℕ). after_entries turn (position + n) rest bits c.unpack_entry.new.dict) count
          ∙ ap (after_entries turn (position + mapped_length (get_or c.args.mapping.now i 0)) rest bits)
          c.in_ok-_written.ensures.ok
          ∙ sym next
          ∙ c.loop-entry.invariant.all;
      length = omega (
        arith,
        bits_left c.args.mapping.now i 0 c.loop-entry-test.true,
        count,
        c.loop-entry.invariant.length,
      );
    }

pub returns : goal.returns
returns c =
    sym (entries_end (with_bits c.args.shape.now) c.args.mapping.now (frame_bits c.args.bytes.now) c.loop-entry.dict
    c.loop-entry.entry-index c.loop-entry.position c.loop-entry-test.false)
    ∙ c.loop-entry.invariant.all
