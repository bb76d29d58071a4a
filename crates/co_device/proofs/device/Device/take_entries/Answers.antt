use Rattle.std.proofs.Common.{◌+◌, ℕ, List, drop, get_or, sym, ap, ◌∙◌, arith}
use Rattle.co_dict.specs.Mappings.{mapped_length}
use Rattle.pdo_rules.specs.Packing.{after_entries, frame_bits}
use Rattle.pdo_rules.proofs.PackLemmas.{bits_left}
use Rattle.pdo_rules.proofs.UnpackLemmas.{entries_end, entry_next}
use Rattle.co_device.specs.Receiving.{after_entry}
use Rattle.co_device.proofs.device.Device.take_entries.Goals as goal

pub take_entry-requires-clause-inside : goal.take_entry-requires-clause-inside
take_entry-requires-clause-inside c = omega (
  arith,
  bits_left c.args.mapping.now c.loop-entry.entry-index 0 c.loop-entry-test.true,
  c.loop-entry.invariant.length,
  c.requires.fits,
)

pub loop-entry-preserved : goal.loop-entry-preserved
loop-entry-preserved c =
    let i : ℕ = c.loop-entry.entry-index in
    let position : ℕ = c.loop-entry.position in
    let bits : List ℕ = frame_bits c.args.frame.now.bytes in
    let rest : List ℕ = drop (i + 1) c.args.mapping.now in
    let count = c.mapped_length-position.ensures in
    let turn = after_entry c.args.t c.args.shape.now in
    record {
      all = ap (λ (n : ℕ). after_entries turn (position + n) rest bits c.take_entry.new.self) count
          ∙ ap (after_entries turn (position + mapped_length (get_or c.args.mapping.now i 0)) rest bits)
          c.in_ok-take_entry.ensures
          ∙ sym (entry_next turn c.args.mapping.now bits c.loop-entry.self i position c.loop-entry-test.true)
          ∙ c.loop-entry.invariant.all;
      length = omega (
        arith,
        bits_left c.args.mapping.now i 0 c.loop-entry-test.true,
        count,
        c.loop-entry.invariant.length,
      );
    }

pub returns : goal.returns
returns c =
    sym (entries_end (after_entry c.args.t c.args.shape.now) c.args.mapping.now (frame_bits c.args.frame.now.bytes)
    c.loop-entry.self
    c.loop-entry.entry-index c.loop-entry.position c.loop-entry-test.false)
    ∙ c.loop-entry.invariant.all
