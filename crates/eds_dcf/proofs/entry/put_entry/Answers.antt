use Rattle.std.proofs.Common.{ap, option_copied, ◌∙◌}
use Rattle.eds_dcf.proofs.EntryLemmas.{entry_text}
use Rattle.eds_dcf.proofs.entry.put_entry.Goals as goal

pub returns-in_ok-put_line : goal.returns-in_ok-put_line
returns-in_ok-put_line c =
    entry_text c.args.section.now.name _ c.args.section.now.pairs _ c.args.kind _ _ _ c.args.out.now.items _ _ _
    c.name.ensures c.pairs.ensures (ap option_copied c.in-Some.is)
    (c.as_slice.ensures.value ∙ c.in_ok-text.ensures) c.in_ok-put_name.ensures c.in_ok-put_pairs_without.ensures
    c.in_ok-put_line.ensures
