use Rattle.std.specs.FinMap.{get}
use Rattle.eds_dcf.proofs.EntryLemmas.{all_short, left_fits}
use Rattle.eds_dcf.proofs.PieceLemmas.{whole_text}
use Rattle.eds_dcf.proofs.text.dcf_text.Goals as goal

pub by-requires : goal.by-requires
by-requires c = all_short c.args.device.now c.args.writes.now c.requires

pub put_sections-requires : goal.put_sections-requires
put_sections-requires c = left_fits c.args.device.now c.args.writes.now (get c.in_ok-values.values) c.requires
    c.in_ok-values.ensures

pub put_all_made-requires : goal.put_all_made-requires
put_all_made-requires c = left_fits c.args.device.now c.args.writes.now (get c.in_ok-values.values) c.requires
    c.in_ok-values.ensures

pub returns : goal.returns
returns c =
    whole_text c.args.device.now c.args.node c.args.name.now c.args.bitrate c.args.writes.now
    (get c.in_ok-values.values) c.sections.result.now _ _ _ _
    c.in_ok-values.ensures c.sections.ensures c.new-out.ensures.items c.in_ok-put_sections.ensures
    c.in_ok-put_all_made.ensures c.in_ok-put_commissioning.ensures
