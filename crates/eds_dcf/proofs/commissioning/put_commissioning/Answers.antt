use Rattle.std.proofs.Common.{[], ap}
use Rattle.std.specs.Option.{option_map_or}
use Rattle.eds_dcf.proofs.TextLemmas.{node_text}
use Rattle.eds_dcf.proofs.commissioning.put_commissioning.Goals as goal

pub returns : goal.returns
returns c =
    node_text c.args.sections.now c.args.node c.args.name.now c.args.bitrate c.args.out.now.items _ _ _ _ _ _ _
    c.pairs_named.ensures (ap (λ o. option_map_or (λ s. s.pairs) o []) c.section_named-first.ensures)
    c.pairs_named-2.ensures
    c.in_ok-put_name.ensures c.in_ok-put_node.ensures c.in_ok-put_others.ensures c.in_ok-put_others_beside.ensures
