use Rattle.std.proofs.Common.{◌≡◌, ◌-◌, length, ap, arith, ◌∙◌}
use Rattle.eds_dcf.specs.Template.{object_begun}
use Rattle.eds_dcf.proofs.PieceLemmas.{none_fit, one_more_piece, one_more_room}
use Rattle.eds_dcf.proofs.template.rooms_of.Goals as goal

pub put_with_values-requires : goal.put_with_values-requires
put_with_values-requires c = none_fit c.args.device.now c.none-values.result c.none-values.ensures

pub loop-section-preserved : goal.loop-section-preserved
loop-section-preserved c =
    let size : c.len.result - c.len-before.result ≡ length c.put_with_values.new.out.items
    - length c.loop-section.text.items =
    omega (arith, c.len.ensures, c.len-before.ensures, c.put_with_values.new.out.ok.0, c.loop-section.text.ok.0) in
    record {
      rooms = one_more_room c.args.device.now c.sections-section-items.result.now c.none-values.result
          c.none-values.ensures c.loop-section.section-index c.section-item.result c.loop-section-test.true
          c.section-item.is c.loop-section.rooms.items c.push.new.self.items c.loop-section.text.items
          c.put_with_values.new.out.items c.object_begun.result (c.len.result - c.len-before.result)
          c.loop-section.invariant.rooms c.in_ok-near.ensures (c.object_begun.ensures ∙ ap object_begun c.name.ensures)
          size c.in_ok-push.ensures.items;
      text = one_more_piece c.args.device.now c.sections-section-items.result.now c.none-values.result
          c.none-values.ensures c.loop-section.section-index c.section-item.result c.loop-section-test.true
          c.section-item.is c.loop-section.text.items c.put_with_values.new.out.items c.loop-section.invariant.text
          c.in_ok-near.ensures;
    }
