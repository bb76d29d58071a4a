use Rattle.std.proofs.Common.{ℕ, ap, get_or, ◌∙◌}
use Rattle.std.specs.FinMap.{get}
use Rattle.eds_dcf.specs.Compact.{made_section}
use Rattle.eds_dcf.proofs.TextLemmas.{made_aside, made_here, made_more, made_whole}
use Rattle.eds_dcf.proofs.text.put_all_made.Goals as goal
use Rattle.eds_dcf.proofs.text.put_all_made.Goals.{then-sub-eq0+in_ok-put_made, else-sub-eq0}

pub loop-index-preserved : goal.loop-index-preserved
loop-index-preserved c =
    let h = made_section c.args.device.now (get c.args.values.now) in
    let place : ℕ × ℕ = get_or c.pairs-index-items.result.now c.loop-index.index-index (0, 0) in
    made_more h c.pairs-index-items.result.now c.loop-index.index-index (
      0,
      0,
    ) _ _ _ c.loop-index-test.true c.loop-index.invariant
    (elim c.if-sub-eq0.branch [
      | then-sub-eq0+in_ok-put_made w ↦ made_here h place c.loop-index.out.items c.if-sub-eq0.out.items
          w.if-sub-eq0.true (ap (λ v. v.items) w.out-is ∙ w.in_ok-put_made.ensures)
      | else-sub-eq0 w ↦ made_aside h place c.loop-index.out.items c.if-sub-eq0.out.items w.if-sub-eq0.false
          (ap (λ v. v.items) w.out-is)
    ])

pub returns : goal.returns
returns c =
    made_whole c.args.device.now (get c.args.values.now) c.pairs-index-items.result.now
    c.loop-index.index-index _ _ c.pairs-index-items.ensures.pairs c.loop-index-test.false c.loop-index.invariant
