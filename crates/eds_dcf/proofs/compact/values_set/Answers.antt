use Rattle.std.proofs.Common.{◌≡◌, ◌+◌, arith}
use Rattle.std.specs.FinMap.{get}
use Rattle.eds_dcf.specs.Compact.{value_pair}
use Rattle.eds_dcf.proofs.TextLemmas.{set_more, set_whole}
use Rattle.eds_dcf.proofs.compact.values_set.Goals as goal

pub loop-sub-preserved : goal.loop-sub-preserved
loop-sub-preserved c =
    set_more (value_pair c.args.device.now (get c.args.values.now)) c.args.index c.loop-sub.sub _ _ _
    c.loop-sub.invariant c.in_ok-value_setting.ensures c.in_ok-push_some.ensures

pub returns : goal.returns
returns c =
    let all : c.loop-sub.sub ≡ c.args.highest + 1 =
    omega (arith, c.from-sub-end.ensures, c.loop-sub-test.false, c.loop-sub.auto.sub-end) in
    set_whole _ _ c.args.index c.loop-sub.sub c.args.highest _ c.loop-sub.invariant all
