use Rattle.std.proofs.Common.{◌≡◌, ℕ, ◌+◌, Bool, false, sym, ◌∙◌}
use Rattle.co_dict.specs.PdoChecks.{is_bad_entry}
use Rattle.co_dict.proofs.MappingLemmas.{any_rest}
use Rattle.co_dict.proofs.pdo_checks.has_bad_entry.Goals as goal

pub loop-sub-preserved : goal.loop-sub-preserved
loop-sub-preserved c =
    let bad : ℕ → Bool = is_bad_entry c.args.shape.now c.args.dict.now c.args.object in
    let good : bad c.loop-sub.sub ≡ false = sym c.is_bad_entry.ensures ∙ c.if-is_bad_entry.false in
    any_rest bad c.loop-sub.sub (c.args.count + 1) c.loop-sub-test.true good ∙ c.loop-sub.invariant
