use Rattle.std.proofs.Common.{◌≡◌, ◌≤◌, ℕ, false, nat_lt, arith}
use Rattle.std.proofs.lemmas.Bool.Decides.{nat_tests}
use Rattle.project_edits.proofs.ControlLemmas.{none_at_all, none_more}
use Rattle.project_edits.proofs.forms.has_low.Goals as goal

-- what isn't above zero
not_some : (n : ℕ) → nat_lt 0 n ≡ false → n ≤ 0
not_some n lacks = grind (arith, nat_tests)

pub blocks-2-preserved : goal.blocks-2-preserved
blocks-2-preserved c = (
  omega arith,
  none_more c.args.text.now c.blocks-2.at 16 c.low_at.result c.low_at.ensures (omega (arith, c.if-low_at-gt0.false))
      c.blocks-2.invariant.1,
)

pub returns : goal.returns
returns c = λ lacks.
    none_at_all c.args.text.now c.blocks-2.at 16 c.low_at-2.result c.requires (omega arith) c.low_at-2.ensures
    (not_some c.low_at-2.result lacks) c.blocks-2.invariant.1
