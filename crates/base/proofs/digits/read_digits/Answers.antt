use Rattle.std.proofs.Common.{sym, ◌∙◌, ap, Some}
use Rattle.base.proofs.Capped.{within_cap-short, within_cap-lt}
use Rattle.base.proofs.digits.read_digits.Goals as goal

pub returns-then-text-gt-SHORT-clause-bound : goal.returns-then-text-gt-SHORT-clause-bound
returns-then-text-gt-SHORT-clause-bound c = within_cap-lt c.args.base c.args.text.now c.read_long.result c.read_long.ensures

pub returns-clause-exact : goal.returns-clause-exact
returns-clause-exact c few = ap Some c.from.ensures ∙ sym c.in_ok-number.was ∙ c.read_short.ensures
    ∙ within_cap-short c.args.base c.args.text.now c.requires.low c.requires.high few

pub returns-clause-bound : goal.returns-clause-bound
returns-clause-bound c = within_cap-lt c.args.base c.args.text.now (Some c.from.result)
    (ap Some c.from.ensures ∙ sym c.in_ok-number.was ∙ c.read_short.ensures)
