use Rattle.eds_dcf.proofs.PieceLemmas.{short_begins}
use Rattle.eds_dcf.proofs.template.object_begun.Goals as goal

pub returns-then-name-lt4 : goal.returns-then-name-lt4
returns-then-name-lt4 c = short_begins c.args.name.now c.if-name-lt4.true
