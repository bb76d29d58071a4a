use Rattle.base.proofs.Counts.{line_count-append}
use Rattle.base.proofs.reply_laws.lines_add_up.Goals as goal

pub returns : goal.returns
returns c = line_count-append
