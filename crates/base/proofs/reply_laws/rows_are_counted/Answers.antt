use Rattle.base.proofs.Hexes.{hex_text-lines}
use Rattle.base.proofs.reply_laws.rows_are_counted.Goals as goal

pub returns : goal.returns
returns c = hex_text-lines
