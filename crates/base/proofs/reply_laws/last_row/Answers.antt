use Rattle.base.proofs.Hexes.{hex_text-last}
use Rattle.base.proofs.reply_laws.last_row.Goals as goal

pub returns : goal.returns
returns c = hex_text-last
