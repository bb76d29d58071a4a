use Rattle.base.proofs.Hexes.{hex_text-row}
use Rattle.base.proofs.reply_laws.full_rows.Goals as goal

pub returns : goal.returns
returns c = hex_text-row
