use Rattle.script_commands.proofs.BlockLemmas.{lines_counted, edit_again}
use Rattle.script_commands.proofs.laws.printed_blocks_are_read.Goals as goal

pub returns : goal.returns
returns c = λ name text is. (lines_counted name text is, edit_again name text is)
