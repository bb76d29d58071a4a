use Rattle.script_commands.proofs.PrintedLemmas.{read_again}
use Rattle.script_commands.proofs.laws.printed_lines_are_read.Goals as goal

pub returns : goal.returns
returns c = λ edit is. (read_again edit is).is
