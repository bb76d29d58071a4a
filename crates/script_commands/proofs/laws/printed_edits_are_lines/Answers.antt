use Rattle.script_commands.proofs.ScriptLemmas.{order_lines}
use Rattle.script_commands.proofs.laws.printed_edits_are_lines.Goals as goal

pub returns : goal.returns
returns c = order_lines
