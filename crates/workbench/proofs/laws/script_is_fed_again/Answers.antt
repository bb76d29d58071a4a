use Rattle.workbench.proofs.Fed.{answered_by_ok, project_again}
use Rattle.workbench.proofs.laws.script_is_fed_again.Goals as goal

pub returns-clause-replies : goal.returns-clause-replies
returns-clause-replies c =
    answered_by_ok c.printed_lines_are_read.ensures c.printed_blocks_are_read.ensures c.printed_edits_are_lines.ensures
    c.script_has_edits.ensures c.script_makes_the_project_again.ensures

pub returns-clause-project : goal.returns-clause-project
returns-clause-project c =
    project_again c.printed_lines_are_read.ensures c.printed_blocks_are_read.ensures c.printed_edits_are_lines.ensures
    c.script_has_edits.ensures c.script_makes_the_project_again.ensures
