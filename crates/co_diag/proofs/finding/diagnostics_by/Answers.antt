use Rattle.std.proofs.Common.{ap, ◌∙◌}
use Rattle.diag_lines.specs.Order.{diag_cmp}
use Rattle.diag_lines.specs.Sets.{sorted_set}
use Rattle.co_diag.specs.Found.{diagnostics_of}
use Rattle.co_diag.proofs.MetLemmas.{met_is}
use Rattle.co_diag.proofs.finding.diagnostics_by.Goals as goal

pub returns-clause-list : goal.returns-clause-list
returns-clause-list c = c.sort_once.ensures ∙ ap (sorted_set diag_cmp) c.in_ok-list.ensures
    ∙ met_is c.read_all.new.library.project ∙ ap diagnostics_of c.read_all.ensures.project
