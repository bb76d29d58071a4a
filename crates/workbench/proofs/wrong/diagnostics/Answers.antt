use Rattle.std.proofs.Common.{◌≡◌, ◌∙◌, Some, option_map, rules}
use Rattle.co_diag.specs.Found.{diagnostics_of}
use Rattle.project_parts.specs.declared.diagnostics_from.DiagnosticsFrom.{DiagnosticsFrom}
use Rattle.workbench.proofs.KeptFiles.{found_now, one_is}
use Rattle.workbench.proofs.wrong.diagnostics.Goals as goal

pub returns-clause-list : goal.returns-clause-list
returns-clause-list c =
    let kept : Some c.in-Some.found
    ≡ option_map (λ (f : DiagnosticsFrom). diagnostics_of f.project) c.refresh.new.self.found.kept = search rules in
    one_is c.in-Some.found (diagnostics_of c.args.project.now)
    (kept ∙ found_now c.args.project.now c.refresh.new.self c.in_ok-refresh.ensures.current)
