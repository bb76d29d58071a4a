use Rattle.kept_parts.proofs.GoneLemmas.{none_gone}
use Rattle.project_parts.specs.Reached.{reached_by_trace}
use Rattle.workbench.proofs.laws.nothing_is_held_of_what_is_gone.Goals as goal

pub returns-clause-parts : goal.returns-clause-parts
returns-clause-parts c = λ named old new brings.
    none_gone old.project named old.parts new.parts old.work new.work brings.parts

pub returns-clause-trace : goal.returns-clause-trace
returns-clause-trace c = λ old new traces.
    none_gone old.project (reached_by_trace old.project) old.parts new.parts old.work traces.between traces.parts
