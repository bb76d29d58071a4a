use Rattle.std.proofs.Common.{[], ◌∷◌, option_map, sym, ◌∙◌}
use Rattle.kept_values.proofs.Brought.{both}
use Rattle.kept_parts.specs.Kept.{kept_inputs}
use Rattle.project_parts.specs.Given.{inputs_of, same_part}
use Rattle.project_parts.specs.Reached.{for_writes}
use Rattle.project_parts.specs.Offered.{offered_concise}
use Rattle.project_parts.specs.declared.part.Part.TheVariants as part
use Rattle.kept_parts.proofs.KindLemmas.{concise_brought, concise_is_of, concise_now}
use Rattle.kept_parts.proofs.StepLemmas.{writes_are}
use Rattle.kept_parts.proofs.kept_parts.KeptParts.bring_concise.Goals as goal

pub bring-requires : goal.bring-requires
bring-requires c = λ unmarked.
    concise_now c.args.project.now c.bring_writes.new.self c.in_ok-written.ensures.is_of c.args.node unmarked
    ∙ sym (writes_are c.args.project.now c.args.node (option_map offered_concise c.of-now.result)
    c.in_ok-written.written c.of-now.ensures c.in_ok-written.ensures.value)

pub returns-clause-is_of : goal.returns-clause-is_of
returns-clause-is_of c =
    concise_is_of c.args.project.now c.bring_writes.new.self c.in_ok-written.ensures.is_of c.args.node
    c.bring.new.self (option_map offered_concise c.of-now.result)
    (writes_are c.args.project.now c.args.node (option_map offered_concise c.of-now.result)
    c.in_ok-written.written c.of-now.ensures c.in_ok-written.ensures.value)
    c.in_ok-bring.ensures.ok c.in_ok-bring.ensures.fresh

pub returns-clause-brings : goal.returns-clause-brings
returns-clause-brings c =
    let p = c.args.project.now in
    let key = c.args.node in
    let first = c.bring_writes.new in
    both same_part (inputs_of p) (for_writes p key) (part.Concise key ∷ []) (kept_inputs c.args.self.now) (kept_inputs first.self) _
    c.args.meter.now first.meter c.bring.new.meter c.in_ok-written.ensures.brings
    (concise_brought p first.self c.in_ok-written.ensures.is_of key c.bring.new.self
    (option_map offered_concise c.of-now.result)
    (writes_are p key (option_map offered_concise c.of-now.result) c.in_ok-written.written c.of-now.ensures
    c.in_ok-written.ensures.value)
    c.in_ok-bring.ensures.ok c.in_ok-bring.ensures.fresh first.meter c.bring.new.meter c.in_ok-bring.ensures.counted)
