use Rattle.std.proofs.Common.{[], ◌∷◌, ◌++◌, option_map, sym, ◌∙◌}
use Rattle.kept_values.proofs.Brought.{both}
use Rattle.kept_parts.specs.Kept.{kept_inputs}
use Rattle.project_parts.specs.Given.{inputs_of, same_part}
use Rattle.project_parts.specs.Reached.{for_plan, own_device}
use Rattle.project_parts.specs.Offered.{offered_writes}
use Rattle.project_parts.specs.declared.part.Part.TheVariants as part
use Rattle.kept_parts.proofs.KindLemmas.{writes_brought, writes_is_of, writes_now}
use Rattle.kept_parts.proofs.kept_parts.KeptParts.bring_writes.Goals as goal

pub bring-requires : goal.bring-requires
bring-requires c = λ unmarked.
    writes_now c.args.project.now c.bring_own_device.new.self c.in_ok-device.ensures.is_of c.args.node unmarked
    ∙ sym c.of-now.ensures

pub returns-in_err-written-clause-is_of : goal.returns-in_err-written-clause-is_of
returns-in_err-written-clause-is_of c =
    writes_is_of c.args.project.now c.bring_own_device.new.self c.in_ok-device.ensures.is_of c.args.node
    c.bring.new.self (option_map offered_writes c.of-now.result) c.of-now.ensures
    c.in_ok-bring.ensures.ok c.in_ok-bring.ensures.fresh

pub returns-clause-is_of : goal.returns-clause-is_of
returns-clause-is_of c =
    writes_is_of c.args.project.now c.bring_own_device.new.self c.in_ok-device.ensures.is_of c.args.node
    c.bring.new.self (option_map offered_writes c.of-now.result) c.of-now.ensures
    c.in_ok-bring.ensures.ok c.in_ok-bring.ensures.fresh

pub returns-clause-brings : goal.returns-clause-brings
returns-clause-brings c =
    let p = c.args.project.now in
    let key = c.args.node in
    let first = c.bring_plan.new in
    let own = c.bring_own_device.new in
    both same_part (inputs_of p) (for_plan p ++ own_device p key) (part.Writes key ∷ []) (kept_inputs c.args.self.now)
    (kept_inputs own.self) _ c.args.meter.now own.meter c.bring.new.meter
    (both same_part (inputs_of p) (for_plan p) (own_device p key) (kept_inputs c.args.self.now) (kept_inputs first.self) (kept_inputs own.self)
    c.args.meter.now first.meter own.meter c.in_ok-plan.ensures.brings c.in_ok-device.ensures.brings)
    (writes_brought p own.self c.in_ok-device.ensures.is_of key c.bring.new.self
    (option_map offered_writes c.of-now.result) c.of-now.ensures c.in_ok-bring.ensures.ok c.in_ok-bring.ensures.fresh
    own.meter c.bring.new.meter c.in_ok-bring.ensures.counted)
