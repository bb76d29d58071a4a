use Rattle.std.proofs.Common.{[], ◌∷◌, ◌++◌, option_map, sym, ap, subst, ◌∙◌}
use Rattle.kept_values.specs.Shelved.{kept_at, Shelved}
use Rattle.kept_values.specs.Stale.{AreBrought}
use Rattle.kept_values.proofs.Brought.{both, refreshes_none}
use Rattle.kept_parts.specs.Kept.{kept_inputs, IsOf}
use Rattle.project_parts.specs.Given.{inputs_of, same_part}
use Rattle.project_parts.specs.Reached.{for_own, own_device}
use Rattle.project_parts.specs.declared.device_at.DeviceAt.{DeviceAt}
use Rattle.project_parts.specs.declared.part.Part.TheVariants as part
use Rattle.kept_parts.specs.declared.kept_parts.KeptParts.{KeptParts}
use Rattle.kept_parts.proofs.KindLemmas.{node_brought, node_is_of, node_now}
use Rattle.kept_parts.proofs.SimulationLemmas.{built, offered_is, other_kept, settled_kept, with_nodes}
use Rattle.kept_parts.proofs.kept_parts.KeptParts.bring_device_parts.Goals as goal

pub settle-requires : goal.settle-requires
settle-requires c = λ unmarked.
    node_now c.args.project.now c.bring_numbered.new.self c.in_ok-now.ensures.is_of c.args.node unmarked
    ∙ sym (offered_is c.in_ok-now.now _ c.in_ok-now.ensures.value)

-- ---- what is kept is of this device

pub returns-then-settle-clause-is_of : goal.returns-then-settle-clause-is_of
returns-then-settle-clause-is_of c =
    let first = c.bring_numbered.new.self in
    let now = option_map (λ d. d) c.in_ok-now.now in
    node_is_of c.args.project.now first c.in_ok-now.ensures.is_of c.args.node c.settle.new.self now
    (offered_is c.in_ok-now.now _ c.in_ok-now.ensures.value)
    (settled_kept c.args.node now first.nodes c.settle.new.self c.settle.ensures.kept
    (c.settle.ensures.same.0 c.if-settle.true))
    (c.settle.ensures.fresh c.if-settle.true)

pub returns-then-settle-clause-brings : goal.returns-then-settle-clause-brings
returns-then-settle-clause-brings c =
    let p = c.args.project.now in
    let key = c.args.node in
    let first = c.bring_numbered.new in
    let now = option_map (λ d. d) c.in_ok-now.now in
    let current = c.settle.ensures.same.0 c.if-settle.true in
    both same_part (inputs_of p) (for_own p key ++ own_device p key) (part.Node key ∷ []) (kept_inputs c.args.self.now)
    (kept_inputs first.self) _ c.args.meter.now first.meter first.meter c.in_ok-now.ensures.brings
    (node_brought p first.self c.in_ok-now.ensures.is_of key c.settle.new.self now
    (offered_is c.in_ok-now.now _ c.in_ok-now.ensures.value)
    (settled_kept key now first.self.nodes c.settle.new.self c.settle.ensures.kept current)
    (c.settle.ensures.fresh c.if-settle.true) first.meter first.meter
    (refreshes_none (kept_at first.self.nodes key) now first.meter current))

-- ---- or of another one

pub with_common-requires-clause-is_of : goal.with_common-requires-clause-is_of
with_common-requires-clause-is_of c =
    subst (λ (s : Shelved DeviceAt). IsOf c.args.project.now (with_nodes c.bring_numbered.new.self s))
    (sym (c.settle.ensures.stale c.if-settle.false)) c.in_ok-now.ensures.is_of

pub returns-in_err-now-2-clause-is_of : goal.returns-in_err-now-2-clause-is_of
returns-in_err-now-2-clause-is_of c =
    subst (IsOf c.args.project.now)
    (sym (c.with_common.ensures.same
    ∙ ap (with_nodes c.bring_numbered.new.self) (c.settle.ensures.stale c.if-settle.false)))
    c.in_ok-now.ensures.is_of

pub returns-clause-is_of : goal.returns-clause-is_of
returns-clause-is_of c =
    let p = c.args.project.now in
    let last = c.with_common.new.self in
    let same = c.with_common.ensures.same
    ∙ ap (with_nodes c.bring_numbered.new.self) (c.settle.ensures.stale c.if-settle.false) in
    node_is_of p last (subst (IsOf p) (sym same) c.in_ok-now.ensures.is_of) c.args.node c.build.new.self
    (option_map (λ d. d) c.in_ok-now-2.now) (offered_is c.in_ok-now-2.now _ c.in_ok-now-2.ensures.value)
    c.in_ok-build.ensures.ok c.in_ok-build.ensures.fresh

pub returns-clause-brings : goal.returns-clause-brings
returns-clause-brings c =
    let p = c.args.project.now in
    let key = c.args.node in
    let first = c.bring_numbered.new in
    let last = c.with_common.new.self in
    let n = c.build.new.meter in
    let settled = c.settle.ensures.stale c.if-settle.false in
    let same = c.with_common.ensures.same ∙ ap (with_nodes first.self) settled in
    let now = option_map (λ d. d) c.in_ok-now-2.now in
    let is = offered_is c.in_ok-now-2.now _ c.in_ok-now-2.ensures.value in
    let old = offered_is c.in_ok-now.now _ c.in_ok-now.ensures.value in
    let stale = other_kept (kept_at first.self.nodes key) (kept_at last.nodes key) _ _ c.settle.result old
    c.settle.ensures.same.1 c.if-settle.false (ap (λ (k : KeptParts). kept_at k.nodes key) same) in
    both same_part (inputs_of p) (for_own p key ++ own_device p key) (part.Node key ∷ []) (kept_inputs c.args.self.now)
    (kept_inputs first.self) _ c.args.meter.now first.meter n c.in_ok-now.ensures.brings
    (subst (λ (k : KeptParts). AreBrought same_part (inputs_of p) (part.Node key ∷ []) (kept_inputs k)
    (kept_inputs (with_nodes last c.build.new.self)) first.meter n)
    same
    (node_brought p last (subst (IsOf p) (sym same) c.in_ok-now.ensures.is_of) key c.build.new.self now is
    c.in_ok-build.ensures.ok c.in_ok-build.ensures.fresh first.meter n
    (built p key (kept_at last.nodes key) c.in_ok-now-2.now first.meter n is stale c.in_ok-build.ensures.counted
    c.in_ok-build.ensures.nothing_built c.build.ensures.rises)))
