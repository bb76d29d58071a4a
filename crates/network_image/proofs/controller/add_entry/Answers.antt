use Rattle.std.proofs.Common.{◌≡◌, OnOk, Option, ℕ, sym, ap, subst, ◌∙◌}
use Rattle.std.specs.FinMap.{insert}
use Rattle.std.specs.Option.{option_map_or}
use Rattle.co_dict.specs.Shapes.{Shaped}
use Rattle.co_dict.specs.declared.entry.Entry.{Entry}
use Rattle.network_image.proofs.ControllerLemmas.{left_beside, none_left}
use Rattle.network_image.proofs.controller.add_entry.Goals as goal

abbrev with_entry : Shaped → ℕ × ℕ → Option Entry → Shaped
with_entry held place o = record held { entries = option_map_or (insert held.entries place) o held.entries }

pub returns-then-is_producer_time : goal.returns-then-is_producer_time
returns-then-is_producer_time c =
    let place : ℕ × ℕ = (c.args.index, c.args.sub) in
    sym (ap (with_entry c.args.held.now place)
    (none_left c.args.shape.now.entries place (sym c.is_producer_time.ensures ∙ c.if-is_producer_time.true)))

pub returns-in-Some : goal.returns-in-Some
returns-in-Some c =
    let place : ℕ × ℕ = (c.args.index, c.args.sub) in
    subst (λ (o : Option Entry). OnOk c.insert.result (c.insert.new.self ≡ with_entry c.args.held.now place o))
    (c.in-Some.ensures
    ∙ sym (left_beside c.args.shape.now.entries place (sym c.is_producer_time.ensures ∙ c.if-is_producer_time.false)))
    c.insert.ensures.ok

pub returns-in-None : goal.returns-in-None
returns-in-None c =
    let place : ℕ × ℕ = (c.args.index, c.args.sub) in
    ap (with_entry c.args.held.now place)
    (c.in-None.ensures
    ∙ sym (left_beside c.args.shape.now.entries place (sym c.is_producer_time.ensures ∙ c.if-is_producer_time.false)))
