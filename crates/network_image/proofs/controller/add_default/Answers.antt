use Rattle.std.proofs.Common.{◌≡◌, OnOk, Option, List, ℕ, sym, ap, subst, ◌∙◌}
use Rattle.std.specs.FinMap.{insert}
use Rattle.std.specs.Option.{option_map_or}
use Rattle.network_image.proofs.ControllerLemmas.{left_beside, none_left}
use Rattle.network_image.proofs.controller.add_default.Goals as goal

pub returns-then-is_producer_time : goal.returns-then-is_producer_time
returns-then-is_producer_time c =
    let place : ℕ × ℕ = (c.args.index, c.args.sub) in
    sym (ap (λ (o : Option (List ℕ)). option_map_or (insert c.args.values.now place) o c.args.values.now)
    (none_left c.args.defaults.now place (sym c.is_producer_time.ensures ∙ c.if-is_producer_time.true)))

pub returns-in-Some : goal.returns-in-Some
returns-in-Some c =
    let place : ℕ × ℕ = (c.args.index, c.args.sub) in
    subst (λ (o : Option (List ℕ)). OnOk c.write.result
    (c.write.new.self ≡ option_map_or (insert c.args.values.now place) o c.args.values.now))
    (c.in-Some.ensures.value
    ∙ sym (left_beside c.args.defaults.now place (sym c.is_producer_time.ensures ∙ c.if-is_producer_time.false)))
    c.write.ensures.ok

pub returns-in-None : goal.returns-in-None
returns-in-None c =
    let place : ℕ × ℕ = (c.args.index, c.args.sub) in
    ap (λ (o : Option (List ℕ)). option_map_or (insert c.args.values.now place) o c.args.values.now)
    (c.in-None.ensures.value
    ∙ sym (left_beside c.args.defaults.now place (sym c.is_producer_time.ensures ∙ c.if-is_producer_time.false)))
