use Rattle.std.proofs.Common.{◌≡◌, ◌∙◌, ℕ, [], ◌∷◌, rules, sym}
use Rattle.base.proofs.TableLemmas.{made_put}
use Rattle.co_scenario.proofs.BetweenLemmas.{all_there, moments_exact, moments_total, one_passed, one_put}
use Rattle.co_scenario.specs.declared.timed_event.TimedEvent.{TimedEvent}
use Rattle.co_scenario.proofs.between.gather.Goals as goal

pub loop-number-preserved-in_ok-insert : goal.loop-number-preserved-in_ok-insert
loop-number-preserved-in_ok-insert c =
    let e : ℕ × TimedEvent = (c.in-Some.number.now, c.in-Some.event.now) in
    let left : c.loop-number.number-iterator ≡ e ∷ c.next.new.self = c.in-Some.ensures.steps in
    one_put c.args.first c.args.last e _ _ _ _ left (sym c.if-lies_between.ensures)
    (made_put moments_total moments_exact _ _ (e.1.time, e.0) tt c.in_ok-insert.ensures.updates.0)
    ∙ c.loop-number.invariant

pub loop-number-preserved : goal.loop-number-preserved
loop-number-preserved c =
    let e : ℕ × TimedEvent = (c.in-Some.number.now, c.in-Some.event.now) in
    let left : c.loop-number.number-iterator ≡ e ∷ c.next.new.self = c.in-Some.ensures.steps in
    one_passed c.args.first c.args.last e _ _ _ left (sym c.if-lies_between.ensures) ∙ c.loop-number.invariant

pub returns : goal.returns
returns c =
    let none : c.loop-number.number-iterator ≡ [] = search rules in
    all_there c.args.first c.args.last c.args.script.now _ _ none c.loop-number.invariant
