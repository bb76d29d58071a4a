use Rattle.std.proofs.Common.{◌≡◌, ℕ, true, Bool, false, Some, None, sym, ◌∙◌, rules, arith, ◌&&◌, not}
use Rattle.cia301.specs.PdoObjects.{rpdo_object}
use Rattle.vendor_pdos.specs.Parameters.{is_open}
use Rattle.pdo_choices.specs.Rpdos.{may_take}
use Rattle.pdo_choices.specs.Taken.{had_in}
use Rattle.pdo_choices.proofs.LeastLemmas.{is_least_free, none_more}
use Rattle.pdo_choices.proofs.RpdoLemmas.{closed_none}
use Rattle.pdo_choices.proofs.rpdos.least_closed.Goals as goal

pub returns-then-not-may_be_closed : goal.returns-then-not-may_be_closed
returns-then-not-may_be_closed c =
    let device = c.args.device.now in
    let wish = c.args.wish.now in
    let had = had_in c.args.taken.now in
    let test : ℕ → Bool = λ number. not (is_open device (rpdo_object number))
    && may_take had device wish.linked.now wish.carried.now wish.identifier c.args.node number in
    let none : c.may_be_closed.result ≡ false = search rules in
    is_least_free test 1 512 None (λ k low below.
    closed_none had device wish.linked.now wish.carried.now wish.identifier c.args.node k
    (c.may_be_closed.ensures device k none c.requires.made low (omega arith)))

pub loop-number-preserved : goal.loop-number-preserved
loop-number-preserved c =
    let test : ℕ → Bool = λ number. not (is_open c.args.device.now (rpdo_object number))
    && may_take (had_in c.args.taken.now) c.args.device.now c.args.wish.now.linked.now c.args.wish.now.carried.now c.args.wish.now.identifier c.args.node number in
    let not_here : test c.loop-number.number ≡ false = sym c.may_take_closed.ensures ∙ c.if-may_take_closed.false in
    none_more test 1 c.loop-number.number c.loop-number.invariant not_here

pub returns-then-may_take_closed : goal.returns-then-may_take_closed
returns-then-may_take_closed c =
    let test : ℕ → Bool = λ number. not (is_open c.args.device.now (rpdo_object number))
    && may_take (had_in c.args.taken.now) c.args.device.now c.args.wish.now.linked.now c.args.wish.now.carried.now c.args.wish.now.identifier c.args.node number in
    let free : test c.loop-number.number ≡ true = search rules in
    is_least_free test 1 512 (Some c.loop-number.number) (omega arith, omega arith, free, c.loop-number.invariant)

pub returns : goal.returns
returns c =
    let test : ℕ → Bool = λ number. not (is_open c.args.device.now (rpdo_object number))
    && may_take (had_in c.args.taken.now) c.args.device.now c.args.wish.now.linked.now c.args.wish.now.carried.now c.args.wish.now.identifier c.args.node number in
    is_least_free test 1 512 None (λ k low below. c.loop-number.invariant k low (omega arith))
