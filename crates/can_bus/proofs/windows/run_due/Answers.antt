use Rattle.std.proofs.Common.{◌≡◌, arith, length, rules, sym, ◌∙◌}
use Rattle.std.proofs.lemmas.List.{with_items_is}
use Rattle.can_bus.proofs.WindowLemmas.{events_laws, events_run_state, none_asked, none_state}
use Rattle.can_bus.specs.contracts.bus_state.BusState.{the_view}
use Rattle.can_bus.proofs.windows.run_due.Goals as goal

pub returns-then-is_empty-clause-ran : goal.returns-then-is_empty-clause-ran
returns-then-is_empty-clause-ran g c =
    let none = sym c.is_empty.ensures ∙ c.if-is_empty.true in
    rw (← c.bus.view_is) (record {
      state = none_state c.args.t (the_view c.bus.inside) c.due-steps.result.now c.due-steps.ensures.steps none
          (g.P.Asked.seen c.args.parts.now).image;
      asked = none_asked c.args.t (the_view c.bus.inside) c.due-steps.result.now c.due-steps.ensures.steps none _ _;
    })

pub returns-clause-ran : goal.returns-clause-ran
returns-clause-ran g c =
    let same : length c.run_events.new.devices ≡ c.into_vec-devices.result.len = omega arith in
    let ran = c.in_ok-run_events.ensures in
    record {
      state = rw (← c.bus.view_is, c.of.ensures, with_items_is c.into_vec-devices.result c.run_events.new.devices same)
          (events_run_state c.args.t (the_view c.bus.inside)
          (g.P.Asked.seen c.args.parts.now).image c.due-steps.result.now c.forget.new.self c.as_mut_slice.result.now
          c.run_events.new.devices c.run_events.new.manager
          c.due-steps.ensures.steps (c.as_mut_slice.ensures.value ∙ c.into_vec-devices.ensures
          ∙ c.replace.ensures.value) ran.devices ran.manager c.forget.ensures);
      asked = search (rules, events_laws);
    }
