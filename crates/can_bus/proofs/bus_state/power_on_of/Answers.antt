use Rattle.std.proofs.Common.{◌≡◌, ap, arith, length, rules, ◌∙◌}
use Rattle.std.proofs.lemmas.List.{with_items_is}
use Rattle.can_bus.specs.Bus.{without_power}
use Rattle.can_bus.proofs.PowerLemmas.{power_on_laws, switched_on_is}
use Rattle.can_bus.proofs.bus_state.power_on_of.Goals as goal

pub returns-clause-ran : goal.returns-clause-ran
returns-clause-ran g c =
    let same : length c.power_all.new.devices ≡ c.in_ok-devices.devices.len = omega arith in
    record {
      state = rw (c.of.ensures, with_items_is c.in_ok-devices.devices c.power_all.new.devices same, c.none.ensures)
          (switched_on_is c.args.roster.now (g.P.Asked.seen c.args.parts.now).image c.bit_time.result
          c.as_mut_slice.result.now c.power_all.new.devices c.in_ok-manager.manager
          c.bit_time.ensures.time (c.as_mut_slice.ensures.value ∙ c.in_ok-devices.ensures
          ∙ ap without_power c.as_slice.ensures) c.in_ok-power_all.ensures.ran.state c.in_ok-manager.ensures);
      asked = search (rules, power_on_laws);
    }
