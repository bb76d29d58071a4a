use Rattle.std.proofs.Common.{◌≡◌, ℕ, ◌∷◌, Option, true, ap, ◌∙◌, rules}
use Rattle.std.specs.Option.{option_map_or}
use Rattle.pdo_stations.specs.declared.carried.Carried.{Carried}
use Rattle.pdo_plan.specs.Carried.{is_untakable, mismatches}
use Rattle.pdo_plan.specs.Mapping.{misfit}
use Rattle.pdo_stations.specs.Devices.{type_at, width_at}
use Rattle.pdo_stations.specs.Stations.{devices_in}
use Rattle.pdo_plan.proofs.AnyLemmas.{any_noted}
use Rattle.pdo_plan.proofs.entry_faults.all_sink_faults.Goals as goal

pub sinks-preserved : goal.sinks-preserved
sinks-preserved c =
    let devices = devices_in c.args.stations.now in
    let sink : (ℕ × ℕ) × (ℕ × ℕ) = (c.in-Some.seat.now, c.in-Some.place.now) in
    let first : c.sinks.seat-iterator ≡ sink ∷ c.next.new.self = search rules in
    let differs = ap (λ (o : Option Carried). option_map_or (λ (s : Carried). misfit s.bits s.kind
    (width_at devices c.in-Some.seat.now.1 c.in-Some.place.now)
    (type_at devices c.in-Some.seat.now.1 c.in-Some.place.now)) o true) c.source_at-source.ensures in
    record {
      source = c.source_at-source.ensures;
      unmappable = any_noted (is_untakable devices c.args.sender) c.sinks.found.unmappable
          c.sink_faults.result.unmappable c.and-found.result.unmappable c.args.sinks.now c.sinks.seat-iterator
          c.next.new.self sink first (c.sink_faults.ensures.unmappable c.in-Some.seat.now.0)
          c.and-found.ensures.unmappable c.sinks.invariant.unmappable;
      mismatched = any_noted (mismatches devices c.args.carried.now) c.sinks.found.mismatched
          c.sink_faults.result.mismatched c.and-found.result.mismatched c.args.sinks.now c.sinks.seat-iterator
          c.next.new.self sink first (c.sink_faults.ensures.mismatched ∙ differs)
          c.and-found.ensures.mismatched c.sinks.invariant.mismatched;
    }
