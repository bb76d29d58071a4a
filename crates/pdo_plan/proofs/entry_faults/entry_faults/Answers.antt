use Rattle.std.proofs.Common.{◌||◌, not, ap, ◌∙◌}
use Rattle.std.specs.List.{list_any}
use Rattle.pdo_plan.proofs.CarriedLemmas.{sendable_same}
use Rattle.pdo_stations.specs.Stations.{devices_in}
use Rattle.pdo_plan.proofs.entry_faults.entry_faults.Goals as goal

pub returns-clause-unmappable : goal.returns-clause-unmappable
returns-clause-unmappable c =
    let linked = c.args.linked.now in
    let sources = c.has_unsendable.ensures ∙ ap (list_any (λ s. not s.sendable)) c.requires
    ∙ sendable_same (devices_in c.args.stations.now) linked.message.node linked.sources in
    c.and.ensures.unmappable ∙ (λ i. sources i || c.all_sink_faults.ensures.unmappable i)

pub returns-clause-mismatched : goal.returns-clause-mismatched
returns-clause-mismatched c = c.and.ensures.mismatched ∙ c.all_sink_faults.ensures.mismatched
