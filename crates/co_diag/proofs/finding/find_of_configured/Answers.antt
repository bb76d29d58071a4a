use Rattle.std.proofs.Common.{◌∙◌}
use Rattle.co_diag.proofs.TimeLemmas.{counters_found, heartbeats_found}
use Rattle.co_diag.proofs.finding.find_of_configured.Goals as goal

pub returns : goal.returns
returns c =
    heartbeats_found c.args.project.now c.deref-5.result.now c.find_other_counters.new.found.items
    c.args.found.now.items c.find_other_heartbeats.new.found.items
    (c.deref-5.ensures.value ∙ c.requires.times)
    (counters_found c.args.project.now c.deref-3.result.now c.deref.result.now c.deref-2.result.now
    c.deref-4.result.now c.args.found.now.items c.find_unfit_consumers.new.found.items c.find_shared.new.found.items
    c.find_other_counters.new.found.items
    (c.deref-3.ensures.value ∙ c.requires.identifiers)
    (c.deref.ensures.value ∙ c.requires.times)
    (c.deref-2.ensures.value ∙ c.requires.consumers)
    (c.deref-4.ensures.value ∙ c.requires.counters)
    c.in_ok-find_unfit_consumers.ensures c.in_ok-find_shared.ensures c.in_ok-find_other_counters.ensures)
    c.in_ok-find_other_heartbeats.ensures
