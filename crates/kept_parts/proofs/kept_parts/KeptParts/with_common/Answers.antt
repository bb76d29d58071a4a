use Rattle.std.proofs.Common.{◌≡◌, Option, Some, ap, ◌∙◌, rules}
use Rattle.project_parts.specs.Given.{device_from}
use Rattle.kept_parts.proofs.SimulationLemmas.{common_or}
use Rattle.kept_parts.proofs.kept_parts.KeptParts.with_common.Goals as goal

pub returns-clause-value : goal.returns-clause-value
returns-clause-value c =
    let from : Some c.in-Some-now.now ≡ device_from c.args.project.now c.args.node = search rules in
    ap Some c.with_device.ensures
    ∙ common_or c.args.project.now c.args.node c.in-Some.known.now c.as_slice-name.result.now c.in_ok-found.found
    c.in-Some-now.now c.in-Some.ensures.node c.as_slice-name.ensures c.in_ok-found.ensures.value from
