use Rattle.std.proofs.Common.{ap, option_map}
use Rattle.project_parts.specs.Offered.{offered_dcf}
use Rattle.project_parts.proofs.dcf_now.DcfNow.with_template.Goals as goal

pub invariant_of-result : goal.invariant_of-result
invariant_of-result c = record {
  of_device = λ t is. c.requires t (offered_dcf c.in_ok-now.now) is (ap (option_map offered_dcf) c.in_ok-now.was);
}
