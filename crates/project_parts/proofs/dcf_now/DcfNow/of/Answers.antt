use Rattle.project_parts.proofs.dcf_now.DcfNow.of.Goals as goal

pub invariant_of-result : goal.invariant_of-result
invariant_of-result c = record { of_device = λ t is. cc }
