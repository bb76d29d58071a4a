use Rattle.std.proofs.Common.{◌∙◌}
use Rattle.project_parts.proofs.dcf_now.DcfNow.text.Goals as goal

pub dcf_text_by-requires : goal.dcf_text_by-requires
dcf_text_by-requires c = c.get.ensures ∙ c.args.self.now.of_device c.in-Some.template c.in-Some.is
