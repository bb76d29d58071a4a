use Rattle.std.proofs.Common.{◌≡◌, ◌∙◌, Some, option_copied, ap, sym, rules}
use Rattle.workbench.proofs.KeptFiles.{dcf_there, dcf_now}
use Rattle.workbench.proofs.files.dcf.Goals as goal

pub unreachable-requires : goal.unreachable-requires
unreachable-requires c =
    dcf_there c.args.project.now c.args.node c.requires.node
    (ap option_copied (sym c.in_default.is) ∙ c.dcf.ensures
    ∙ dcf_now c.args.project.now c.refresh.new.self c.args.node
    c.in_ok-refresh.ensures.current)

pub returns-clause-file : goal.returns-clause-file
returns-clause-file c =
    let same : c.in_ok-text.text ≡ c.in-Some.kept.now = search rules in
    sym (dcf_now c.args.project.now c.refresh.new.self c.args.node
    c.in_ok-refresh.ensures.current)
    ∙ sym c.in-Some.ensures ∙ ap Some (sym same)
