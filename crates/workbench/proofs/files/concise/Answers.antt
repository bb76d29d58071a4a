use Rattle.std.proofs.Common.{◌≡◌, ◌∙◌, Some, option_copied, ap, sym, rules}
use Rattle.workbench.proofs.KeptFiles.{concise_there, concise_now}
use Rattle.workbench.proofs.files.concise.Goals as goal

pub unreachable-requires : goal.unreachable-requires
unreachable-requires c =
    concise_there c.args.project.now c.args.node c.requires.node
    (ap option_copied (sym c.in_default.is) ∙ c.concise.ensures
    ∙ concise_now c.args.project.now c.refresh.new.self c.args.node
    c.in_ok-refresh.ensures.current)

pub returns-clause-file : goal.returns-clause-file
returns-clause-file c =
    let same : c.in_ok-bytes.bytes ≡ c.in-Some.kept.now = search rules in
    sym (concise_now c.args.project.now c.refresh.new.self c.args.node
    c.in_ok-refresh.ensures.current)
    ∙ sym c.in-Some.ensures ∙ ap Some (sym same)
