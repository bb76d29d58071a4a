use Rattle.std.proofs.Common.{sym}
use Rattle.ini_text.proofs.TableLemmas.{name_stays, folded_at, put_at, back_at, nothing_at, on_ok, on_err}
use Rattle.ini_text.proofs.table.add_at.Goals as goal

pub returns-in-Some-clause-kept : goal.returns-in-Some-clause-kept
returns-in-Some-clause-kept c =
    folded_at c.args.sections.now.entries c.args.position c.in-Some.section.now c.add.new.self c.requires
    (sym c.in-Some.ensures.value)
    (name_stays c.add.result c.in-Some.section.now c.add.new.self c.args.key.now c.args.value.now c.add.ensures.ok
    c.add.ensures.err)

pub returns-in-Some-clause-ok : goal.returns-in-Some-clause-ok
returns-in-Some-clause-ok c =
    on_ok c.add.result c.add.ensures.ok (λ h. put_at c.args.sections.now.entries c.args.position c.in-Some.section.now
    c.add.new.self c.args.key.now c.args.value.now (sym c.in-Some.ensures.value) h)

pub returns-in-Some-clause-err : goal.returns-in-Some-clause-err
returns-in-Some-clause-err c =
    on_err c.add.result c.add.ensures.err (λ h. back_at c.args.sections.now.entries c.args.position
    c.in-Some.section.now c.add.new.self (sym c.in-Some.ensures.value) h)

pub returns-in-None-clause-ok : goal.returns-in-None-clause-ok
returns-in-None-clause-ok c =
    sym (nothing_at _ c.args.position c.args.key.now c.args.value.now (sym c.in-None.ensures.value))
