use Rattle.std.proofs.Common.{◌≡◌, ℕ, sym, ◌∙◌, ap, refl, []}
use Rattle.std.specs.Global.{Vec}
use Rattle.std.specs.Map.{lookup, values_of}
use Rattle.std.specs.Str.{bytes_eq}
use Rattle.ini_text.specs.Content.{Section, lower_case}
use Rattle.ini_text.specs.Change.{put_in_section, change_or_add}
use Rattle.ini_text.specs.Content.{same}
use Rattle.ini_text.proofs.ChangeLemmas.{stays_folded, changed, added}
use Rattle.ini_text.proofs.TableLemmas.{on_ok, on_err, put_back, set_name_stays}
use Rattle.ini_text.proofs.table.set_in.Goals as goal

pub returns-in-Some-clause-kept : goal.returns-in-Some-clause-kept
returns-in-Some-clause-kept c =
    rw (c.get_mut.follows.holds c.set.new.self).0
    (stays_folded (λ (s : Section). s.name) c.args.name.now (lower_case c.args.name.now) refl
    c.args.sections.now.entries c.in-Some.section.now c.set.new.self c.requires (sym c.in-Some.ensures.value)
    (set_name_stays c.set.result c.in-Some.section.now c.set.new.self c.args.key.now c.args.value.now
    c.set.ensures.ok c.set.ensures.err))

pub returns-in-Some-clause-ok : goal.returns-in-Some-clause-ok
returns-in-Some-clause-ok c =
    let fresh : Section = record { name = c.args.name.now; pairs = [] } in
    on_ok c.set.result c.set.ensures.ok (λ h.
    ap values_of (c.get_mut.follows.holds c.set.new.self).0
    ∙ changed (λ (s : Section). s.name) c.args.name.now (lower_case c.args.name.now) refl
    (λ (s : Section). put_in_section s c.args.key.now c.args.value.now)
    (put_in_section fresh c.args.key.now c.args.value.now) c.args.sections.now.entries c.in-Some.section.now
    c.set.new.self c.requires (sym c.in-Some.ensures.value) h)

pub returns-in-Some-clause-err : goal.returns-in-Some-clause-err
returns-in-Some-clause-err c =
    on_err c.set.result c.set.ensures.err (λ h. ap values_of (c.get_mut.follows.holds c.set.new.self).0
    ∙ put_back (lower_case c.args.name.now) c.args.sections.now.entries c.in-Some.section.now c.set.new.self
    (sym c.in-Some.ensures.value) h)

pub returns-in_ok-insert-in-None-clause-kept : goal.returns-in_ok-insert-in-None-clause-kept
returns-in_ok-insert-in-None-clause-kept c =
    let x : c.set-in-None.new.self
    ≡ put_in_section (record { name = c.args.name.now; pairs = [] }) c.args.key.now c.args.value.now =
    c.in_ok-set-in-None.ensures.ok
    ∙ ap (λ s. put_in_section s c.args.key.now c.args.value.now) c.in_ok-section-in-None.ensures in
    let none = ap (λ n. lookup (λ (v : Vec ℕ). bytes_eq (lower_case n) v.items) c.args.sections.now.entries)
    (ap (λ (s : Section). s.name) x) ∙ sym c.in-None.ensures.value in
    rw c.in_ok-insert-in-None.ensures.entries
    (rw c.get_mut.follows.holds-at-none (added (λ (s : Section). s.name) c.in_ok-folded-in-None.folded
    c.set-in-None.new.self (c.in_ok-folded-in-None.ensures ∙ ap (λ (s : Section). lower_case s.name) (sym x))
    (λ s. s) c.args.sections.now.entries c.requires none).0)

pub returns-in_ok-insert-in-None-clause-ok : goal.returns-in_ok-insert-in-None-clause-ok
returns-in_ok-insert-in-None-clause-ok c =
    let x : c.set-in-None.new.self
    ≡ put_in_section (record { name = c.args.name.now; pairs = [] }) c.args.key.now c.args.value.now =
    c.in_ok-set-in-None.ensures.ok
    ∙ ap (λ s. put_in_section s c.args.key.now c.args.value.now) c.in_ok-section-in-None.ensures in
    let none = ap (λ n. lookup (λ (v : Vec ℕ). bytes_eq (lower_case n) v.items) c.args.sections.now.entries)
    (ap (λ (s : Section). s.name) x) ∙ sym c.in-None.ensures.value in
    ap values_of c.in_ok-insert-in-None.ensures.entries
    ∙ rw c.get_mut.follows.holds-at-none (added (λ (s : Section). s.name) c.in_ok-folded-in-None.folded
    c.set-in-None.new.self (c.in_ok-folded-in-None.ensures ∙ ap (λ (s : Section). lower_case s.name) (sym x))
    (λ (s : Section). put_in_section s c.args.key.now c.args.value.now) c.args.sections.now.entries c.requires
    none).1
    ∙ ap (λ (s : Section). change_or_add (λ t. same s.name t.name)
    (λ (t : Section). put_in_section t c.args.key.now c.args.value.now) s (values_of c.args.sections.now.entries)) x
