use Rattle.std.proofs.Common.{◌≡◌, ℕ, sym, ◌∙◌, ap, refl, is_some, ◌++◌, ◌∷◌, []}
use Rattle.std.specs.Global.{Vec}
use Rattle.std.specs.Map.{keys_of, values_of}
use Rattle.std.specs.Str.{bytes_eq}
use Rattle.ini_text.specs.Content.{Section, lower_case}
use Rattle.ini_text.proofs.KeyedLemmas.{has_folded, position_folded, position_is, inserted}
use Rattle.ini_text.proofs.table.open.Goals as goal

pub returns-in-Some-clause-position : goal.returns-in-Some-clause-position
returns-in-Some-clause-position c =
    sym (position_is (λ (v : Vec ℕ). bytes_eq (lower_case c.args.name.now) v.items)
    (keys_of c.args.sections.now.entries) c.in-Some.position (sym c.in-Some.ensures.index))
    ∙ position_folded (λ (s : Section). s.name) c.args.name.now (lower_case c.args.name.now) refl
    c.args.sections.now.entries c.requires

pub returns-in-Some-clause-ok : goal.returns-in-Some-clause-ok
returns-in-Some-clause-ok c =
    let there =
    sym (has_folded (λ (s : Section). s.name) c.args.name.now (lower_case c.args.name.now) refl
    c.args.sections.now.entries c.requires) ∙ sym c.in-Some.ensures.found in
    rw there refl

pub returns-clause-kept : goal.returns-clause-kept
returns-clause-kept c =
    let absent =
    sym (has_folded (λ (s : Section). s.name) c.args.name.now (lower_case c.args.name.now) refl
    c.args.sections.now.entries c.requires) ∙ sym c.get_index_of.ensures.found ∙ ap is_some c.in_default.is in
    let n : c.in_ok-section.section.name ≡ c.args.name.now = ap (λ s. s.name) c.in_ok-section.ensures in
    rw c.in_ok-position.ensures.entries (inserted (λ (s : Section). s.name) c.in_ok-folded.folded
    c.in_ok-section.section (c.in_ok-folded.ensures
    ∙ ap lower_case (sym n)) c.args.sections.now.entries c.requires (rw n absent)).0

pub returns-clause-position : goal.returns-clause-position
returns-clause-position c =
    c.in_ok-position.ensures.index
    ∙ position_folded (λ (s : Section). s.name) c.args.name.now c.in_ok-folded.folded.items c.in_ok-folded.ensures
    c.args.sections.now.entries c.requires

pub returns-clause-ok : goal.returns-clause-ok
returns-clause-ok c =
    let absent =
    sym (has_folded (λ (s : Section). s.name) c.args.name.now (lower_case c.args.name.now) refl
    c.args.sections.now.entries c.requires) ∙ sym c.get_index_of.ensures.found ∙ ap is_some c.in_default.is in
    let n : c.in_ok-section.section.name ≡ c.args.name.now = ap (λ s. s.name) c.in_ok-section.ensures in
    let both = inserted (λ (s : Section). s.name) c.in_ok-folded.folded c.in_ok-section.section (c.in_ok-folded.ensures
    ∙ ap lower_case (sym n)) c.args.sections.now.entries c.requires (rw n absent) in
    rw absent (ap values_of c.in_ok-position.ensures.entries ∙ both.1
    ∙ ap (λ s. values_of c.args.sections.now.entries ++ s ∷ []) c.in_ok-section.ensures)
