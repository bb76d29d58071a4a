use Rattle.std.proofs.Common.{◌≡◌, ℕ, List, Vec, Global, ap, ◌∙◌}
use Rattle.std.proofs.lemmas.List.Elements.{same_from_all_zip}
use Rattle.std.specs.FinMap.{from_entries}
use Rattle.std.specs.List.{AllZip}
use Rattle.std.specs.Vec.{vec_len}
use Rattle.project_messages.specs.Messages.{name_cmp}
use Rattle.project_messages.proofs.NameLemmas.{by_name_copied}
use Rattle.co_project.proofs.texts.Texts.copy.Goals as goal

-- names with the same bytes
abbrev AreCopies : Vec ℕ Global → Vec ℕ Global → Type 0
AreCopies k q = AllZip (λ (x y : ℕ). y ≡ x) k.items q.items × (vec_len q ≡ vec_len k)

pub returns : goal.returns
returns c =
    ap (from_entries {R = name_cmp})
    (by_name_copied AreCopies (λ (v w : List ℕ). w ≡ v)
    (λ k q h. same_from_all_zip (λ (x y : ℕ). y ≡ x) k.items q.items h.0 (λ x y e. e)) (λ v w e. e)
    c.self.inside.texts.entries c.in_ok-texts.texts.entries c.in_ok-texts.ensures.cases)
    ∙ c.self.view_is
