use Rattle.std.proofs.Common.{◌≡◌, ℕ, Vec, Global, ap, sym, subst, ◌∙◌}
use Rattle.std.proofs.lemmas.List.Elements.{same_from_all_zip}
use Rattle.std.specs.FinMap.{from_entries}
use Rattle.std.specs.List.{AllZip}
use Rattle.std.specs.Vec.{vec_len}
use Rattle.project_messages.specs.declared.linked.Linked.{Linked}
use Rattle.project_messages.specs.Messages.{name_cmp, AreMessages}
use Rattle.project_messages.proofs.NameLemmas.{by_name_copied}
use Rattle.project_messages.proofs.messages.Messages.copy.Goals as goal

-- names with the same bytes
abbrev AreCopies : Vec ℕ Global → Vec ℕ Global → Type 0
AreCopies k q = AllZip (λ (x y : ℕ). y ≡ x) k.items q.items × (vec_len q ≡ vec_len k)

pub returns : goal.returns
returns c =
    ap (from_entries {R = name_cmp})
    (by_name_copied AreCopies (λ (v w : Linked). w ≡ v)
    (λ k q h. same_from_all_zip (λ (x y : ℕ). y ≡ x) k.items q.items h.0 (λ x y e. e)) (λ v w e. e)
    c.self.inside.linked.entries c.in_ok-linked.linked.entries c.in_ok-linked.ensures.cases)
    ∙ c.self.view_is

pub invariant_of-result : goal.invariant_of-result
invariant_of-result c = subst AreMessages (c.self.view_is ∙ sym (returns c)) c.self.invariant
