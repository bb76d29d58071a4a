use Rattle.std.proofs.Common.{◌≡◌, ℕ, List, ◌∷◌, ◌++◌, All, ap, sym, subst, ◌∙◌, rules}
use Rattle.std.specs.List.{flat_map}
use Rattle.std.proofs.lemmas.List.Elements.{All-head, All-tail}
use Rattle.project_edits.specs.Lines.{text_of}
use Rattle.project_messages.specs.declared.linked.Linked.{Linked}
use Rattle.project_messages.specs.Messages.{by_name, IsLinked}
use Rattle.project_script.specs.Script.{message_edits}
use Rattle.project_script.proofs.LineLemmas.{message_written}
use Rattle.project_script.proofs.script.write_messages.Goals as goal

abbrev OfLinked : List ℕ × Linked → Type 0
OfLinked e = IsLinked e.1

pub write_linked-requires : goal.write_linked-requires
write_linked-requires c =
    let m : List ℕ × Linked = (c.in-Some.name.now.items, c.in-Some.linked.now) in
    let left : by_name c.loop-name.name-iterator ≡ m ∷ by_name c.next.new.self = search rules in
    All-head OfLinked m (by_name c.next.new.self) (subst (All OfLinked) left c.loop-name.invariant.rest)

pub loop-name-preserved : goal.loop-name-preserved
loop-name-preserved c =
    let out = c.loop-name.out.items in
    let m : List ℕ × Linked = (c.in-Some.name.now.items, c.in-Some.linked.now) in
    let left : by_name c.loop-name.name-iterator ≡ m ∷ by_name c.next.new.self = search rules in
    record {
      whole =
          message_written out c.write_linked.new.out.items m (by_name c.next.new.self)
          (c.in_ok-write_linked.ensures
          ∙ ap (λ name. out ++ flat_map text_of (message_edits (name, m.1))) c.deref.ensures.value)
          ∙ ap (λ (ms : List (List ℕ × Linked)). out ++ flat_map text_of (flat_map message_edits ms)) (sym left)
          ∙ c.loop-name.invariant.whole;
      rest = All-tail OfLinked m (by_name c.next.new.self) (subst (All OfLinked) left c.loop-name.invariant.rest);
    }
