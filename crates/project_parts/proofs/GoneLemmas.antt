-- What a project doesn't have isn't to be made.
use Rattle.std.proofs.Common.{◌≡◌, ℕ, List, Option, Some, None, is_some, not, true, ap, option_map, option_and_then, refl}
use Rattle.project_edits.specs.Versions.{is_three}
use Rattle.co_project.specs.declared.node.Node.{Node}
use Rattle.co_project.specs.Project.{Content as Project}
use Rattle.co_project.specs.Tables.{node_at, text_at}
use Rattle.part_shelves.specs.SheetText.{sheet_text}
use Rattle.project_parts.specs.Given.{dcf_of_node, device_of_node, inputs_of, writes_of_node}
use Rattle.project_parts.specs.Given.{OfConcise, OfDcf, OfDevice, OfNode, OfWrites}
use Rattle.project_parts.specs.Gone.{is_gone}
use Rattle.project_parts.specs.Made.{writes_made}
use Rattle.project_parts.specs.declared.concise_from.ConciseFrom.{ConciseFrom}
use Rattle.project_parts.specs.declared.writes_from.WritesFrom.{WritesFrom}
use Rattle.project_parts.specs.declared.part.Part.{Part}
use Rattle.project_parts.specs.declared.part.Part.TheVariants as part

abbrev concise_by_writes : Option WritesFrom → Option ConciseFrom
concise_by_writes o = option_map (λ w. record { writes = writes_made w }) o

-- where there is no node, nothing of one is to be made
no_node : {X : Type 0} (make : Node → Option X) (o : Option Node) → not (is_some o) ≡ true
    → option_and_then make o ≡ None
no_node make None gone = refl
no_node make (Some node) gone = cc

module _ (p : Project) where
  pub given_none : (q : Part) → is_gone p q ≡ true → inputs_of p q ≡ None
  given_none (part.Device name) gone = by (text_at p.texts name) gone
    where
      by : (o : Option (List ℕ)) → not (is_some o) ≡ true
          → option_map OfDevice (option_map (sheet_text (is_three p.version)) o) ≡ None
      by None gone = refl
      by (Some text) gone = cc
  given_none part.Plan gone = cc
  given_none (part.Writes n) gone = ap (option_map OfWrites) (no_node (writes_of_node p n) (node_at p.nodes n) gone)
  given_none (part.Concise n) gone =
      ap (λ (o : Option WritesFrom). option_map OfConcise (concise_by_writes o))
      (no_node (writes_of_node p n) (node_at p.nodes n) gone)
  given_none (part.Dcf n) gone = ap (option_map OfDcf) (no_node (dcf_of_node p n) (node_at p.nodes n) gone)
  given_none part.Roster gone = cc
  given_none (part.Node n) gone = ap (option_map OfNode) (no_node (device_of_node p n) (node_at p.nodes n) gone)
  given_none (part.Window i) gone = cc
  given_none part.Diagnostics gone = cc
