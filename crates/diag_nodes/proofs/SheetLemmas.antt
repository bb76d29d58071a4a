-- What is found of a node by its data sheet.
use Rattle.std.proofs.Common.{◌≡◌, ℕ, List, ◌++◌, filter_map, sym, ap, ◌∙◌}
use Rattle.std.proofs.Common.{append_assoc}
use Rattle.std.specs.FinMap.{entries}
use Rattle.eds_device.specs.Sheets.{Sheet}
use Rattle.project_plan.specs.Doubtful.{doubtful_places}
use Rattle.project_plan.specs.GivenParameters.{given_places}
use Rattle.project_plan.specs.Network.{Member}
use Rattle.diag_lines.specs.declared.diag.Diag.{Diag}
use Rattle.project_plan.specs.declared.sheet_entries.SheetEntries.{SheetEntries}
use Rattle.project_plan.specs.Sheets.{AreEntriesOf}
use Rattle.diag_nodes.specs.Found.{parameter_diagnostic, unreadable_default, unreadable_defaults}
use Rattle.diag_nodes.specs.Sheets.{faults_of_node}
use Rattle.diag_nodes.proofs.DoubtLemmas.{doubts_suffice}

-- what is found one after the other at the entries that a data sheet gives a parameter
pub faults_by : (e : ℕ × Member) (sheet : Sheet) (looked_at : SheetEntries) (given : List (ℕ × ℕ))
    (found own all : List Diag) → AreEntriesOf sheet looked_at → e.1.sheet ≡ sheet → given ≡ looked_at.given.items
    → own ≡ found ++ filter_map (λ own. parameter_diagnostic e own.0) (entries e.1.node.params)
    → all ≡ own ++ filter_map (parameter_diagnostic e) given → all ≡ found ++ faults_of_node e
unfolding faults_of_node
faults_by e sheet looked_at given found own all is same is_given first second =
    second
    ∙ ap (λ (ds : List Diag). own ++ ds) (ap (filter_map (parameter_diagnostic e))
    (is_given ∙ is.given ∙ ap (λ (s : Sheet). given_places s.sections) (sym same)))
    ∙ ap (λ (ds : List Diag). ds ++ filter_map (parameter_diagnostic e) (given_places e.1.sheet.sections)) first
    ∙ append_assoc found (filter_map (λ own. parameter_diagnostic e own.0) (entries e.1.node.params))
    (filter_map (parameter_diagnostic e) (given_places e.1.sheet.sections))

-- at those whose default is doubtful
pub defaults_by : (e : ℕ × Member) (sheet : Sheet) (looked_at : SheetEntries) (doubtful : List (ℕ × ℕ))
    (found all : List Diag) → AreEntriesOf sheet looked_at → e.1.sheet ≡ sheet → doubtful ≡ looked_at.doubtful.items
    → all ≡ found ++ filter_map (unreadable_default e) doubtful → all ≡ found ++ unreadable_defaults e
defaults_by e sheet looked_at doubtful found all is same is_doubtful now =
    now
    ∙ ap (λ (ds : List Diag). found ++ ds) (ap (filter_map (unreadable_default e))
    (is_doubtful ∙ is.doubtful ∙ ap doubtful_places (sym same)) ∙ doubts_suffice e)
