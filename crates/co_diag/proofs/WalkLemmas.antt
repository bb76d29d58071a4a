-- What walks over tables find.
use Rattle.std.proofs.Common.{◌≡◌, ℕ, List, [], ◌∷◌, ◌++◌, filter_map, Option, Some, None, refl, sym, ap, Ok}
use Rattle.std.proofs.Common.{append_assoc, ◌∙◌}
use Rattle.std.specs.Prelude.{option_map}
use Rattle.std.specs.FinMap.{entries, get}
use Rattle.std.specs.List.{All, cons_option, flat_map}
use Rattle.std.specs.Option.{option_map_or}
use Rattle.std.proofs.lemmas.Cmp.{nat_list_cmp_total}
use Rattle.std.proofs.lemmas.List.Elements.{All-head, All-tail, All-weaker}
use Rattle.std.proofs.lemmas.Map.Lookups.{exact_bytes}
use Rattle.ini_text.specs.Content.{content_of}
use Rattle.base.proofs.EachLemmas.{all_entries, each_there}
use Rattle.co_project.specs.declared.node.Node.{Node}
use Rattle.project_edits.specs.Eds.{IsEds}
use Rattle.project_edits.specs.Versions.{is_three}
use Rattle.eds_device.specs.Faults.{device_of}
use Rattle.eds_device.specs.Sheets.{Sheet, sheet_of}
use Rattle.co_project.specs.Project.{Content}
use Rattle.co_project.specs.Sound.{AreTexts, IsSound}
use Rattle.co_project.specs.Tables.{text_at}
use Rattle.project_plan.specs.Network.{device_at, member_of}
use Rattle.co_diag.specs.Lines.{lines_at}
use Rattle.diag_nodes.specs.Devices.{of_node}
use Rattle.pdo_plan.specs.declared.planned_message.PlannedMessage.{PlannedMessage}
use Rattle.pdo_stations.specs.declared.as_made.AsMade.{AsMade}
use Rattle.pdo_stations.specs.Devices.{as_made}
use Rattle.diag_lines.specs.declared.diag.Diag.{Diag}
use Rattle.co_diag.specs.Found.{lines_of, node_findings, pdo_findings, skipped_lines}

-- ---- walks

-- one more element of a walk that finds at most one thing of each
pub walk_given : {X Y : Type 0} (f : X → Option Y) (old found more : List Y) (x : X) (rest left : List X)
    → left ≡ x ∷ rest → more ≡ found ++ cons_option (f x) []
    → found ++ filter_map f left ≡ old → more ++ filter_map f rest ≡ old
walk_given {X} {Y} f old found more x rest left is now so_far =
    ap (λ ys. ys ++ filter_map f rest) now ∙ append_assoc found (cons_option (f x) []) (filter_map f rest)
    ∙ ap (λ ys. found ++ ys) (joined (f x) (filter_map f rest)) ∙ ap (λ xs. found ++ filter_map f xs) (sym is)
    ∙ so_far
  where
    joined : (o : Option Y) (ys : List Y) → cons_option o [] ++ ys ≡ cons_option o ys
    joined None ys = refl
    joined (Some y) ys = refl

-- what is found in three steps
pub three_found : (old one two three a b c : List Diag) → one ≡ old ++ a → two ≡ one ++ b → three ≡ two ++ c
    → three ≡ old ++ (a ++ b ++ c)
three_found old one two three a b c first second third =
    third
    ∙ ap (λ (ds : List Diag). ds ++ c) (second ∙ ap (λ (ds : List Diag). ds ++ b) first ∙ append_assoc old a b)
    ∙ append_assoc old (a ++ b) c

-- ---- texts

module _ (p : Content) where
  -- each text is that of its name
  lines_among : (es : List (List ℕ × List ℕ)) → All (λ e. text_at p.texts e.0 ≡ Some e.1) es
      → flat_map skipped_lines es ≡ flat_map (λ e. lines_at p e.0) es
  unfolding skipped_lines
  lines_among [] all = refl
  lines_among (e ∷ es) all =
      let here : text_at p.texts e.0 ≡ Some e.1 = All-head (λ e. text_at p.texts e.0 ≡ Some e.1) e es all in
      ap (λ ds. ds ++ flat_map skipped_lines es)
      (sym (ap (λ o. option_map_or (λ (sheet : Sheet). lines_of e.0 sheet.warnings)
      (option_map (sheet_of (is_three p.version)) o) []) here))
      ∙ ap (λ ds. lines_at p e.0 ++ ds) (lines_among es (All-tail (λ e. text_at p.texts e.0 ≡ Some e.1) e es all))

  -- and that of a device
  pub texts_there : All (λ e. text_at p.texts e.0 ≡ Some e.1) (entries p.texts)
  texts_there = all_entries nat_list_cmp_total exact_bytes (λ k v. get p.texts k ≡ Some v) p.texts (each_there p.texts)

  pub texts_of_devices : IsSound p → All (λ e. device_of e.1 ≡ Ok (content_of e.1)) (entries p.texts)
  unfolding AreTexts
  texts_of_devices sound =
      All-weaker (λ e. IsEds e.0 e.1) (λ e. device_of e.1 ≡ Ok (content_of e.1)) (λ e h. h.device) (entries p.texts)
      (all_entries nat_list_cmp_total exact_bytes IsEds p.texts sound.texts.1)

  pub all_lines : flat_map (λ e. lines_at p e.0) (entries p.texts) ≡ flat_map skipped_lines (entries p.texts)
  all_lines = sym (lines_among (entries p.texts) texts_there)

-- ---- nodes

-- what is found of a device as it was made is that of its node
pub found_made : (plan : List PlannedMessage) (p : Content) (e : ℕ × Node) (device : Sheet) (made : AsMade)
    (old new : List Diag) → device_at p e.1.eds ≡ Some device → made ≡ as_made device e.0
    → new ≡ old ++ pdo_findings plan made e.0 → new ≡ old ++ of_node (node_findings plan) p e
found_made plan p e device made old new there is now =
    now ∙ ap (λ m. old ++ pdo_findings plan m e.0) is
    ∙ sym (ap (λ o. old ++ option_map_or (λ d. node_findings plan (member_of e.0 e.1 d)) o []) there)
