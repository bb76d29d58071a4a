-- What is kept of a node after a refresh.
use Rattle.std.proofs.Common.{◌≡◌, ℕ, List, true, Option, Some, None, is_some, option_map, option_and_then}
use Rattle.std.proofs.Common.{refl, ap, ◌∙◌}
use Rattle.std.specs.FinMap.{contains_key}
use Rattle.eds_device.specs.Sheets.{sheet_of, Sheet}
use Rattle.kept_values.specs.Shelved.{kept_at}
use Rattle.kept_values.proofs.Brought.{option_map_back}
use Rattle.project_edits.specs.Versions.{is_three}
use Rattle.co_project.specs.declared.node.Node.{Node}
use Rattle.co_project.specs.Project.{Content}
use Rattle.co_project.specs.Tables.{node_at, text_at}
use Rattle.project_plan.specs.Network.{member_at, plan_of_project, with_sheet, writes_of, Member}
use Rattle.ini_text.specs.Change.{text_of}
use Rattle.concise_dcf.specs.Concise.{text_of as concise_text}
use Rattle.eds_dcf.specs.Dcf.{dcf_sections}
use Rattle.kept_parts.specs.Kept.{kept_inputs}
use Rattle.project_parts.specs.Given.{concise_from, dcf_from, inputs_of, plan_from, whole, OfConcise, OfDcf}
use Rattle.project_parts.specs.Given.{OfDiagnostics, OfPlan}
use Rattle.project_parts.specs.declared.diagnostics_from.DiagnosticsFrom.{DiagnosticsFrom}
use Rattle.co_diag.specs.Found.{diagnostics_of}
use Rattle.kept_parts.specs.declared.kept_parts.KeptParts.{KeptParts}
use Rattle.project_parts.specs.Made.{concise_made, dcf_made, plan_made}
use Rattle.project_parts.specs.declared.part.Part.TheVariants as part
use Rattle.project_parts.proofs.PlanLemmas.{concise_is_of, dcf_is_of, plan_is}
use Rattle.workbench.specs.Queries.{concise_of, dcf_of}

module _ (p : Content) (k : KeptParts) where
  -- the plan is the project's
  pub plan_now : kept_inputs k part.Plan ≡ inputs_of p part.Plan → option_map plan_made k.plan.kept ≡ Some (plan_of_project p)
  plan_now now =
      ap (option_map plan_made) (option_map_back OfPlan (λ x y e. cc) k.plan.kept (Some (plan_from p)) now)
      ∙ ap Some (plan_is p)

  -- the diagnostics are the project's
  pub found_now : kept_inputs k part.Diagnostics ≡ inputs_of p part.Diagnostics
      → option_map (λ (f : DiagnosticsFrom). diagnostics_of f.project) k.found.kept ≡ Some (diagnostics_of p)
  found_now now =
      ap (option_map (λ (f : DiagnosticsFrom). diagnostics_of f.project))
      (option_map_back OfDiagnostics (λ x y e. cc) k.found.kept (Some (whole p)) now)

  module _ (id : ℕ) where
    -- the concise DCF is that of the node
    pub concise_now : kept_inputs k (part.Concise id) ≡ inputs_of p (part.Concise id)
        → option_map concise_made (kept_at k.concise id) ≡ concise_of p id
    unfolding concise_of
    concise_now now =
        ap (option_map concise_made)
        (option_map_back OfConcise (λ x y e. cc) (kept_at k.concise id) (concise_from p id) now)
        ∙ concise_is_of p id

    -- and so is the DCF
    pub dcf_now : kept_inputs k (part.Dcf id) ≡ inputs_of p (part.Dcf id)
        → option_map dcf_made (kept_at k.dcf id) ≡ dcf_of p id
    unfolding dcf_of
    dcf_now now =
        ap (option_map dcf_made) (option_map_back OfDcf (λ x y e. cc) (kept_at k.dcf id) (dcf_from p id) now)
        ∙ dcf_is_of p id

-- a node whose EDS is there is a member of the network
pub is_member : (p : Content) (id : ℕ) (node : Node) → node_at p.nodes id ≡ Some node
    → contains_key p.texts node.eds ≡ true → is_some (member_at p id) ≡ true
unfolding member_at
is_member p id node there known =
    ap (λ (o : Option Node). is_some (option_and_then (with_sheet p) o)) there ∙ by (text_at p.texts node.eds) known
  where
    member : Sheet → Member
    member sheet = record { node = node; sheet = sheet }

    by : (o : Option (List ℕ)) → is_some o ≡ true
        → is_some (option_map member (option_map (sheet_of (is_three p.version)) o)) ≡ true
    by None known = known
    by (Some text) known = refl

-- a member of the network has its files
module _ (p : Content) (id : ℕ) where
  pub dcf_there : is_some (member_at p id) ≡ true → None ≡ dcf_of p id → ⊥
  unfolding dcf_of
  dcf_there there none = by (member_at p id) there none
    where
      by : (o : Option Member) → is_some o ≡ true → None ≡ option_map (λ (m : Member). text_of
          (dcf_sections m.sheet id m.node.name p.bitrate (writes_of p m id))) o → ⊥
      by None there none = cc
      by (Some m) there none = cc

  pub concise_there : is_some (member_at p id) ≡ true → None ≡ concise_of p id → ⊥
  unfolding concise_of
  concise_there there none = by (member_at p id) there none
    where
      by : (o : Option Member) → is_some o ≡ true
          → None ≡ option_map (λ (m : Member). concise_text (writes_of p m id)) o → ⊥
      by None there none = cc
      by (Some m) there none = cc

pub one_is : {X : Type 0} (x y : X) → Some x ≡ Some y → x ≡ y
one_is x y e = cc
