-- What is found in version 3 is what holds.
use Rattle.std.proofs.Common.{◌≡◌, ◌∙◌, ◌⊎◌, inl, inr, ℕ, Bool, true, false, List, [], ◌++◌, map, filter_map, Contains}
use Rattle.std.proofs.Common.{Option, Some, None, refl, sym, ap, subst}
use Rattle.std.specs.Prelude.{if◌then◌else◌}
use Rattle.std.specs.FinMap.{get}
use Rattle.std.specs.List.{flat_map}
use Rattle.std.specs.Option.{option_map_or}
use Rattle.std.proofs.lemmas.List.Elements.{Contains-append_cases, Contains-append_left, Contains-append_right}
use Rattle.node_parameters.proofs.WrittenLemmas.{Contains-filter_map, from_filter_map}
use Rattle.project_edits.specs.Versions.{is_three}
use Rattle.project_messages.specs.declared.linked.Linked.{Linked}
use Rattle.project_messages.specs.declared.receive.Receive.{Receive}
use Rattle.pdo_stations.specs.declared.as_made.AsMade.{AsMade}
use Rattle.pdo_stations.specs.Devices.{as_made}
use Rattle.pdo_links.specs.VendorWrites.{vendor_link_writes}
use Rattle.pdo_findings.specs.Findings.{refused_places, unplanned_rpdos, unplanned_tpdos}
use Rattle.pdo_plan.specs.declared.planned_message.PlannedMessage.{PlannedMessage}
use Rattle.co_project.specs.Project.{Content}
use Rattle.project_plan.specs.Network.{Member, members, plan_of_project}
use Rattle.diag_lines.specs.declared.code.Code.TheVariants.{UnplannedTpdo, UnplannedRpdo, BesideLimits, UselessReceive}
use Rattle.diag_lines.specs.declared.diag.Diag.{Diag}
use Rattle.diag_lines.specs.declared.subject.Subject.TheVariants as of
use Rattle.diag_lines.proofs.ListLemmas.{Contains-nil}
use Rattle.diag_nodes.specs.Found.{diagnostic}
use Rattle.co_diag.specs.Found.{node_findings, pdo_findings, useless_receive, useless_receives, vendor_findings}
use Rattle.co_diag.specs.Holds.{Holds, IsMadeNode, IsUselessReceive, IsWrittenBesideLimits, SendsUnplanned}
use Rattle.co_diag.specs.Holds.{TakesUnplanned}
use Rattle.co_diag.specs.Holds.{is_useless}
use Rattle.co_diag.proofs.ListLemmas.{Contains-flat_map, Contains-map, from_flat_map, from_map}
use Rattle.diag_nodes.proofs.MemberLemmas.{member_found, member_listed}

module _ (p : Content) where
  abbrev plan : List PlannedMessage
  plan = plan_of_project p

  abbrev of_nodes : List Diag
  of_nodes = flat_map (node_findings plan) (members p)

  abbrev of_receives : List Diag
  of_receives = flat_map (useless_receives p) plan

  -- what is found of one node, group by group
  module _ (device : AsMade) (node : ℕ) where
    abbrev tpdos : List Diag
    tpdos = map (λ number. diagnostic UnplannedTpdo (of.Tpdo node number)) (unplanned_tpdos plan device node)

    abbrev rpdos : List Diag
    rpdos = map (λ number. diagnostic UnplannedRpdo (of.Rpdo node number)) (unplanned_rpdos plan device node)

    abbrev places : List Diag
    places = map (λ (place : ℕ × ℕ). diagnostic BesideLimits (of.Limit node place.0 place.1))
        (refused_places device (vendor_link_writes plan device node))

  -- ---- what is found holds

  of_pdos : (device : AsMade) (node : ℕ) (d : Diag) → IsMadeNode p node device
      → Contains (pdo_findings plan device node) d → Holds p d
  unfolding pdo_findings Holds
  of_pdos device node d made c =
      by (Contains-append_cases (tpdos device node ++ rpdos device node) (places device node) d c)
    where
      first : Contains (tpdos device node) d ⊎ Contains (rpdos device node) d → Holds p d
      first (inl c) =
          let one = from_map (λ number. diagnostic UnplannedTpdo (of.Tpdo node number))
          (unplanned_tpdos plan device node) d c in
          let holds : SendsUnplanned p node one.0 = record { device = device; made = made; found = one.1 } in
          subst (Holds p) one.2 holds
      first (inr c) =
          let one = from_map (λ number. diagnostic UnplannedRpdo (of.Rpdo node number))
          (unplanned_rpdos plan device node) d c in
          let holds : TakesUnplanned p node one.0 = record { device = device; made = made; found = one.1 } in
          subst (Holds p) one.2 holds

      by : Contains (tpdos device node ++ rpdos device node) d ⊎ Contains (places device node) d → Holds p d
      by (inl c) = first (Contains-append_cases (tpdos device node) (rpdos device node) d c)
      by (inr c) =
          let one = from_map (λ (place : ℕ × ℕ). diagnostic BesideLimits (of.Limit node place.0 place.1))
          (refused_places device (vendor_link_writes plan device node)) d c in
          let holds : IsWrittenBesideLimits p node one.0.0 one.0.1 =
          record { device = device; made = made; found = one.1 } in
          subst (Holds p) one.2 holds

  nodes_hold : is_three p.version ≡ true → (d : Diag) → Contains of_nodes d → Holds p d
  nodes_hold rules d c =
      let at = from_flat_map (node_findings plan) (members p) d c in
      let made : IsMadeNode p at.0.0 (as_made at.0.1.sheet at.0.0) =
      record { member = at.0.1; rules = rules; is = member_found p at.0 at.1; made = refl } in
      of_pdos (as_made at.0.1.sheet at.0.0) at.0.0 d made at.2

  -- a receive that is of no use
  useless_holds : is_three p.version ≡ true → (m : PlannedMessage) (linked : Linked) (r : ℕ × Receive) (d : Diag)
      → Contains plan m → get p.messages m.name ≡ Some linked → Contains linked.receives r
      → useless_receive p m linked r ≡ Some d → Holds p d
  unfolding Holds
  useless_holds rules m linked r d planned there given h = by (is_useless p linked m.outcome r) refl h
    where
      it : Diag
      it = diagnostic UselessReceive (of.Receive m.name r.0)

      by : (b : Bool) → is_useless p linked m.outcome r ≡ b → (if b then Some it else None) ≡ Some d → Holds p d
      by true is h =
          let same : it ≡ d = cc in
          let holds : IsUselessReceive p m.name r.0 = record {
            said = m;
            linked = linked;
            receive = r.1;
            rules = rules;
            planned = planned;
            named = refl;
            there = there;
            given = given;
            useless = is;
          } in
          subst (Holds p) same holds
      by false is h = cc

  receives_hold : is_three p.version ≡ true → (d : Diag) → Contains of_receives d → Holds p d
  unfolding useless_receives
  receives_hold rules d c =
      let at = from_flat_map (useless_receives p) plan d c in by at.0 at.1 (get p.messages at.0.name) refl at.2
    where
      by : (m : PlannedMessage) → Contains plan m → (o : Option Linked) → get p.messages m.name ≡ o
          → Contains (option_map_or (λ (linked : Linked). filter_map (useless_receive p m linked) linked.receives) o []) d
          → Holds p d
      by m planned None is c = absurd (Contains-nil d c)
      by m planned (Some linked) is c =
          let one = from_filter_map (useless_receive p m linked) linked.receives d c in
          useless_holds rules m linked one.0 d planned is one.1 one.2

  pub vendor_findings_hold : (d : Diag) → Contains (vendor_findings p) d → Holds p d
  unfolding vendor_findings
  vendor_findings_hold d c = by (is_three p.version) refl c
    where
      on : is_three p.version ≡ true → Contains of_nodes d ⊎ Contains of_receives d → Holds p d
      on rules (inl c) = nodes_hold rules d c
      on rules (inr c) = receives_hold rules d c

      by : (b : Bool) → is_three p.version ≡ b → Contains (if b then of_nodes ++ of_receives else []) d → Holds p d
      by true rules c = on rules (Contains-append_cases of_nodes of_receives d c)
      by false rules c = absurd (Contains-nil d c)

  -- ---- what holds is found

  in_version_3 : (d : Diag) → is_three p.version ≡ true → Contains (of_nodes ++ of_receives) d
      → Contains (vendor_findings p) d
  unfolding vendor_findings
  in_version_3 d rules c =
      subst (λ (b : Bool). Contains (if b then of_nodes ++ of_receives else []) d) (sym rules) c

  in_node : (node : ℕ) (device : AsMade) (d : Diag) → IsMadeNode p node device → Contains (pdo_findings plan device node) d
      → Contains (vendor_findings p) d
  in_node node device d made c =
      in_version_3 d made.rules (Contains-append_left of_nodes of_receives d
      (Contains-flat_map (node_findings plan) (members p) (node, made.member) d (member_listed p node made.member made.is)
      (subst (λ (a : AsMade). Contains (pdo_findings plan a node) d) made.made c)))

  pub unplanned_tpdos_listed : (node number : ℕ) → SendsUnplanned p node number
      → Contains (vendor_findings p) (diagnostic UnplannedTpdo (of.Tpdo node number))
  unfolding pdo_findings
  unplanned_tpdos_listed node number h =
      let d : Diag = diagnostic UnplannedTpdo (of.Tpdo node number) in
      in_node node h.device d h.made (Contains-append_left (tpdos h.device node ++ rpdos h.device node)
      (places h.device node) d (Contains-append_left (tpdos h.device node) (rpdos h.device node) d
      (Contains-map (λ number. diagnostic UnplannedTpdo (of.Tpdo node number)) (unplanned_tpdos plan h.device node)
      number h.found)))

  pub unplanned_rpdos_listed : (node number : ℕ) → TakesUnplanned p node number
      → Contains (vendor_findings p) (diagnostic UnplannedRpdo (of.Rpdo node number))
  unfolding pdo_findings
  unplanned_rpdos_listed node number h =
      let d : Diag = diagnostic UnplannedRpdo (of.Rpdo node number) in
      in_node node h.device d h.made (Contains-append_left (tpdos h.device node ++ rpdos h.device node)
      (places h.device node) d (Contains-append_right (tpdos h.device node) (rpdos h.device node) d
      (Contains-map (λ number. diagnostic UnplannedRpdo (of.Rpdo node number)) (unplanned_rpdos plan h.device node)
      number h.found)))

  pub limits_listed : (node index sub : ℕ) → IsWrittenBesideLimits p node index sub
      → Contains (vendor_findings p) (diagnostic BesideLimits (of.Limit node index sub))
  unfolding pdo_findings
  limits_listed node index sub h =
      let d : Diag = diagnostic BesideLimits (of.Limit node index sub) in
      in_node node h.device d h.made (Contains-append_right (tpdos h.device node ++ rpdos h.device node)
      (places h.device node) d
      (Contains-map (λ (place : ℕ × ℕ). diagnostic BesideLimits (of.Limit node place.0 place.1))
      (refused_places h.device (vendor_link_writes plan h.device node)) (index, sub) h.found))

  pub useless_listed : (name : List ℕ) (node : ℕ) → IsUselessReceive p name node
      → Contains (vendor_findings p) (diagnostic UselessReceive (of.Receive name node))
  unfolding useless_receives
  useless_listed name node h =
      let d : Diag = diagnostic UselessReceive (of.Receive name node) in
      in_version_3 d h.rules (Contains-append_right of_nodes of_receives d
      (Contains-flat_map (useless_receives p) plan h.said d h.planned found))
    where
      d : Diag
      d = diagnostic UselessReceive (of.Receive name node)

      said : useless_receive p h.said h.linked (node, h.receive) ≡ Some d
      said = ap (λ (b : Bool). if b then Some (diagnostic UselessReceive (of.Receive h.said.name node)) else None) h.useless
          ∙ ap (λ (n : List ℕ). Some (diagnostic UselessReceive (of.Receive n node))) h.named

      there : get p.messages h.said.name ≡ Some h.linked
      there = ap (get p.messages) h.named ∙ h.there

      found : Contains (option_map_or (λ (linked : Linked). filter_map (useless_receive p h.said linked) linked.receives)
          (get p.messages h.said.name) []) d
      found = subst (λ (o : Option Linked). Contains
          (option_map_or (λ (linked : Linked). filter_map (useless_receive p h.said linked) linked.receives) o []) d)
          (sym there) (Contains-filter_map (useless_receive p h.said h.linked) h.linked.receives (node, h.receive) d
          h.given said)
