-- The writes of a node of a sound project.
use Rattle.std.proofs.Common.{◌≡◌, ◌∙◌, ℕ, zero, suc, ◌⊎◌, inl, inr, Bool, true, false, List, [], ◌∷◌, Contains, None}
use Rattle.std.proofs.Common.{filter, refl, ap, sym, subst, arith}
use Rattle.std.specs.Prelude.{if◌then◌else◌}
use Rattle.std.specs.FinMap.{get}
use Rattle.concise_dcf.specs.declared.write.Write.{Write}
use Rattle.cia301.specs.PdoObjects.{is_of_pdos, rpdo_object, tpdo_object}
use Rattle.project_edits.specs.Versions.{is_three}
use Rattle.project_messages.specs.Messages.{is_of_messages}
use Rattle.node_parameters.specs.Parameters.{parameter_writes}
use Rattle.co_project.specs.Project.{Content}
use Rattle.pdo_choices.specs.declared.clean.Clean.{Clean}
use Rattle.pdo_choices.specs.declared.consumer.Consumer.{Consumer}
use Rattle.pdo_plan.specs.Plan.{clean}
use Rattle.pdo_links.specs.Order.{IsConfigured, IsConfiguredAsMade, IsOfSent as SetSent, IsOfTaken as SetTaken, IsSentAlone, IsTakenAlone}
use Rattle.pdo_links.specs.VendorWrites.{vendor_rpdo_writes, vendor_tpdo_writes}
use Rattle.pdo_links.specs.Writes.{node_writes, rpdo_writes, tpdo_writes}
use Rattle.pdo_stations.specs.Devices.{as_made}
use Rattle.pdo_links.proofs.OrderLemmas.{tpdo_configured, rpdo_configured}
use Rattle.pdo_links.proofs.VendorOrder.{vendor_rpdo_configured, vendor_tpdo_configured}
use Rattle.pdo_links.proofs.WhoseLemmas.{in_second, of_messages, parameters_alone}
use Rattle.pdo_links.proofs.WhoseVendor.{IsOfThree, of_vendor_pdos}
use Rattle.co_project.specs.Sound.{IsSound}
use Rattle.project_plan.specs.Network.{plan_of_project, writes_of, Member}
use Rattle.project_plan.specs.Nodes.{IsSoundNode, Sends, Takes}
use Rattle.project_plan.specs.Pdos.{IsOfSent, IsOfTaken, IsOfUnused, is_to_pdo, sent_writes, taken_writes, to_pdo}
use Rattle.project_plan.proofs.AloneLemmas.{sent_alone, taken_alone, within}
use Rattle.project_plan.proofs.MemberLemmas.{member, no_pdo_params}
use Rattle.project_plan.proofs.NamedFileLemmas.{named_by_none}
use Rattle.project_plan.proofs.PdoLemmas.{to_rpdo, to_tpdo}
use Rattle.project_plan.proofs.VendorPdoLemmas.{to_vendor_rpdo, to_vendor_tpdo}

pub sends_alone : (project : Content) (id : ℕ) (c : Clean) → IsSound project → Sends project id c
    → IsSentAlone (clean (plan_of_project project)) id c
sends_alone project id c sound sends = sent_alone project sound id c sends.planned sends.sender

pub takes_alone : (project : Content) (id : ℕ) (c : Clean) (k : Consumer) → IsSound project → Takes project id c k
    → IsTakenAlone (clean (plan_of_project project)) id c k
takes_alone project id c k sound takes = taken_alone project sound id c takes.planned k takes.consumer takes.taker

module _ (project : Content) (id : ℕ) (m : Member) where
  pub alone : is_three project.version ≡ false → is_of_messages id project.messages ≡ false
      → writes_of project m id ≡ parameter_writes m.sheet m.node.params id
  unfolding writes_of
  alone old none =
      ap (λ (b : Bool). node_writes b (plan_of_project project) m.node.params m.sheet id) old
      ∙ parameters_alone (plan_of_project project) m.node.params m.sheet id (named_by_none id project none)

  -- the node's own texts name no PDO
  own_texts : IsSoundNode project id m → (place : ℕ × ℕ) → is_of_pdos place.0 ≡ true → get m.node.params place ≡ None
  own_texts node = no_pdo_params project id m node.sound (member project id m node.there)

  pub whose : (w : Write) → IsSoundNode project id m → Contains (writes_of project m id) w → is_of_pdos w.index ≡ true
      → IsOfSent project m id w ⊎ (IsOfTaken project m id w ⊎ IsOfUnused project m id w)
  unfolding writes_of
  whose w node has pdo = by (is_three project.version) refl has
    where
      old : is_three project.version ≡ false → SetSent (clean (plan_of_project project)) m.sheet id w
          ⊎ SetTaken (clean (plan_of_project project)) id w
          → IsOfSent project m id w ⊎ (IsOfTaken project m id w ⊎ IsOfUnused project m id w)
      old e (inl s) = inl (s.0, s.1, s.2, rw e s.3)
      old e (inr t) = inr (inl (t.0, t.1, (t.2.0, t.2.1, t.2.2, rw e t.2.3)))

      made : is_three project.version ≡ true
          → IsOfThree (clean (plan_of_project project)) (as_made m.sheet id) id w
          → IsOfSent project m id w ⊎ (IsOfTaken project m id w ⊎ IsOfUnused project m id w)
      made e (inl s) = inl (s.0, s.1, s.2, rw e s.3)
      made e (inr (inl t)) = inr (inl (t.0, t.1, (t.2.0, t.2.1, t.2.2, rw e t.2.3)))
      made e (inr (inr u)) = inr (inr (e, u))

      by : (b : Bool) → is_three project.version ≡ b
          → Contains (node_writes b (plan_of_project project) m.node.params m.sheet id) w
          → IsOfSent project m id w ⊎ (IsOfTaken project m id w ⊎ IsOfUnused project m id w)
      by true e has =
          made e (of_vendor_pdos (plan_of_project project) m.node.params m.sheet id w (own_texts node) has pdo)
      by false e has =
          old e (of_messages (plan_of_project project) m.node.params m.sheet id w (own_texts node) has pdo)

  pub sent_there : (c : Clean) → IsSoundNode project id m → Sends project id c
      → to_pdo (tpdo_object c.message.tpdo) (writes_of project m id) ≡ sent_writes project m id c
  unfolding writes_of
  sent_there c node sends = by (is_three project.version)
    where
      by : (b : Bool) → to_pdo (tpdo_object c.message.tpdo)
          (node_writes b (plan_of_project project) m.node.params m.sheet id)
          ≡ (if b then vendor_tpdo_writes (as_made m.sheet id) c else tpdo_writes m.sheet id c)
      by true = to_vendor_tpdo (plan_of_project project) m.node.params m.sheet id (own_texts node) c
          (sends_alone project id c node.sound sends)
      by false = to_tpdo (plan_of_project project) m.node.params m.sheet id (own_texts node) c
          (sends_alone project id c node.sound sends)

  pub taken_there : (c : Clean) (k : Consumer) → IsSoundNode project id m → Takes project id c k
      → to_pdo (rpdo_object k.rpdo) (writes_of project m id) ≡ taken_writes project m id c k
  unfolding writes_of
  taken_there c k node takes = by (is_three project.version)
    where
      by : (b : Bool) → to_pdo (rpdo_object k.rpdo) (node_writes b (plan_of_project project) m.node.params m.sheet id)
          ≡ (if b then vendor_rpdo_writes (as_made m.sheet id) c k else rpdo_writes c k)
      by true = to_vendor_rpdo (plan_of_project project) m.node.params m.sheet id (own_texts node) c k
          (takes_alone project id c k node.sound takes)
      by false = to_rpdo (plan_of_project project) m.node.params m.sheet id (own_texts node) c k
          (takes_alone project id c k node.sound takes)

  -- in versions 1 and 2
  set_sent : (c : Clean) → is_three project.version ≡ false → sent_writes project m id c ≡ tpdo_writes m.sheet id c
  set_sent c old = rw old refl

  set_taken : (c : Clean) (k : Consumer) → is_three project.version ≡ false
      → taken_writes project m id c k ≡ rpdo_writes c k
  set_taken c k old = rw old refl

  pub sent_configured : (c : Clean) → is_three project.version ≡ false → IsSoundNode project id m → Sends project id c
      → IsConfigured (tpdo_object c.message.tpdo) c.identifier c.mapping (to_pdo (tpdo_object c.message.tpdo)
      (writes_of project m id))
  sent_configured c old node sends =
      subst (IsConfigured (tpdo_object c.message.tpdo) c.identifier c.mapping)
      (sym (sent_there c node sends ∙ set_sent c old))
      (tpdo_configured m.sheet id c (within project node.sound c sends.planned))

  pub taken_configured : (c : Clean) (k : Consumer) → is_three project.version ≡ false → IsSoundNode project id m
      → Takes project id c k
      → IsConfigured (rpdo_object k.rpdo) c.identifier k.mapping (to_pdo (rpdo_object k.rpdo) (writes_of project m id))
  taken_configured c k old node takes =
      subst (IsConfigured (rpdo_object k.rpdo) c.identifier k.mapping)
      (sym (taken_there c k node takes ∙ set_taken c k old))
      (rpdo_configured c k (within project node.sound c takes.planned))

  -- in version 3
  made_sent : (c : Clean) → is_three project.version ≡ true
      → sent_writes project m id c ≡ vendor_tpdo_writes (as_made m.sheet id) c
  made_sent c new = rw new refl

  made_taken : (c : Clean) (k : Consumer) → is_three project.version ≡ true
      → taken_writes project m id c k ≡ vendor_rpdo_writes (as_made m.sheet id) c k
  made_taken c k new = rw new refl

  pub sent_as_made : (c : Clean) → is_three project.version ≡ true → IsSoundNode project id m → Sends project id c
      → IsConfiguredAsMade (as_made m.sheet id) (tpdo_object c.message.tpdo) c.identifier c.mapping
      (to_pdo (tpdo_object c.message.tpdo) (writes_of project m id))
  sent_as_made c new node sends =
      subst (IsConfiguredAsMade (as_made m.sheet id) (tpdo_object c.message.tpdo) c.identifier c.mapping)
      (sym (sent_there c node sends ∙ made_sent c new))
      (vendor_tpdo_configured (as_made m.sheet id) c (within project node.sound c sends.planned))

  pub taken_as_made : (c : Clean) (k : Consumer) → is_three project.version ≡ true → IsSoundNode project id m
      → Takes project id c k
      → IsConfiguredAsMade (as_made m.sheet id) (rpdo_object k.rpdo) c.identifier k.mapping
      (to_pdo (rpdo_object k.rpdo) (writes_of project m id))
  taken_as_made c k new node takes =
      subst (IsConfiguredAsMade (as_made m.sheet id) (rpdo_object k.rpdo) c.identifier k.mapping)
      (sym (taken_there c k node takes ∙ made_taken c k new))
      (vendor_rpdo_configured (as_made m.sheet id) c k (within project node.sound c takes.planned))

  -- what is to a PDO is among all
  of_filter : (test : Write → Bool) (ws : List Write) (w : Write) → Contains (filter test ws) w → Contains ws w
  of_filter test [] w has = has
  of_filter test (x ∷ ws) w has = by (test x) (of_filter test ws w) has
    where
      by : (b : Bool) → (Contains (filter test ws) w → Contains ws w)
          → (let kept : List Write = if b then x ∷ filter test ws else filter test ws in Contains kept w)
          → Contains (x ∷ ws) w
      by true rest (zero, lt, is) = (zero, omega arith, is)
      by true rest (suc k, lt, is) = in_second (x ∷ []) ws w (rest (k, omega arith, is))
      by false rest has = in_second (x ∷ []) ws w (rest has)

  of_pdo : (object : ℕ) (w : Write) → Contains (to_pdo object (writes_of project m id)) w
      → Contains (writes_of project m id) w
  unfolding to_pdo
  of_pdo object w has = of_filter (is_to_pdo object) (writes_of project m id) w has

  pub sent_is_there : (c : Clean) (w : Write) → IsSoundNode project id m → Sends project id c
      → Contains (sent_writes project m id c) w → Contains (writes_of project m id) w
  sent_is_there c w node sends has =
      of_pdo (tpdo_object c.message.tpdo) w
      (subst (λ (ws : List Write). Contains ws w) (sym (sent_there c node sends)) has)

  pub taken_is_there : (c : Clean) (k : Consumer) (w : Write) → IsSoundNode project id m → Takes project id c k
      → Contains (taken_writes project m id c k) w → Contains (writes_of project m id) w
  taken_is_there c k w node takes has =
      of_pdo (rpdo_object k.rpdo) w
      (subst (λ (ws : List Write). Contains ws w) (sym (taken_there c k node takes)) has)
