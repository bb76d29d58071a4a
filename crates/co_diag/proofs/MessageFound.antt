-- The faults, transmission types and SYNC start values of messages are found.
use Rattle.std.proofs.Common.{◌≡◌, ◌⊎◌, inl, inr, ℕ, Bool, true, false, List, [], ◌++◌, map, Contains, Some, refl, sym, subst}
use Rattle.std.proofs.Common.{◌∙◌, ap, append_assoc}
use Rattle.std.specs.FinMap.{entries, get}
use Rattle.std.specs.List.{flat_map}
use Rattle.std.proofs.lemmas.Cmp.{nat_list_cmp_total}
use Rattle.std.proofs.lemmas.List.Elements.{Contains-append_cases, Contains-append_left, Contains-append_right}
use Rattle.std.proofs.lemmas.Map.Lookups.{exact_bytes}
use Rattle.cia301.specs.TransmissionTypes.{is_on_request}
use Rattle.project_messages.specs.declared.linked.Linked.{Linked}
use Rattle.pdo_plan.specs.declared.message_fault.MessageFault.{MessageFault}
use Rattle.pdo_plan.specs.declared.message_fault.MessageFault.TheVariants as message
use Rattle.pdo_plan.specs.declared.outcome.Outcome.{Outcome}
use Rattle.pdo_plan.specs.declared.outcome.Outcome.TheVariants.{Planned, Faulty}
use Rattle.pdo_plan.specs.declared.planned_message.PlannedMessage.{PlannedMessage}
use Rattle.co_project.specs.Project.{Content}
use Rattle.project_plan.specs.Network.{plan_of_project}
use Rattle.diag_lines.specs.declared.code.Code.{Code}
use Rattle.diag_lines.specs.declared.code.Code.TheVariants.{RemoteType, NoSync, UnreachedStart}
use Rattle.diag_lines.specs.declared.diag.Diag.{Diag}
use Rattle.diag_lines.specs.declared.subject.Subject.TheVariants as of
use Rattle.co_diag.specs.Faults.{message_code}
use Rattle.co_diag.specs.Holds.{HasMessageFault, HasMessage, HoldsOf, Holds, starts_at_none, type_of, waits_for_none}
use Rattle.diag_nodes.specs.Found.{diagnostic}
use Rattle.co_diag.specs.Found.{message_faults, message_diagnostics, message_warnings, said_if}
use Rattle.diag_lines.proofs.ListLemmas.{Contains-nil, Contains-first, Contains-cases}
use Rattle.co_diag.proofs.ListLemmas.{Contains-map, from_map, Contains-flat_map, from_flat_map}
use Rattle.diag_nodes.proofs.MemberLemmas.{at_entry, entry_of}

-- ---- faults

-- each fault of a message has its code
of_code : (p : Content) (fault : MessageFault) (name : List ℕ) → HasMessageFault p fault name
    → HoldsOf p (message_code fault) (of.Message name)
of_code p message.NoObjects name h = h
of_code p message.TpdoTaken name h = h
of_code p message.TooManyBits name h = h
of_code p message.NotMappable name h = h
of_code p message.Mismatched name h = h
of_code p message.NoRpdo name h = h
of_code p message.NoDummy name h = h
of_code p message.BadIdentifier name h = h
of_code p message.NoIdentifier name h = h
of_code p message.ReservedType name h = h

pub messages_hold : (p : Content) (d : Diag) → Contains (flat_map message_faults (plan_of_project p)) d → Holds p d
unfolding message_faults Holds
messages_hold p d c = let at = from_flat_map message_faults (plan_of_project p) d c
    in by at.0 at.1 at.0.outcome refl at.2
  where
    by : (m : PlannedMessage) → Contains (plan_of_project p) m → (o : Outcome) → m.outcome ≡ o
        → Contains (message_diagnostics m.name o) d → HoldsOf p d.code d.subject
    by m planned (Planned clean) is c = absurd (Contains-nil d c)
    by m planned (Faulty faults) is c =
        let one = from_map (λ fault. diagnostic (message_code fault) (of.Message m.name)) faults d c in
        let holds : HasMessageFault p one.0 m.name =
        record { said = m; faults = faults; planned = planned; named = refl; faulty = is; has = one.1 } in
        subst (λ (x : Diag). HoldsOf p x.code x.subject) one.2 (of_code p one.0 m.name holds)

pub messages_listed : (p : Content) (fault : MessageFault) (name : List ℕ) → HasMessageFault p fault name
    → Contains (flat_map message_faults (plan_of_project p)) (diagnostic (message_code fault) (of.Message name))
unfolding message_faults
messages_listed p fault name h =
    let faults : List Diag = map (λ fault. diagnostic (message_code fault) (of.Message h.said.name)) h.faults in
    let here : Contains faults (diagnostic (message_code fault) (of.Message h.said.name)) =
    Contains-map (λ fault. diagnostic (message_code fault) (of.Message h.said.name)) h.faults fault h.has in
    let named : Contains faults (diagnostic (message_code fault) (of.Message name)) =
    subst (λ (n : List ℕ). Contains faults (diagnostic (message_code fault) (of.Message n))) h.named here in
    Contains-flat_map message_faults (plan_of_project p) h.said (diagnostic (message_code fault)
    (of.Message name)) h.planned
    (subst (λ (o : Outcome). Contains (message_diagnostics h.said.name o)
    (diagnostic (message_code fault) (of.Message name))) (sym h.faulty) named)

-- ---- messages as they are

said_by : (holds : Bool) (code : Code) (name : List ℕ) (d : Diag) → Contains (said_if holds code name) d
    → (holds ≡ true) × (diagnostic code (of.Message name) ≡ d)
said_by false code name d c = absurd (Contains-nil d c)
said_by true code name d c = by (Contains-cases (diagnostic code (of.Message name)) [] d c)
  where
    by : (diagnostic code (of.Message name) ≡ d) ⊎ Contains [] d
        → (true ≡ true) × (diagnostic code (of.Message name) ≡ d)
    by (inl same) = (refl, same)
    by (inr c) = absurd (Contains-nil d c)

module _ (p : Content) where
  abbrev is_remote : Linked → Bool
  is_remote linked = is_on_request (type_of linked)

  -- the three, one after the other
  abbrev remote : List ℕ × Linked → List Diag
  remote m = said_if (is_remote m.1) RemoteType m.0

  abbrev waiting : List ℕ × Linked → List Diag
  waiting m = said_if (waits_for_none p m.1) NoSync m.0

  abbrev starting : List ℕ × Linked → List Diag
  starting m = said_if (starts_at_none p m.1) UnreachedStart m.0

  -- what is said of a message in turn
  pub said_in_turn : (name n : List ℕ) (linked : Linked) (found all : List Diag) → n ≡ name
      → all ≡ found ++ remote (n, linked) ++ waiting (n, linked) ++ starting (n, linked)
      → all ≡ found ++ message_warnings p (name, linked)
  unfolding message_warnings
  said_in_turn name n linked found all same now =
      let m : List ℕ × Linked = (name, linked) in
      now
      ∙ ap (λ (k : List ℕ). found ++ remote (k, linked) ++ waiting (k, linked) ++ starting (k, linked)) same
      ∙ ap (λ (ds : List Diag). ds ++ starting m) (append_assoc found (remote m) (waiting m))
      ∙ append_assoc found (remote m ++ waiting m) (starting m)

  -- what is said of a message that passes a test
  tested : (m : List ℕ × Linked) (test : Linked → Bool) (code : Code) (d : Diag) → get p.messages m.0 ≡ Some m.1
      → (HasMessage p test m.0 → HoldsOf p code (of.Message m.0)) → Contains (said_if (test m.1) code m.0) d
      → HoldsOf p d.code d.subject
  tested m test code d there holds c =
      let said = said_by (test m.1) code m.0 d c in
      subst (λ (x : Diag). HoldsOf p x.code x.subject) said.1
      (holds (record { linked = m.1; there = there; fits = said.0 }))

  pub warnings_hold : (d : Diag) → Contains (flat_map (message_warnings p) (entries p.messages)) d → Holds p d
  unfolding message_warnings Holds
  warnings_hold d c =
      let at = from_flat_map (message_warnings p) (entries p.messages) d c in
      by at.0 (at_entry nat_list_cmp_total exact_bytes p.messages at.0 at.1)
      (Contains-append_cases (remote at.0 ++ waiting at.0) (starting at.0) d at.2)
    where
      first : (m : List ℕ × Linked) → get p.messages m.0 ≡ Some m.1 → Contains (remote m) d ⊎ Contains (waiting m) d
          → HoldsOf p d.code d.subject
      first m there (inl c) = tested m is_remote RemoteType d there (λ h. h) c
      first m there (inr c) = tested m (waits_for_none p) NoSync d there (λ h. h) c

      by : (m : List ℕ × Linked) → get p.messages m.0 ≡ Some m.1
          → Contains (remote m ++ waiting m) d ⊎ Contains (starting m) d → HoldsOf p d.code d.subject
      by m there (inl c) = first m there (Contains-append_cases (remote m) (waiting m) d c)
      by m there (inr c) = tested m (starts_at_none p) UnreachedStart d there (λ h. h) c

  module _ (name : List ℕ) where
    said : (test : Linked → Bool) (code : Code) (h : HasMessage p test name)
        → Contains (said_if (test h.linked) code name) (diagnostic code (of.Message name))
    said test code h = subst (λ (b : Bool). Contains (said_if b code name) (diagnostic code (of.Message name)))
        (sym h.fits) (Contains-first (diagnostic code (of.Message name)) [])

    -- what is said of one message is among all
    listed : (linked : Linked) (d : Diag) → get p.messages name ≡ Some linked
        → Contains (message_warnings p (name, linked)) d
        → Contains (flat_map (message_warnings p) (entries p.messages)) d
    listed linked d there c = Contains-flat_map (message_warnings p) (entries p.messages) (name, linked) d
        (entry_of nat_list_cmp_total exact_bytes p.messages name linked there) c

    pub remote_types_listed : HasMessage p is_remote name
        → Contains (flat_map (message_warnings p) (entries p.messages)) (diagnostic RemoteType (of.Message name))
    unfolding message_warnings
    remote_types_listed h =
        let m : List ℕ × Linked = (name, h.linked) in
        let d : Diag = diagnostic RemoteType (of.Message name) in
        listed h.linked d h.there (Contains-append_left (remote m ++ waiting m) (starting m) d
        (Contains-append_left (remote m) (waiting m) d (said is_remote RemoteType h)))

    pub no_syncs_listed : HasMessage p (waits_for_none p) name
        → Contains (flat_map (message_warnings p) (entries p.messages)) (diagnostic NoSync (of.Message name))
    unfolding message_warnings
    no_syncs_listed h =
        let m : List ℕ × Linked = (name, h.linked) in
        let d : Diag = diagnostic NoSync (of.Message name) in
        listed h.linked d h.there (Contains-append_left (remote m ++ waiting m) (starting m) d
        (Contains-append_right (remote m) (waiting m) d (said (waits_for_none p) NoSync h)))

    pub starts_listed : HasMessage p (starts_at_none p) name
        → Contains (flat_map (message_warnings p) (entries p.messages)) (diagnostic UnreachedStart (of.Message name))
    unfolding message_warnings
    starts_listed h =
        let m : List ℕ × Linked = (name, h.linked) in
        let d : Diag = diagnostic UnreachedStart (of.Message name) in
        listed h.linked d h.there (Contains-append_right (remote m ++ waiting m) (starting m) d
        (said (starts_at_none p) UnreachedStart h))
