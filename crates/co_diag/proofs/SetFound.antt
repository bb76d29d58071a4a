-- An event does something exactly where nothing is listed of it.
use Rattle.std.proofs.Common.{◌≡◌, ◌∙◌, ◌↔◌, ◌⊎◌, inl, inr, ◌==◌, ◌&&◌, not, ℕ, Bool, true, false, List, Contains, Option}
use Rattle.std.proofs.Common.{Some, None, Result, Ok, Err, IfSome, refl, sym, ap, subst}
use Rattle.std.specs.Prelude.{is_some, option_map, option_and_then}
use Rattle.std.specs.FinMap.{contains_key, get}
use Rattle.std.specs.Result.{result_ok}
use Rattle.base.proofs.EachLemmas.{each_found}
use Rattle.base.proofs.TableLemmas.{removed_elsewhere}
use Rattle.co_dict.specs.declared.entry.Entry.{Entry}
use Rattle.co_dict.specs.Shapes.{Shaped}
use Rattle.co_dict.proofs.PlaceLemmas.{places_exact, places_total}
use Rattle.co_scenario.specs.declared.event.Event.{Event}
use Rattle.co_scenario.specs.declared.event.Event.TheVariants as event
use Rattle.co_scenario.specs.declared.step.Step.{Step}
use Rattle.co_scenario.specs.declared.timed_event.TimedEvent.{TimedEvent}
use Rattle.eds_device.specs.Entries.{entry_at, shape_of}
use Rattle.eds_device.proofs.LawLemmas.{shape_at}
use Rattle.node_parameters.specs.declared.parameter_fault.ParameterFault.{ParameterFault}
use Rattle.node_parameters.specs.declared.parameter_fault.ParameterFault.TheVariants as parameter
use Rattle.node_parameters.specs.Judgement.{set_bytes}
use Rattle.eds_device.specs.Sheets.{Sheet, sheet_of}
use Rattle.project_edits.specs.Versions.{is_three}
use Rattle.co_project.specs.declared.node.Node.{Node}
use Rattle.co_project.specs.Project.{Content, is_controller}
use Rattle.co_project.specs.Sound.{IsEventOf, IsSound}
use Rattle.co_project.proofs.SoundLemmas.{nodes_have_texts}
use Rattle.project_plan.specs.Controller.{producer_time, shape_held}
use Rattle.project_plan.specs.Events.{bytes_set, set_step, shape_of_node, step_of}
use Rattle.project_plan.specs.Network.{Member, member_at, with_sheet}
use Rattle.diag_lines.specs.declared.code.Code.{Code}
use Rattle.diag_lines.specs.declared.code.Code.TheVariants.{NoEntry, Unreadable, OutsideLimits, NotWritable, NoObjects}
use Rattle.diag_lines.specs.declared.code.Code.TheVariants.{TpdoTaken, TooManyBits, NotMappable, Mismatched, NoRpdo}
use Rattle.diag_lines.specs.declared.code.Code.TheVariants.{NoDummy, BadIdentifier, NoIdentifier, ReservedType}
use Rattle.diag_lines.specs.declared.code.Code.TheVariants.{SharedIdentifier, NotModelled, RemoteType, NoSync}
use Rattle.diag_lines.specs.declared.code.Code.TheVariants.{UnfitConsumer, SkippedLine, OtherCounter, UnreachedStart}
use Rattle.diag_lines.specs.declared.code.Code.TheVariants.{UnplannedTpdo, UnplannedRpdo, BesideLimits, UselessReceive}
use Rattle.diag_lines.specs.declared.code.Code.TheVariants.{IdleEvent, OtherHeartbeat}
use Rattle.diag_lines.specs.declared.diag.Diag.{Diag}
use Rattle.diag_lines.specs.declared.subject.Subject.{Subject}
use Rattle.diag_lines.specs.declared.subject.Subject.TheVariants as of
use Rattle.diag_nodes.specs.Codes.{parameter_code}
use Rattle.diag_nodes.specs.Found.{diagnostic}
use Rattle.co_diag.specs.Found.{diagnostics_of, IsUnlisted}
use Rattle.co_diag.specs.Holds.{HasIdleEvent, SetsUnfitValue, HoldsOf, Holds, is_idle}
use Rattle.co_diag.proofs.EventFound.{events_hold, events_listed}
use Rattle.co_diag.proofs.IdleFound.{idle_hold, idle_listed}
use Rattle.co_diag.proofs.FoundLemmas.{the_list}

-- a node with a data sheet
abbrev made : Node → Sheet → Member
made n sheet = record { node = n; sheet = sheet }

something : (o : Option Step) → o ≡ None → is_some o ≡ true → ⊥
something None is h = cc
something (Some s) is h = cc

-- one test passes, and the other doesn't
both : (a b : Bool) → (a && not b) ≡ true → (a ≡ true) × (b ≡ false)
both true false h = (refl, refl)
both true true h = cc
both false b h = cc

-- an entry is among those that a device holds, but for one of the device that the manager runs in
held : (own : Bool) (shape : Shaped) (place : ℕ × ℕ) → (own ≡ true → place ≡ producer_time → ⊥)
    → get (shape_held own shape).entries place ≡ get shape.entries place
held true shape place other = removed_elsewhere places_total places_exact shape.entries producer_time place (other refl)
held false shape place other = refl

module _ (p : Content) (number : ℕ) where
  -- ---- what is listed of an event is a fault of what it sets, or that it does nothing

  abbrev Listed : Type 0
  Listed = ((fault : ParameterFault) × SetsUnfitValue p fault number) ⊎ HasIdleEvent p number

  of_event : (c : Code) → HoldsOf p c (of.Event number) → Listed
  of_event NoEntry h = inl (parameter.NoEntry, h)
  of_event NotModelled h = inl (parameter.NotModelled, h)
  of_event Unreadable h = inl (parameter.Unreadable, h)
  of_event IdleEvent h = inr h
  of_event NotWritable h = absurd h
  of_event OutsideLimits h = absurd h
  of_event NoObjects h = absurd h
  of_event TpdoTaken h = absurd h
  of_event TooManyBits h = absurd h
  of_event NotMappable h = absurd h
  of_event Mismatched h = absurd h
  of_event NoRpdo h = absurd h
  of_event NoDummy h = absurd h
  of_event BadIdentifier h = absurd h
  of_event NoIdentifier h = absurd h
  of_event ReservedType h = absurd h
  of_event SharedIdentifier h = absurd h
  of_event RemoteType h = absurd h
  of_event NoSync h = absurd h
  of_event UnfitConsumer h = absurd h
  of_event SkippedLine h = absurd h
  of_event OtherCounter h = absurd h
  of_event UnreachedStart h = absurd h
  of_event UnplannedTpdo h = absurd h
  of_event UnplannedRpdo h = absurd h
  of_event BesideLimits h = absurd h
  of_event OtherHeartbeat h = absurd h
  of_event UselessReceive h = absurd h

  listed_is : (d : Diag) → Contains (diagnostics_of p) d → d.subject ≡ of.Event number → Listed
  unfolding Holds
  listed_is d c is = of_event d.code (subst (λ (s : Subject). HoldsOf p d.code s) is (((the_list p).exact d).0 c))

  fault_is_listed : (fault : ParameterFault) → SetsUnfitValue p fault number → IsUnlisted p number → ⊥
  fault_is_listed fault sets none =
      let d : Diag = diagnostic (parameter_code fault) (of.Event number) in
      none d (((the_list p).exact d).1 (events_hold p d (events_listed p fault number sets))) refl

  -- one that isn't listed isn't one that does nothing
  unlisted_is_not_idle : (e : TimedEvent) → get p.events number ≡ Some e → IsUnlisted p number → is_idle p e.event ≡ false
  unlisted_is_not_idle e there none = by (is_idle p e.event) refl
    where
      by : (b : Bool) → is_idle p e.event ≡ b → b ≡ false
      by false idle = refl
      by true idle =
          let d : Diag = diagnostic IdleEvent (of.Event number) in
          let has : HasIdleEvent p number = record { timed = e; there = there; idle = idle } in
          absurd (none d (((the_list p).exact d).1 (idle_hold p d (idle_listed p number has))) refl)

  -- ---- the value that is set

  module _ (node index sub : ℕ) (text : List ℕ) (idle : is_idle p (event.Set node index sub text) ≡ false) where
    -- it isn't of the entry that the device lacks that the manager runs in
    another_entry : is_controller p node ≡ true → ◌≡◌ {A = ℕ × ℕ} (index, sub) producer_time → ⊥
    another_entry own same =
        let at : index ≡ 0x1017 = ap (λ (place : ℕ × ℕ). place.0) same in
        let sub_at : sub ≡ 0 = ap (λ (place : ℕ × ℕ). place.1) same in
        let does_nothing : is_idle p (event.Set node index sub text) ≡ true =
        λ i. own i && ((at i == 0x1017) && (sub_at i == 0)) in
        cc

    value_of_member : (m : Member) → member_at p node ≡ Some m
        → bytes_set (shape_of_node p) node index sub text
        ≡ result_ok (set_bytes (entry_at m.sheet node index sub) text node)
    unfolding shape_of_node
    value_of_member m is =
        ap (λ (o : Option Member). option_and_then (λ (shape : Shaped). result_ok (set_bytes
        (get shape.entries (index, sub)) text node))
        (option_map (λ (m : Member). shape_held (is_controller p node) (shape_of m.sheet node)) o)) is
        ∙ ap (λ (o : Option Entry). result_ok (set_bytes o text node))
        (held (is_controller p node) (shape_of m.sheet node) (index, sub) another_entry ∙ shape_at m.sheet node index sub)

    step_of_member : (m : Member) (r : Result (List ℕ) ParameterFault) → member_at p node ≡ Some m
        → set_bytes (entry_at m.sheet node index sub) text node ≡ r
        → step_of (shape_of_node p) (event.Set node index sub text) ≡ option_map (set_step node index sub) (result_ok r)
    step_of_member m r is given =
        ap (option_map (set_step node index sub)) (value_of_member m is ∙ ap result_ok given)

  -- ---- a fault is of an event that sets none

  stopped : (fault : ParameterFault) (e : TimedEvent) → get p.events number ≡ Some e → SetsUnfitValue p fault number
      → is_idle p e.event ≡ false → is_some (step_of (shape_of_node p) e.event) ≡ true → ⊥
  stopped fault e there h busy does =
      let sets : Event = event.Set h.node h.index h.sub h.text in
      let timed : TimedEvent = record { time = h.time; event = sets } in
      let found : get p.events number ≡ Some timed = h.there in
      let same : e ≡ timed = cc in
      let none : step_of (shape_of_node p) sets ≡ None =
      step_of_member h.node h.index h.sub h.text (subst (λ (x : TimedEvent). is_idle p x.event ≡ false) same busy)
      h.member (Err fault) h.is h.fails in
      something (step_of (shape_of_node p) sets) none
      (subst (λ (x : TimedEvent). is_some (step_of (shape_of_node p) x.event) ≡ true) same does)

  -- what is listed of an event is of one that does nothing
  idle_or_stopped : (e : TimedEvent) → get p.events number ≡ Some e → is_idle p e.event ≡ false
      → is_some (step_of (shape_of_node p) e.event) ≡ true → Listed → ⊥
  idle_or_stopped e there busy does (inl fault) = stopped fault.0 e there fault.1 busy does
  idle_or_stopped e there busy does (inr h) =
      let found : get p.events number ≡ Some h.timed = h.there in
      let same : e ≡ h.timed = cc in
      let idle : is_idle p e.event ≡ true = subst (λ (x : TimedEvent). is_idle p x.event ≡ true) (sym same) h.idle in
      cc

  -- ---- one that isn't listed does something

  module _ (sound : IsSound p) where
    has_member : (node : ℕ) → contains_key p.nodes node ≡ true → (m : Member) × (member_at p node ≡ Some m)
    unfolding member_at
    has_member node known = by (get p.nodes node) refl known
      where
        by_text : (n : Node) (o : Option (List ℕ)) → get p.texts n.eds ≡ o → is_some o ≡ true
            → (m : Member) × (with_sheet p n ≡ Some m)
        by_text n None is here = cc
        by_text n (Some text) is here = (
          made n (sheet_of (is_three p.version) text),
          ap (λ o. option_map (made n) (option_map (sheet_of (is_three p.version)) o)) is,
        )

        by : (o : Option Node) → get p.nodes node ≡ o → is_some o ≡ true
            → (m : Member) × (option_and_then (with_sheet p) o ≡ Some m)
        by None is here = cc
        by (Some n) is here =
            let kept : contains_key p.texts n.eds ≡ true =
            subst (λ (o : Option Node). IfSome o (λ n. contains_key p.texts n.eds ≡ true)) is
            (nodes_have_texts p node sound) in
            by_text n (get p.texts n.eds) refl kept

    known : (e : TimedEvent) → get p.events number ≡ Some e → IsEventOf p number e
    known e there = each_found (IsEventOf p) p.events number e sound.events there

    does_something : (time : ℕ) (e : Event) → get p.events number ≡ Some (record { time = time; event = e })
        → is_idle p e ≡ false → IsUnlisted p number → is_some (step_of (shape_of_node p) e) ≡ true
    unfolding IsEventOf
    does_something time (event.Power node on) there busy none = refl
    does_something time (event.Nmt node command) there busy none = refl
    does_something time (event.Set node index sub text) there busy none =
        let is : IsEventOf p number (record { time = time; event = event.Set node index sub text }) =
        known (record { time = time; event = event.Set node index sub text }) there in
        let m = has_member node is.3 in
        by m.0 m.1 (set_bytes (entry_at m.0.sheet node index sub) text node) refl
      where
        by : (m : Member) → member_at p node ≡ Some m → (r : Result (List ℕ) ParameterFault)
            → set_bytes (entry_at m.sheet node index sub) text node ≡ r
            → is_some (step_of (shape_of_node p) (event.Set node index sub text)) ≡ true
        by m is (Ok bytes) given = ap is_some (step_of_member node index sub text busy m (Ok bytes) is given)
        by m is (Err fault) given = absurd (fault_is_listed fault (record {
          time = time;
          node = node;
          index = index;
          sub = sub;
          text = text;
          member = m;
          there = there;
          is = is;
          fails = given;
        }) none)

pub sets_where_unlisted : (p : Content) (number : ℕ) (e : TimedEvent) → IsSound p → get p.events number ≡ Some e
    → ((is_some (step_of (shape_of_node p) e.event) && not (is_idle p e.event)) ≡ true) ↔ IsUnlisted p number
sets_where_unlisted p number e sound there = (
  λ does d c is. let does_both = both (is_some (step_of (shape_of_node p) e.event)) (is_idle p e.event) does
      in idle_or_stopped p number e there does_both.1 does_both.0 (listed_is p number d c is),
  λ none. let busy : is_idle p e.event ≡ false = unlisted_is_not_idle p number e there none in
      let does : is_some (step_of (shape_of_node p) e.event) ≡ true =
      does_something p number sound e.time e.event there busy none in
      λ i. does i && not (busy i),
)
