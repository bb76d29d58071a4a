-- The events that set what they can't are found.
use Rattle.std.proofs.Common.{◌≡◌, ℕ, Bool, true, false, not, List, filter_map, Contains, Option, Some, None, Result}
use Rattle.std.proofs.Common.{Ok, Err, refl, sym, ap, subst, ◌∙◌}
use Rattle.std.specs.Prelude.{if◌then◌else◌, option_map, option_and_then}
use Rattle.std.specs.FinMap.{entries, get}
use Rattle.std.specs.Option.{option_map_or}
use Rattle.std.specs.Result.{result_err}
use Rattle.std.proofs.lemmas.Cmp.{nat_cmp_total}
use Rattle.std.proofs.lemmas.Map.Lookups.{exact_unsigned}
use Rattle.co_values.specs.Types.{is_modelled}
use Rattle.co_values.specs.Values.{value}
use Rattle.co_dict.specs.declared.entry.Entry.{Entry}
use Rattle.co_scenario.specs.declared.event.Event.{Event}
use Rattle.co_scenario.specs.declared.event.Event.TheVariants as event
use Rattle.co_scenario.specs.declared.timed_event.TimedEvent.{TimedEvent}
use Rattle.eds_device.specs.Entries.{entry_at}
use Rattle.eds_device.specs.Sheets.{Sheet}
use Rattle.node_parameters.specs.declared.parameter_fault.ParameterFault.{ParameterFault}
use Rattle.node_parameters.specs.declared.parameter_fault.ParameterFault.TheVariants as parameter
use Rattle.node_parameters.specs.Judgement.{set_bytes}
use Rattle.node_parameters.proofs.WrittenLemmas.{Contains-filter_map, from_filter_map}
use Rattle.co_project.specs.declared.node.Node.{Node}
use Rattle.co_project.specs.Project.{Content}
use Rattle.co_project.specs.Tables.{node_at}
use Rattle.project_plan.specs.Network.{Member, device_at, member_at, with_sheet}
use Rattle.diag_lines.specs.declared.diag.Diag.{Diag}
use Rattle.diag_lines.specs.declared.subject.Subject.TheVariants as of
use Rattle.diag_nodes.specs.Codes.{parameter_code}
use Rattle.co_diag.specs.Holds.{SetsUnfitValue, HoldsOf, Holds}
use Rattle.diag_nodes.specs.Found.{diagnostic}
use Rattle.co_diag.specs.Found.{set_fault, unfit_event}
use Rattle.diag_nodes.specs.Devices.{device_for}
use Rattle.diag_nodes.proofs.MemberLemmas.{at_entry, entry_of}

-- ---- which faults there are

-- a fault that asks for neither access nor limits
of_sets : ParameterFault → Bool
of_sets parameter.NoEntry = true
of_sets parameter.NotModelled = true
of_sets parameter.NotWritable = false
of_sets parameter.Unreadable = true
of_sets parameter.OutsideLimits = false

set_faults : (entry : Option Entry) (text : List ℕ) (node : ℕ) (fault : ParameterFault)
    → set_bytes entry text node ≡ Err fault → of_sets fault ≡ true
unfolding set_bytes of_sets
set_faults None text node fault h = let same : parameter.NoEntry ≡ fault = cc in ap of_sets (sym same)
set_faults (Some entry) text node fault h = by (is_modelled entry.kind) (value entry.kind text node) h
  where
    by : (b : Bool) (o : Option (List ℕ)) → (let unmodelled : Result (List ℕ) ParameterFault = Err parameter.NotModelled
        in let unreadable : Result (List ℕ) ParameterFault = Err parameter.Unreadable in
        (if not b then unmodelled else option_map_or Ok o unreadable) ≡ Err fault) → of_sets fault ≡ true
    by false o h = let same : parameter.NotModelled ≡ fault = cc in ap of_sets (sym same)
    by true None h = let same : parameter.Unreadable ≡ fault = cc in ap of_sets (sym same)
    by true (Some bytes) h = cc

-- each fault of what an event sets has its code
of_code : (p : Content) (fault : ParameterFault) (number : ℕ) → of_sets fault ≡ true → SetsUnfitValue p fault number
    → HoldsOf p (parameter_code fault) (of.Event number)
unfolding of_sets
of_code p parameter.NoEntry number is h = h
of_code p parameter.NotModelled number is h = h
of_code p parameter.NotWritable number is h = cc
of_code p parameter.Unreadable number is h = h
of_code p parameter.OutsideLimits number is h = cc

-- ---- the device of a node

-- the data sheet of a member is its device
by_device : {X : Type 0} (g : Sheet → Option X) (p : Content) (id : ℕ)
    → option_and_then g (device_for p id) ≡ option_and_then (λ (m : Member). g m.sheet) (member_at p id)
unfolding member_at
by_device {X} g p id = by (node_at p.nodes id)
  where
    there : (node : Node) (o : Option Sheet) → option_and_then g o
        ≡ option_and_then (λ (m : Member). g m.sheet) (option_map (λ sheet. record { node = node; sheet = sheet }) o)
    there node None = refl
    there node (Some sheet) = refl

    by : (o : Option Node) → option_and_then g (option_and_then (λ (node : Node). device_at p node.eds) o)
        ≡ option_and_then (λ (m : Member). g m.sheet) (option_and_then (with_sheet p) o)
    by None = refl
    by (Some node) = there node (device_at p node.eds)

-- what is said of an event that sets a value of a member
abbrev set_of_member : ℕ → ℕ → ℕ → ℕ → List ℕ → Option Member → Option Diag
set_of_member number node index sub text o = option_map (λ fault. diagnostic (parameter_code fault) (of.Event number))
    (option_and_then (λ (m : Member). result_err (set_bytes (entry_at m.sheet node index sub) text node)) o)

set_is : (p : Content) (number node index sub : ℕ) (text : List ℕ)
    → set_fault p number (event.Set node index sub text)
    ≡ set_of_member number node index sub text (member_at p node)
set_is p number node index sub text = ap (option_map (λ fault. diagnostic (parameter_code fault) (of.Event number)))
    (by_device (λ sheet. result_err (set_bytes (entry_at sheet node index sub) text node)) p node)

-- ---- what is found holds

-- the fault of what is found
record Unfit (p : Content) (number time : ℕ) (e : Event) (d : Diag) : Type 0 where
  fault : ParameterFault
  sets : get p.events number ≡ Some (record { time = time; event = e }) → SetsUnfitValue p fault number
  possible : of_sets fault ≡ true
  is : diagnostic (parameter_code fault) (of.Event number) ≡ d

unfit_by : (p : Content) (number time : ℕ) (e : Event) (d : Diag) → set_fault p number e ≡ Some d
    → Unfit p number time e d
unfit_by p number time (event.Power node on) d h = cc
unfit_by p number time (event.Nmt node command) d h = cc
unfit_by p number time (event.Set node index sub text) d h =
    by (member_at p node) refl (sym (set_is p number node index sub text) ∙ h)
  where
    judge : Member → Result (List ℕ) ParameterFault
    judge m = set_bytes (entry_at m.sheet node index sub) text node

    with : (m : Member) → member_at p node ≡ Some m → (r : Result (List ℕ) ParameterFault) → judge m ≡ r
        → option_map (λ fault. diagnostic (parameter_code fault) (of.Event number)) (result_err r) ≡ Some d
        → Unfit p number time (event.Set node index sub text) d
    with m is (Ok bytes) j h = cc
    with m is (Err fault) j h =
        let same : diagnostic (parameter_code fault) (of.Event number) ≡ d = cc in
        record {
          fault = fault;
          sets = λ there. record {
            time = time;
            node = node;
            index = index;
            sub = sub;
            text = text;
            member = m;
            there = there;
            is = is;
            fails = j;
          };
          possible = set_faults (entry_at m.sheet node index sub) text node fault j;
          is = same;
        }

    by : (o : Option Member) → member_at p node ≡ o
        → option_map (λ fault. diagnostic (parameter_code fault) (of.Event number))
        (option_and_then (λ m. result_err (judge m)) o) ≡ Some d
        → Unfit p number time (event.Set node index sub text) d
    by None is h = cc
    by (Some m) is h = with m is (judge m) refl h

pub events_hold : (p : Content) (d : Diag) → Contains (filter_map (unfit_event p) (entries p.events)) d → Holds p d
unfolding Holds
events_hold p d c =
    let one = from_filter_map (unfit_event p) (entries p.events) d c in
    let u : Unfit p one.0.0 one.0.1.time one.0.1.event d = unfit_by p one.0.0 one.0.1.time one.0.1.event d one.2 in
    subst (λ (x : Diag). HoldsOf p x.code x.subject) u.is
    (of_code p u.fault one.0.0 u.possible (u.sets (at_entry nat_cmp_total exact_unsigned p.events one.0 one.1)))

-- ---- what holds is found

pub events_listed : (p : Content) (fault : ParameterFault) (number : ℕ) → SetsUnfitValue p fault number
    → Contains (filter_map (unfit_event p) (entries p.events)) (diagnostic (parameter_code fault) (of.Event number))
events_listed p fault number h =
    let e : TimedEvent = record { time = h.time; event = event.Set h.node h.index h.sub h.text } in
    let it : ParameterFault → Diag = λ fault. diagnostic (parameter_code fault) (of.Event number) in
    let found : unfit_event p (number, e) ≡ Some (diagnostic (parameter_code fault) (of.Event number)) =
    set_is p number h.node h.index h.sub h.text
    ∙ ap (set_of_member number h.node h.index h.sub h.text) h.is
    ∙ ap (λ (r : Result (List ℕ) ParameterFault). option_map it (result_err r)) h.fails in
    Contains-filter_map (unfit_event p) (entries p.events) (number, e)
    (diagnostic (parameter_code fault) (of.Event number))
    (entry_of nat_cmp_total exact_unsigned p.events number e h.there) found
