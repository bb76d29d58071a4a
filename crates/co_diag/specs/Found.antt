-- The diagnostics of a project as a list. Which they are is said by `Holds`: a law says that the list has exactly what
-- holds, each once, in order.
use Rattle.std.specs.Prelude.{◌≡◌, ℕ, Bool, ◌==◌, ◌&&◌, not, nat_le, if◌then◌else◌, List, [], ◌∷◌, ◌++◌, length, map}
use Rattle.std.specs.Prelude.{filter, filter_map, Contains, Option, Some, None, option_map, option_and_then}
use Rattle.std.specs.FinMap.{entries, get}
use Rattle.std.specs.List.{flat_map}
use Rattle.std.specs.Option.{option_map_or}
use Rattle.std.specs.Result.{result_err}
use Rattle.ini_text.specs.Content.{content_of}
use Rattle.cia301.specs.TransmissionTypes.{is_on_request}
use Rattle.cia301.specs.CobIds.{is_restricted}
use Rattle.eds_device.specs.Entries.{entry_at}
use Rattle.eds_device.specs.Places.{pairs_of}
use Rattle.eds_device.specs.Sheets.{Sheet}
use Rattle.node_parameters.specs.Judgement.{set_bytes}
use Rattle.co_scenario.specs.declared.event.Event.{Event}
use Rattle.co_scenario.specs.declared.timed_event.TimedEvent.{TimedEvent}
use Rattle.project_edits.specs.Versions.{is_three}
use Rattle.project_messages.specs.declared.linked.Linked.{Linked}
use Rattle.project_messages.specs.declared.receive.Receive.{Receive}
use Rattle.pdo_links.specs.VendorWrites.{vendor_link_writes}
use Rattle.pdo_findings.specs.Findings.{refused_places, unplanned_rpdos, unplanned_tpdos}
use Rattle.pdo_stations.specs.declared.as_made.AsMade.{AsMade}
use Rattle.pdo_stations.specs.Devices.{as_made}
use Rattle.pdo_plan.specs.declared.outcome.Outcome.{Outcome}
use Rattle.pdo_plan.specs.declared.outcome.Outcome.TheVariants.{Planned, Faulty}
use Rattle.pdo_plan.specs.declared.planned_message.PlannedMessage.{PlannedMessage}
use Rattle.co_project.specs.Project.{Content, is_controller}
use Rattle.project_plan.specs.Network.{Member, members, plan_of_project}
use Rattle.diag_lines.specs.declared.code.Code.{Code}
use Rattle.diag_lines.specs.declared.code.Code.TheVariants.{SharedIdentifier, RemoteType, NoSync, UnfitConsumer}
use Rattle.diag_lines.specs.declared.code.Code.TheVariants.{SkippedLine, OtherCounter, UnreachedStart, UnplannedTpdo}
use Rattle.diag_lines.specs.declared.code.Code.TheVariants.{UnplannedRpdo, BesideLimits, UselessReceive}
use Rattle.diag_lines.specs.declared.code.Code.TheVariants.{IdleEvent, OtherHeartbeat}
use Rattle.diag_lines.specs.declared.diag.Diag.{Diag}
use Rattle.diag_nodes.specs.Codes.{parameter_code}
use Rattle.co_diag.specs.Faults.{message_code}
use Rattle.diag_nodes.specs.declared.consumer.HeartbeatConsumer.{HeartbeatConsumer}
use Rattle.diag_nodes.specs.Devices.{device_for}
use Rattle.co_diag.specs.Holds.{is_idle, is_useless, producer_time, starts_at_none, type_of, waits_for_none}
use Rattle.co_diag.specs.Rules.{is_unfit}
use Rattle.diag_lines.specs.Order.{diag_cmp}
use Rattle.diag_lines.specs.Sets.{sorted_set}
use Rattle.diag_nodes.specs.Found.{diagnostic, parameter_diagnostic, unreadable_defaults, consumers, identifiers}
use Rattle.diag_nodes.specs.Found.{counters, times}
use Rattle.co_scenario.specs.declared.event.Event.TheVariants as event
use Rattle.diag_lines.specs.declared.subject.Subject.TheVariants as of

-- ---- nodes

-- the faults of a node's own parameters, and of the entries of its EDS
unfoldable pub unfit_parameters : ℕ × Member → List Diag
unfit_parameters e = filter_map (λ own. parameter_diagnostic e own.0) (entries e.1.node.params)
    ++ filter_map (parameter_diagnostic e) (pairs_of e.1.sheet.sections)

-- ---- configured nodes

-- a heartbeat consumer that is unfit, by the times of producers as its device hears them
abbrev pub consumer_diagnostic : (ℕ → ℕ → Option ℕ) → HeartbeatConsumer → Option Diag
consumer_diagnostic time c =
    if is_unfit (time c.node) c.number then Some (diagnostic UnfitConsumer (of.Node c.node (Some c.sub))) else None

unfoldable pub unfit_consumers : Content → List Diag
unfit_consumers p = filter_map (consumer_diagnostic (producer_time p)) (consumers p)

-- an identifier that so many TPDOs have: two or more, and it isn't restricted
abbrev pub identifier_diagnostic : ℕ → ℕ → Option Diag
identifier_diagnostic count id =
    if nat_le 2 count && not (is_restricted id) then Some (diagnostic SharedIdentifier (of.Cob id)) else None

abbrev pub shared_in : List ℕ → ℕ → Option Diag
shared_in ids id = identifier_diagnostic (length (filter (λ n. n == id) ids)) id

unfoldable pub shared_identifiers : Content → List Diag
shared_identifiers p = filter_map (shared_in (identifiers p)) (identifiers p)

-- the synchronous counter overflow value of a node that isn't the network's
abbrev pub counter_diagnostic : ℕ → ℕ × ℕ → Option Diag
counter_diagnostic sync_counter c =
    if not (c.1 == sync_counter) then Some (diagnostic OtherCounter (of.Node c.0 None)) else None

unfoldable pub other_counters : Content → List Diag
other_counters p = filter_map (counter_diagnostic p.sync_counter) (counters p)

-- the producer heartbeat time of the device that the manager runs in, where it isn't the manager's
abbrev pub heartbeat_diagnostic : Content → ℕ × Option ℕ → Option Diag
heartbeat_diagnostic p t = option_and_then
    (λ time. if is_controller p t.0 && not (time == p.manager.heartbeat_ms)
    then Some (diagnostic OtherHeartbeat (of.Node t.0 None)) else None) t.1

unfoldable pub other_heartbeats : Content → List Diag
other_heartbeats p = filter_map (heartbeat_diagnostic p) (times p)

-- ---- messages

abbrev pub message_diagnostics : List ℕ → Outcome → List Diag
message_diagnostics name (Planned c) = []
message_diagnostics name (Faulty faults) = map (λ fault. diagnostic (message_code fault) (of.Message name)) faults

unfoldable pub message_faults : PlannedMessage → List Diag
message_faults m = message_diagnostics m.name m.outcome

-- a message of which this holds, whether it is clean or not
abbrev pub said_if : Bool → Code → List ℕ → List Diag
said_if holds code name = if holds then diagnostic code (of.Message name) ∷ [] else []

-- a transmission type that asks for remote frames, or waits for a SYNC where there is none, and a SYNC start value that
-- no SYNC of the network has
unfoldable pub message_warnings : Content → List ℕ × Linked → List Diag
message_warnings p m =
    said_if (is_on_request (type_of m.1)) RemoteType m.0 ++ said_if (waits_for_none p m.1) NoSync m.0
    ++ said_if (starts_at_none p m.1) UnreachedStart m.0

-- ---- in version 3

-- what is found of the PDOs of a node by itself: those that go beside the plan, and writes beside limits
unfoldable pub pdo_findings : List PlannedMessage → AsMade → ℕ → List Diag
pdo_findings plan device node =
    map (λ number. diagnostic UnplannedTpdo (of.Tpdo node number)) (unplanned_tpdos plan device node)
    ++ map (λ number. diagnostic UnplannedRpdo (of.Rpdo node number)) (unplanned_rpdos plan device node)
    ++ map (λ (place : ℕ × ℕ). diagnostic BesideLimits (of.Limit node place.0 place.1))
    (refused_places device (vendor_link_writes plan device node))

abbrev pub node_findings : List PlannedMessage → ℕ × Member → List Diag
node_findings plan e = pdo_findings plan (as_made e.1.sheet e.0) e.0

-- a receive of a message that is of no use
abbrev pub useless_receive : Content → PlannedMessage → Linked → ℕ × Receive → Option Diag
useless_receive p m linked r =
    if is_useless p linked m.outcome r then Some (diagnostic UselessReceive (of.Receive m.name r.0)) else None

unfoldable pub useless_receives : Content → PlannedMessage → List Diag
useless_receives p m =
    option_map_or (λ (linked : Linked). filter_map (useless_receive p m linked) linked.receives) (get p.messages m.name) []

-- all of it, in version 3 alone
unfoldable pub vendor_findings : Content → List Diag
vendor_findings p =
    if is_three p.version
    then flat_map (node_findings (plan_of_project p)) (members p) ++ flat_map (useless_receives p) (plan_of_project p)
    else []

-- ---- events

-- the fault of what an event sets
abbrev pub set_fault : Content → ℕ → Event → Option Diag
set_fault p number (event.Set node index sub text) =
    option_map (λ fault. diagnostic (parameter_code fault) (of.Event number))
    (option_and_then (λ (sheet : Sheet). result_err (set_bytes (entry_at sheet node index sub) text node))
    (device_for p node))
set_fault p number (event.Power node on) = None
set_fault p number (event.Nmt node command) = None

abbrev pub unfit_event : Content → ℕ × TimedEvent → Option Diag
unfit_event p e = set_fault p e.0 e.1.event

-- an event that does nothing
abbrev pub idle_event : Content → ℕ × TimedEvent → Option Diag
idle_event p e = if is_idle p e.1.event then Some (diagnostic IdleEvent (of.Event e.0)) else None

-- ---- texts

-- these lines of an EDS aren't used, whichever data types count
abbrev pub lines_of : List ℕ → List ℕ → List Diag
lines_of name numbers = map (λ line. diagnostic SkippedLine (of.Eds name line)) numbers

unfoldable pub skipped_lines : List ℕ × List ℕ → List Diag
skipped_lines text = lines_of text.0 (content_of text.1).warnings

-- ---- all

-- what is found of all nodes, of these once they are configured, and of all messages, events and texts
unfoldable pub diagnostics_found : Content → List Diag
diagnostics_found p =
    flat_map unfit_parameters (members p) ++ flat_map unreadable_defaults (members p) ++ unfit_consumers p
    ++ shared_identifiers p ++ other_counters p ++ other_heartbeats p ++ flat_map message_faults (plan_of_project p)
    ++ flat_map (message_warnings p) (entries p.messages) ++ filter_map (unfit_event p) (entries p.events)
    ++ filter_map (idle_event p) (entries p.events)
    ++ flat_map skipped_lines (entries p.texts) ++ vendor_findings p

-- THE DIAGNOSTICS of a project: exactly what holds, each once, in order
unfoldable pub diagnostics_of : Content → List Diag
diagnostics_of p = sorted_set diag_cmp (diagnostics_found p)

-- nothing is listed of an event
abbrev pub IsUnlisted : Content → ℕ → Type 0
IsUnlisted p number = (d : Diag) → Contains (diagnostics_of p) d → d.subject ≡ of.Event number → ⊥
