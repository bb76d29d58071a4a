-- What is wrong with a project: one predicate for each code (CiA 301 and 306 say what an entry, a PDO, an identifier
-- and a heartbeat consumer may be; the codes are this profile's own).
use Rattle.std.specs.Prelude.{◌≡◌, ◌≤◌, ℕ, ◌==◌, ◌&&◌, Bool, true, false, nat_lt, List, length, filter, map, Option}
use Rattle.std.specs.Prelude.{Some, None, option_and_then, option_map, Err, Contains, not, ◌||◌}
use Rattle.std.specs.FinMap.{get}
use Rattle.std.specs.List.{find, flat_map, list_any}
use Rattle.std.specs.Option.{option_map_or, unwrap_or}
use Rattle.ini_text.specs.Content.{content_of}
use Rattle.cia301.specs.TransmissionTypes.{is_on_request, is_synchronous, type_of_byte}
use Rattle.cia301.specs.declared.transmission_type.TransmissionType.{TransmissionType}
use Rattle.cia301.specs.declared.transmission_type.TransmissionType.TheVariants.{Cyclic}
use Rattle.cia301.specs.CobIds.{is_restricted}
use Rattle.eds_device.specs.Described.{default_text, kind_at}
use Rattle.eds_device.specs.Entries.{entry_at}
use Rattle.eds_device.specs.Places.{pairs_of}
use Rattle.eds_device.specs.Sheets.{Sheet}
use Rattle.node_parameters.specs.declared.parameter_fault.ParameterFault.{ParameterFault}
use Rattle.node_parameters.specs.Judgement.{parameter_bytes, set_bytes}
use Rattle.node_parameters.specs.Parameters.{parameter_text}
use Rattle.co_scenario.specs.declared.event.Event.{Event}
use Rattle.co_scenario.specs.declared.event.Event.TheVariants.{Set, Power, Nmt}
use Rattle.co_scenario.specs.declared.timed_event.TimedEvent.{TimedEvent}
use Rattle.project_edits.specs.Versions.{is_three}
use Rattle.project_messages.specs.declared.linked.Linked.{Linked}
use Rattle.project_messages.specs.declared.receive.Receive.{Receive}
use Rattle.pdo_links.specs.VendorWrites.{vendor_link_writes}
use Rattle.pdo_findings.specs.Findings.{can_have_event, refused_places, unplanned_rpdos, unplanned_tpdos}
use Rattle.pdo_choices.specs.declared.clean.Clean.{Clean}
use Rattle.pdo_choices.specs.declared.consumer.Consumer.{Consumer}
use Rattle.pdo_stations.specs.declared.as_made.AsMade.{AsMade}
use Rattle.pdo_stations.specs.Devices.{as_made}
use Rattle.pdo_plan.specs.declared.message_fault.MessageFault.{MessageFault}
use Rattle.pdo_plan.specs.declared.outcome.Outcome.{Outcome}
use Rattle.pdo_plan.specs.declared.outcome.Outcome.TheVariants.{Faulty}
use Rattle.pdo_plan.specs.Plan.{clean_of}
use Rattle.pdo_plan.specs.declared.planned_message.PlannedMessage.{PlannedMessage}
use Rattle.co_project.specs.declared.node.Node.{Node}
use Rattle.co_project.specs.Project.{Content, is_controller}
use Rattle.project_plan.specs.Network.{Member, member_at, members, plan_of_project}
use Rattle.diag_lines.specs.declared.code.Code.{Code}
use Rattle.diag_lines.specs.declared.code.Code.TheVariants.{NoEntry, Unreadable, OutsideLimits, NotWritable, NoObjects}
use Rattle.diag_lines.specs.declared.code.Code.TheVariants.{TpdoTaken, TooManyBits, NotMappable, Mismatched, NoRpdo}
use Rattle.diag_lines.specs.declared.code.Code.TheVariants.{NoDummy, BadIdentifier, NoIdentifier, ReservedType}
use Rattle.diag_lines.specs.declared.code.Code.TheVariants.{SharedIdentifier, NotModelled, RemoteType, NoSync}
use Rattle.diag_lines.specs.declared.code.Code.TheVariants.{UnfitConsumer, SkippedLine, OtherCounter, UnreachedStart}
use Rattle.diag_lines.specs.declared.code.Code.TheVariants.{UnplannedTpdo, UnplannedRpdo, BesideLimits, UselessReceive}
use Rattle.diag_lines.specs.declared.code.Code.TheVariants.{IdleEvent, OtherHeartbeat}
use Rattle.diag_lines.specs.declared.subject.Subject.{Subject}
use Rattle.diag_lines.specs.declared.diag.Diag.{Diag}
use Rattle.project_plan.specs.Doubtful.{spells_none}
use Rattle.project_plan.specs.Values.{number_after}
use Rattle.diag_nodes.specs.Rules.{consumer_at, counter_at, heartbeat_time, identifier_at, numbers_of}
use Rattle.co_diag.specs.Rules.{is_unfit, time_by, time_heard}
use Rattle.diag_nodes.specs.Devices.{device_for}
use Rattle.node_parameters.specs.declared.parameter_fault.ParameterFault.TheVariants as parameter
use Rattle.pdo_plan.specs.declared.message_fault.MessageFault.TheVariants as message
use Rattle.diag_lines.specs.declared.subject.Subject.TheVariants as of

-- a parameter of a node, its own or one of the EDS, has this fault
pub record HasUnfitParameter (p : Content) (fault : ParameterFault) (node index sub : ℕ) : Type 0 where
  pub member : Member
  pub text : List ℕ
  pub is : member_at p node ≡ Some member
  pub given : parameter_text member.sheet.sections member.node.params (index, sub) ≡ Some text
  pub fails : parameter_bytes (entry_at member.sheet node index sub) text node ≡ Err fault

-- what an event sets has this fault; it may be read-only, and outside its limits
pub record SetsUnfitValue (p : Content) (fault : ParameterFault) (number : ℕ) : Type 0 where
  pub time : ℕ
  pub node : ℕ
  pub index : ℕ
  pub sub : ℕ
  pub text : List ℕ
  pub member : Member
  pub there : get p.events number ≡ Some (record { time = time; event = Set node index sub text })
  pub is : member_at p node ≡ Some member
  pub fails : set_bytes (entry_at member.sheet node index sub) text node ≡ Err fault

-- the DefaultValue of an entry of a modelled type spells none of its values at the node
pub record HasUnreadableDefault (p : Content) (node index sub : ℕ) : Type 0 where
  pub member : Member
  pub text : List ℕ
  pub is : member_at p node ≡ Some member
  pub given : default_text member.sheet index sub ≡ Some text
  pub unreadable : spells_none node text (kind_at member.sheet (index, sub)) ≡ true

-- a message has this fault, which keeps it out of the plan
pub record HasMessageFault (p : Content) (fault : MessageFault) (name : List ℕ) : Type 0 where
  pub said : PlannedMessage
  pub faults : List MessageFault
  pub planned : Contains (plan_of_project p) said
  pub named : said.name ≡ name
  pub faulty : said.outcome ≡ Faulty faults
  pub has : Contains faults fault

-- a node takes a message
abbrev pub is_consumer : Linked → ℕ → Bool
is_consumer linked node = list_any (λ s. s.0.1 == node) linked.sinks

-- a message that passes a test, whether it is clean or not
pub record HasMessage (p : Content) (test : Linked → Bool) (name : List ℕ) : Type 0 where
  pub linked : Linked
  pub there : get p.messages name ≡ Some linked
  pub fits : test linked ≡ true

-- the transmission type of a message
abbrev pub type_of : Linked → TransmissionType
type_of linked = type_of_byte linked.message.transmission

-- a type that waits for a SYNC, where the manager sends none
abbrev pub waits_for_none : Content → Linked → Bool
waits_for_none p linked = is_synchronous (type_of linked) && p.manager.sync_us == 0

-- a type by which SYNCs are counted (CiA 301: 1 to 240)
abbrev pub is_cyclic : TransmissionType → Bool
is_cyclic (Cyclic n) = true
is_cyclic other = false

-- SYNCs are counted from a SYNC start value on that is above the network's synchronous counter overflow value, and so
-- that of no SYNC
abbrev pub starts_at_none : Content → Linked → Bool
starts_at_none p linked = is_cyclic (type_of linked) && nat_lt p.sync_counter linked.start

-- a TPDO of a node that is on with an identifier
unfoldable pub sends_with : Content → ℕ → ℕ × Member → ℕ × ℕ → Bool
sends_with p id e place = option_map_or (λ n. n == id) (identifier_at (numbers_of p e) place) false

-- the TPDOs of all nodes that are on with an identifier, each with its node
unfoldable pub senders_with : Content → ℕ → List (ℕ × (ℕ × ℕ))
senders_with p id = flat_map (λ e. map (λ place. (e.0, place)) (filter (sends_with p id e) (pairs_of e.1.sheet.sections)))
    (members p)

-- two or more TPDOs are on with an identifier that isn't restricted
abbrev pub IsShared : Content → ℕ → Type 0
IsShared p id = (2 ≤ length (senders_with p id)) × (is_restricted id ≡ false)

-- the producer heartbeat time (CiA 301, 1017h) of a node in milliseconds, 0 where it sends none; None where there is no
-- such node
abbrev pub time_of_node : Content → ℕ → Option ℕ
time_of_node p n = option_map (λ m. unwrap_or (heartbeat_time (number_after p m n)) 0) (member_at p n)

-- that of the manager or a node as a device hears it
unfoldable pub producer_time : Content → ℕ → ℕ → Option ℕ
producer_time p device node = time_heard (is_controller p device) device (time_by p.manager (time_of_node p)) node

-- a heartbeat consumer of a node (CiA 301, 1016h) is on, and no such node is there, or its heartbeat doesn't come within
-- the time
pub record HasUnfitConsumer (p : Content) (node sub : ℕ) : Type 0 where
  pub member : Member
  pub consumer : ℕ
  pub is : member_at p node ≡ Some member
  pub there : consumer_at (number_after p member node) (0x1016, sub) ≡ Some consumer
  pub unfit : is_unfit (producer_time p node) consumer ≡ true

-- the synchronous counter overflow value (CiA 301, 1019h) that a node has isn't that of the network
pub record HasOtherCounter (p : Content) (node : ℕ) : Type 0 where
  pub member : Member
  pub counter : ℕ
  pub is : member_at p node ≡ Some member
  pub there : counter_at (number_after p member node) ≡ Some counter
  pub other : (counter == p.sync_counter) ≡ false

-- the producer heartbeat time of the device that the manager runs in isn't the manager's
pub record HasOtherHeartbeat (p : Content) (node : ℕ) : Type 0 where
  pub member : Member
  pub time : ℕ
  pub is : member_at p node ≡ Some member
  pub own : is_controller p node ≡ true
  pub there : heartbeat_time (number_after p member node) ≡ Some time
  pub other : (time == p.manager.heartbeat_ms) ≡ false

-- an event does nothing: it switches the power of the device that the manager runs in, or sets its producer heartbeat
-- time
abbrev pub is_idle : Content → Event → Bool
is_idle p (Set node index sub text) = is_controller p node && ((index == 0x1017) && (sub == 0))
is_idle p (Power node on) = is_controller p node
is_idle p (Nmt node command) = false

pub record HasIdleEvent (p : Content) (number : ℕ) : Type 0 where
  pub timed : TimedEvent
  pub there : get p.events number ≡ Some timed
  pub idle : is_idle p timed.event ≡ true

-- a line of the text of an EDS that isn't used
pub record SkipsLine (p : Content) (name : List ℕ) (line : ℕ) : Type 0 where
  pub text : List ℕ
  pub there : get p.texts name ≡ Some text
  pub warned : Contains (content_of text).warnings line

-- ---- in version 3

-- a node of a project of version 3, as its vendor made it
pub record IsMadeNode (p : Content) (node : ℕ) (device : AsMade) : Type 0 where
  pub member : Member
  pub rules : is_three p.version ≡ true
  pub is : member_at p node ≡ Some member
  pub made : device ≡ as_made member.sheet node

-- a TPDO of a node is sent beside the plan
pub record SendsUnplanned (p : Content) (node number : ℕ) : Type 0 where
  pub device : AsMade
  pub made : IsMadeNode p node device
  pub found : Contains (unplanned_tpdos (plan_of_project p) device node) number

-- an RPDO of a node takes what isn't meant for it
pub record TakesUnplanned (p : Content) (node number : ℕ) : Type 0 where
  pub device : AsMade
  pub made : IsMadeNode p node device
  pub found : Contains (unplanned_rpdos (plan_of_project p) device node) number

-- the plan writes beside the limits of an entry of a node's PDOs
pub record IsWrittenBesideLimits (p : Content) (node index sub : ℕ) : Type 0 where
  pub device : AsMade
  pub made : IsMadeNode p node device
  pub found : Contains (refused_places device (vendor_link_writes (plan_of_project p) device node)) (index, sub)

-- the RPDO by which a node takes a message, where that is clean
abbrev pub rpdo_taken : Outcome → ℕ → Option ℕ
rpdo_taken outcome node = option_map (λ (k : Consumer). k.rpdo)
    (option_and_then (λ (c : Clean). find (λ k. k.node == node) c.consumers) (clean_of outcome))

-- an RPDO of a node can't have an event time
abbrev pub lacks_event : Content → ℕ → ℕ → ℕ → Bool
lacks_event p node event rpdo =
    option_map_or (λ (sheet : Sheet). not (can_have_event (as_made sheet node) rpdo event)) (device_for p node) false

-- a receive of a message is of a node that doesn't take it, or of one whose RPDO can't have the event time
unfoldable pub is_useless : Content → Linked → Outcome → ℕ × Receive → Bool
is_useless p linked outcome r =
    not (is_consumer linked r.0) || option_map_or (lacks_event p r.0 r.1.event) (rpdo_taken outcome r.0) false

-- a message has a receive that is of no use
pub record IsUselessReceive (p : Content) (name : List ℕ) (node : ℕ) : Type 0 where
  pub said : PlannedMessage
  pub linked : Linked
  pub receive : Receive
  pub rules : is_three p.version ≡ true
  pub planned : Contains (plan_of_project p) said
  pub named : said.name ≡ name
  pub there : get p.messages name ≡ Some linked
  pub given : Contains linked.receives (node, receive)
  pub useless : is_useless p linked said.outcome (node, receive) ≡ true

-- WHAT HOLDS of a project: a code, and of what
abbrev pub HoldsOf : Content → Code → Subject → Type 0
HoldsOf p NoEntry (of.Param node index sub) = HasUnfitParameter p parameter.NoEntry node index sub
HoldsOf p NoEntry (of.Event number) = SetsUnfitValue p parameter.NoEntry number
HoldsOf p NotModelled (of.Param node index sub) = HasUnfitParameter p parameter.NotModelled node index sub
HoldsOf p NotModelled (of.Event number) = SetsUnfitValue p parameter.NotModelled number
HoldsOf p NotWritable (of.Param node index sub) = HasUnfitParameter p parameter.NotWritable node index sub
HoldsOf p Unreadable (of.Param node index sub) = HasUnfitParameter p parameter.Unreadable node index sub
HoldsOf p Unreadable (of.Event number) = SetsUnfitValue p parameter.Unreadable number
HoldsOf p Unreadable (of.Default node index sub) = HasUnreadableDefault p node index sub
HoldsOf p OutsideLimits (of.Param node index sub) = HasUnfitParameter p parameter.OutsideLimits node index sub
HoldsOf p NoObjects (of.Message name) = HasMessageFault p message.NoObjects name
HoldsOf p TpdoTaken (of.Message name) = HasMessageFault p message.TpdoTaken name
HoldsOf p TooManyBits (of.Message name) = HasMessageFault p message.TooManyBits name
HoldsOf p NotMappable (of.Message name) = HasMessageFault p message.NotMappable name
HoldsOf p Mismatched (of.Message name) = HasMessageFault p message.Mismatched name
HoldsOf p NoRpdo (of.Message name) = HasMessageFault p message.NoRpdo name
HoldsOf p NoDummy (of.Message name) = HasMessageFault p message.NoDummy name
HoldsOf p BadIdentifier (of.Message name) = HasMessageFault p message.BadIdentifier name
HoldsOf p NoIdentifier (of.Message name) = HasMessageFault p message.NoIdentifier name
HoldsOf p ReservedType (of.Message name) = HasMessageFault p message.ReservedType name
HoldsOf p SharedIdentifier (of.Cob id) = IsShared p id
HoldsOf p RemoteType (of.Message name) = HasMessage p (λ linked. is_on_request (type_of linked)) name
HoldsOf p NoSync (of.Message name) = HasMessage p (waits_for_none p) name
HoldsOf p UnfitConsumer (of.Node node (Some sub)) = HasUnfitConsumer p node sub
HoldsOf p SkippedLine (of.Eds name line) = SkipsLine p name line
HoldsOf p OtherCounter (of.Node node None) = HasOtherCounter p node
HoldsOf p UnreachedStart (of.Message name) = HasMessage p (starts_at_none p) name
HoldsOf p IdleEvent (of.Event number) = HasIdleEvent p number
HoldsOf p OtherHeartbeat (of.Node node None) = HasOtherHeartbeat p node
HoldsOf p UnplannedTpdo (of.Tpdo node number) = SendsUnplanned p node number
HoldsOf p UnplannedRpdo (of.Rpdo node number) = TakesUnplanned p node number
HoldsOf p BesideLimits (of.Limit node index sub) = IsWrittenBesideLimits p node index sub
HoldsOf p UselessReceive (of.Receive name node) = IsUselessReceive p name node
HoldsOf p code subject = ⊥

unfoldable pub Holds : Content → Diag → Type 0
Holds p d = HoldsOf p d.code d.subject
