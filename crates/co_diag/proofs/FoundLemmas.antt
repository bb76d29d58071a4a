-- What is found is what holds.
use Rattle.std.proofs.Common.{◌≡◌, ◌↔◌, ◌⊎◌, inl, inr, List, ◌++◌, filter_map, Contains, Some, None}
use Rattle.std.specs.FinMap.{entries}
use Rattle.std.specs.List.{flat_map}
use Rattle.std.proofs.lemmas.List.Elements.{Contains-append_cases, Contains-append_left, Contains-append_right}
use Rattle.node_parameters.specs.declared.parameter_fault.ParameterFault.TheVariants as parameter
use Rattle.pdo_plan.specs.declared.message_fault.MessageFault.TheVariants as message
use Rattle.co_project.specs.Project.{Content}
use Rattle.project_plan.specs.Network.{members, plan_of_project}
use Rattle.diag_lines.specs.declared.code.Code.{Code}
use Rattle.diag_lines.specs.declared.code.Code.TheVariants.{NoEntry, Unreadable, OutsideLimits, NotWritable, NoObjects}
use Rattle.diag_lines.specs.declared.code.Code.TheVariants.{TpdoTaken, TooManyBits, NotMappable, Mismatched, NoRpdo}
use Rattle.diag_lines.specs.declared.code.Code.TheVariants.{NoDummy, BadIdentifier, NoIdentifier, ReservedType}
use Rattle.diag_lines.specs.declared.code.Code.TheVariants.{SharedIdentifier, NotModelled, RemoteType, NoSync}
use Rattle.diag_lines.specs.declared.code.Code.TheVariants.{UnfitConsumer, SkippedLine, OtherCounter, UnreachedStart}
use Rattle.diag_lines.specs.declared.code.Code.TheVariants.{UnplannedTpdo, UnplannedRpdo, BesideLimits, UselessReceive}
use Rattle.diag_lines.specs.declared.code.Code.TheVariants.{IdleEvent, OtherHeartbeat}
use Rattle.diag_lines.specs.declared.subject.Subject.{Subject}
use Rattle.diag_lines.specs.declared.subject.Subject.TheVariants as of
use Rattle.diag_lines.specs.declared.diag.Diag.{Diag}
use Rattle.diag_lines.specs.Order.{diag_cmp}
use Rattle.diag_lines.specs.Sets.{IsListOf, sorted_set}
use Rattle.co_diag.specs.Holds.{HoldsOf, Holds}
use Rattle.diag_nodes.specs.Found.{diagnostic, unreadable_defaults}
use Rattle.co_diag.specs.Found.{unfit_parameters, unfit_consumers, shared_identifiers}
use Rattle.co_diag.specs.Found.{message_faults, message_warnings, unfit_event, skipped_lines, other_counters}
use Rattle.co_diag.specs.Found.{diagnostics_found, diagnostics_of, idle_event, other_heartbeats, vendor_findings}
use Rattle.diag_lines.proofs.OrderLemmas.{diag_total, diag_exact}
use Rattle.diag_lines.proofs.SetLemmas.{one_list, same_sets, set_is}
use Rattle.co_diag.proofs.ParameterFound.{parameters_hold, parameters_listed}
use Rattle.co_diag.proofs.DefaultFound.{defaults_hold, defaults_listed}
use Rattle.co_diag.proofs.ConsumerFound.{consumers_hold, consumers_listed}
use Rattle.co_diag.proofs.CounterFound.{counters_hold, counters_listed}
use Rattle.co_diag.proofs.HeartbeatFound.{heartbeats_hold, heartbeats_listed}
use Rattle.co_diag.proofs.SharedFound.{shared_hold, shared_listed}
use Rattle.co_diag.proofs.MessageFound.{messages_hold, messages_listed, no_syncs_listed, remote_types_listed}
use Rattle.co_diag.proofs.MessageFound.{starts_listed, warnings_hold}
use Rattle.co_diag.proofs.EventFound.{events_hold, events_listed}
use Rattle.co_diag.proofs.IdleFound.{idle_hold, idle_listed}
use Rattle.co_diag.proofs.TextFound.{lines_hold, lines_listed}
use Rattle.co_diag.proofs.VendorFound.{limits_listed, unplanned_rpdos_listed, unplanned_tpdos_listed, useless_listed}
use Rattle.co_diag.proofs.VendorFound.{vendor_findings_hold}

-- what is found, group by group
abbrev parameters : Content → List Diag
parameters p = flat_map unfit_parameters (members p)

abbrev defaults : Content → List Diag
defaults p = flat_map unreadable_defaults (members p)

abbrev messages : Content → List Diag
messages p = flat_map message_faults (plan_of_project p)

abbrev warnings : Content → List Diag
warnings p = flat_map (message_warnings p) (entries p.messages)

abbrev events : Content → List Diag
events p = filter_map (unfit_event p) (entries p.events)

abbrev idle : Content → List Diag
idle p = filter_map (idle_event p) (entries p.events)

abbrev lines : Content → List Diag
lines p = flat_map skipped_lines (entries p.texts)

-- what is found of one of two lists
of_either : (xs ys : List Diag) (P : Diag → Type 0) (d : Diag) → (Contains xs d → P d) → (Contains ys d → P d)
    → Contains (xs ++ ys) d → P d
of_either xs ys P d first second c = by (Contains-append_cases xs ys d c)
  where
    by : Contains xs d ⊎ Contains ys d → P d
    by (inl c) = first c
    by (inr c) = second c

-- the groups up to each
abbrev to_defaults : Content → List Diag
to_defaults p = parameters p ++ defaults p

abbrev to_consumers : Content → List Diag
to_consumers p = to_defaults p ++ unfit_consumers p

abbrev to_shared : Content → List Diag
to_shared p = to_consumers p ++ shared_identifiers p

abbrev to_counters : Content → List Diag
to_counters p = to_shared p ++ other_counters p

abbrev to_heartbeats : Content → List Diag
to_heartbeats p = to_counters p ++ other_heartbeats p

abbrev to_messages : Content → List Diag
to_messages p = to_heartbeats p ++ messages p

abbrev to_warnings : Content → List Diag
to_warnings p = to_messages p ++ warnings p

abbrev to_events : Content → List Diag
to_events p = to_warnings p ++ events p

abbrev to_idle : Content → List Diag
to_idle p = to_events p ++ idle p

abbrev to_lines : Content → List Diag
to_lines p = to_idle p ++ lines p

-- what is found holds
all_hold : (p : Content) (d : Diag) → Contains (diagnostics_found p) d → Holds p d
unfolding diagnostics_found
all_hold p d =
    of_either (to_lines p) (vendor_findings p) (Holds p) d
    (of_either (to_idle p) (lines p) (Holds p) d
    (of_either (to_events p) (idle p) (Holds p) d
    (of_either (to_warnings p) (events p) (Holds p) d
    (of_either (to_messages p) (warnings p) (Holds p) d
    (of_either (to_heartbeats p) (messages p) (Holds p) d
    (of_either (to_counters p) (other_heartbeats p) (Holds p) d
    (of_either (to_shared p) (other_counters p) (Holds p) d
    (of_either (to_consumers p) (shared_identifiers p) (Holds p) d
    (of_either (to_defaults p) (unfit_consumers p) (Holds p) d
    (of_either (parameters p) (defaults p) (Holds p) d
    (parameters_hold p d)
    (defaults_hold p d))
    (consumers_hold p d))
    (shared_hold p d))
    (counters_hold p d))
    (heartbeats_hold p d))
    (messages_hold p d))
    (warnings_hold p d))
    (events_hold p d))
    (idle_hold p d))
    (lines_hold p d))
    (vendor_findings_hold p d)

-- where each group stands
module _ (p : Content) (d : Diag) where
  up_to_lines : Contains (to_lines p) d → Contains (diagnostics_found p) d
  unfolding diagnostics_found
  up_to_lines c = Contains-append_left (to_lines p) (vendor_findings p) d c

  in_vendor : Contains (vendor_findings p) d → Contains (diagnostics_found p) d
  unfolding diagnostics_found
  in_vendor c = Contains-append_right (to_lines p) (vendor_findings p) d c

  up_to_idle : Contains (to_idle p) d → Contains (diagnostics_found p) d
  up_to_idle c = up_to_lines (Contains-append_left (to_idle p) (lines p) d c)

  in_lines : Contains (lines p) d → Contains (diagnostics_found p) d
  in_lines c = up_to_lines (Contains-append_right (to_idle p) (lines p) d c)

  up_to_events : Contains (to_events p) d → Contains (diagnostics_found p) d
  up_to_events c = up_to_idle (Contains-append_left (to_events p) (idle p) d c)

  in_idle : Contains (idle p) d → Contains (diagnostics_found p) d
  in_idle c = up_to_idle (Contains-append_right (to_events p) (idle p) d c)

  up_to_warnings : Contains (to_warnings p) d → Contains (diagnostics_found p) d
  up_to_warnings c = up_to_events (Contains-append_left (to_warnings p) (events p) d c)

  in_events : Contains (events p) d → Contains (diagnostics_found p) d
  in_events c = up_to_events (Contains-append_right (to_warnings p) (events p) d c)

  up_to_messages : Contains (to_messages p) d → Contains (diagnostics_found p) d
  up_to_messages c = up_to_warnings (Contains-append_left (to_messages p) (warnings p) d c)

  in_warnings : Contains (warnings p) d → Contains (diagnostics_found p) d
  in_warnings c = up_to_warnings (Contains-append_right (to_messages p) (warnings p) d c)

  up_to_heartbeats : Contains (to_heartbeats p) d → Contains (diagnostics_found p) d
  up_to_heartbeats c = up_to_messages (Contains-append_left (to_heartbeats p) (messages p) d c)

  up_to_counters : Contains (to_counters p) d → Contains (diagnostics_found p) d
  up_to_counters c = up_to_heartbeats (Contains-append_left (to_counters p) (other_heartbeats p) d c)

  in_heartbeats : Contains (other_heartbeats p) d → Contains (diagnostics_found p) d
  in_heartbeats c = up_to_heartbeats (Contains-append_right (to_counters p) (other_heartbeats p) d c)

  up_to_shared : Contains (to_shared p) d → Contains (diagnostics_found p) d
  up_to_shared c = up_to_counters (Contains-append_left (to_shared p) (other_counters p) d c)

  in_counters : Contains (other_counters p) d → Contains (diagnostics_found p) d
  in_counters c = up_to_counters (Contains-append_right (to_shared p) (other_counters p) d c)

  in_messages : Contains (messages p) d → Contains (diagnostics_found p) d
  in_messages c = up_to_messages (Contains-append_right (to_heartbeats p) (messages p) d c)

  up_to_consumers : Contains (to_consumers p) d → Contains (diagnostics_found p) d
  up_to_consumers c = up_to_shared (Contains-append_left (to_consumers p) (shared_identifiers p) d c)

  in_shared : Contains (shared_identifiers p) d → Contains (diagnostics_found p) d
  in_shared c = up_to_shared (Contains-append_right (to_consumers p) (shared_identifiers p) d c)

  up_to_defaults : Contains (to_defaults p) d → Contains (diagnostics_found p) d
  up_to_defaults c = up_to_consumers (Contains-append_left (to_defaults p) (unfit_consumers p) d c)

  in_consumers : Contains (unfit_consumers p) d → Contains (diagnostics_found p) d
  in_consumers c = up_to_consumers (Contains-append_right (to_defaults p) (unfit_consumers p) d c)

  in_parameters : Contains (parameters p) d → Contains (diagnostics_found p) d
  in_parameters c = up_to_defaults (Contains-append_left (parameters p) (defaults p) d c)

  in_defaults : Contains (defaults p) d → Contains (diagnostics_found p) d
  in_defaults c = up_to_defaults (Contains-append_right (parameters p) (defaults p) d c)

-- what holds is found
all_listed : (p : Content) (code : Code) (subject : Subject) → HoldsOf p code subject
    → Contains (diagnostics_found p) (diagnostic code subject)
all_listed p NoEntry (of.Param n i s) h = in_parameters p _ (parameters_listed p parameter.NoEntry n i s h)
all_listed p NoEntry (of.Event k) h = in_events p _ (events_listed p parameter.NoEntry k h)
all_listed p NotModelled (of.Param n i s) h = in_parameters p _ (parameters_listed p parameter.NotModelled n i s h)
all_listed p NotModelled (of.Event k) h = in_events p _ (events_listed p parameter.NotModelled k h)
all_listed p NotWritable (of.Param n i s) h = in_parameters p _ (parameters_listed p parameter.NotWritable n i s h)
all_listed p Unreadable (of.Param n i s) h = in_parameters p _ (parameters_listed p parameter.Unreadable n i s h)
all_listed p Unreadable (of.Event k) h = in_events p _ (events_listed p parameter.Unreadable k h)
all_listed p Unreadable (of.Default n i s) h = in_defaults p _ (defaults_listed p n i s h)
all_listed p OutsideLimits (of.Param n i s) h = in_parameters p _ (parameters_listed p parameter.OutsideLimits n i s h)
all_listed p NoObjects (of.Message name) h = in_messages p _ (messages_listed p message.NoObjects name h)
all_listed p TpdoTaken (of.Message name) h = in_messages p _ (messages_listed p message.TpdoTaken name h)
all_listed p TooManyBits (of.Message name) h = in_messages p _ (messages_listed p message.TooManyBits name h)
all_listed p NotMappable (of.Message name) h = in_messages p _ (messages_listed p message.NotMappable name h)
all_listed p Mismatched (of.Message name) h = in_messages p _ (messages_listed p message.Mismatched name h)
all_listed p NoRpdo (of.Message name) h = in_messages p _ (messages_listed p message.NoRpdo name h)
all_listed p NoDummy (of.Message name) h = in_messages p _ (messages_listed p message.NoDummy name h)
all_listed p BadIdentifier (of.Message name) h = in_messages p _ (messages_listed p message.BadIdentifier name h)
all_listed p NoIdentifier (of.Message name) h = in_messages p _ (messages_listed p message.NoIdentifier name h)
all_listed p ReservedType (of.Message name) h = in_messages p _ (messages_listed p message.ReservedType name h)
all_listed p SharedIdentifier (of.Cob id) h = in_shared p _ (shared_listed p id h)
all_listed p RemoteType (of.Message name) h = in_warnings p _ (remote_types_listed p name h)
all_listed p NoSync (of.Message name) h = in_warnings p _ (no_syncs_listed p name h)
all_listed p UnfitConsumer (of.Node n (Some s)) h = in_consumers p _ (consumers_listed p n s h)
all_listed p SkippedLine (of.Eds name line) h = in_lines p _ (lines_listed p name line h)
all_listed p OtherCounter (of.Node n None) h = in_counters p _ (counters_listed p n h)
all_listed p UnreachedStart (of.Message name) h = in_warnings p _ (starts_listed p name h)
all_listed p IdleEvent (of.Event k) h = in_idle p _ (idle_listed p k h)
all_listed p OtherHeartbeat (of.Node n None) h = in_heartbeats p _ (heartbeats_listed p n h)
all_listed p UnplannedTpdo (of.Tpdo n k) h = in_vendor p _ (unplanned_tpdos_listed p n k h)
all_listed p UnplannedRpdo (of.Rpdo n k) h = in_vendor p _ (unplanned_rpdos_listed p n k h)
all_listed p BesideLimits (of.Limit n i s) h = in_vendor p _ (limits_listed p n i s h)
all_listed p UselessReceive (of.Receive name n) h = in_vendor p _ (useless_listed p name n h)
all_listed p code subject h = absurd h

found_holds : (p : Content) (d : Diag) → Contains (diagnostics_found p) d ↔ Holds p d
unfolding Holds
found_holds p d = (all_hold p d, all_listed p d.code d.subject)

-- THE LIST has exactly what holds, each once, in order
pub the_list : (p : Content) → IsListOf diag_cmp (Holds p) (diagnostics_of p)
unfolding diagnostics_of
the_list p = set_is diag_total diag_exact (Holds p) (diagnostics_found p) (found_holds p)

-- and there is no other
pub two_lists : (p : Content) (xs ys : List Diag) → IsListOf diag_cmp (Holds p) xs → IsListOf diag_cmp (Holds p) ys
    → xs ≡ ys
two_lists p xs ys = one_list diag_total (Holds p) xs ys

-- what has all that is found, in any order and however often, sorted
pub collected : (p : Content) (ds : List Diag) → ((d : Diag) → Contains ds d ↔ Contains (diagnostics_found p) d)
    → sorted_set diag_cmp ds ≡ diagnostics_of p
unfolding diagnostics_of
collected p ds same = same_sets diag_total diag_exact ds (diagnostics_found p) same
