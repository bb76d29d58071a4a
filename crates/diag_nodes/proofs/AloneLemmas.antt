-- What is kept of a node: of one that sends no message what there is by itself, and of each what its values say.
use Rattle.std.proofs.Common.{◌≡◌, ℕ, Bool, true, false, List, [], ◌∷◌, ◌++◌, Option, sym, ap, ◌∙◌}
use Rattle.std.specs.Prelude.{filter, filter_map, option_map}
use Rattle.std.specs.List.{cons_option}
use Rattle.co_dict.specs.Values.{Values}
use Rattle.eds_device.specs.Places.{pairs_of}
use Rattle.eds_device.specs.Sheets.{Sheet}
use Rattle.concise_dcf.specs.declared.write.Write.{Write}
use Rattle.concise_dcf.specs.Writes.{place_of}
use Rattle.pdo_stations.specs.declared.as_made.AsMade.{AsMade}
use Rattle.pdo_stations.specs.Devices.{as_made}
use Rattle.pdo_links.specs.VendorWrites.{vendor_link_writes}
use Rattle.pdo_plan.specs.declared.planned_message.PlannedMessage.{PlannedMessage}
use Rattle.project_plan.specs.Network.{Member}
use Rattle.project_plan.specs.Values.{after_writes, number_among, Numbers}
use Rattle.project_plan.specs.Wanted.{is_tpdo_cob_id, sends, values_given, wanted_by, with_tpdos}
use Rattle.project_plan.proofs.SentLemmas.{nothing_sent}
use Rattle.diag_nodes.specs.declared.consumer.HeartbeatConsumer.{HeartbeatConsumer}
use Rattle.diag_nodes.specs.declared.kept.Kept.{Kept}
use Rattle.diag_nodes.specs.Alone.{alone, IsKeptOf, Keeps}
use Rattle.diag_nodes.specs.Kept.{numbers_by}
use Rattle.diag_nodes.specs.Rules.{consumer_of, counter_at, heartbeat_time, identifier_at}

module _ (plan : List PlannedMessage) (e : ℕ × Member) (none : sends plan e.0 ≡ false) where
  unsent : alone e ≡ numbers_by false plan e
  unsent = ap (number_among e.1.sheet)
      (sym (nothing_sent (values_given e.1.sheet e.1.node.params e.0) e.0 plan none))

  pub keeps_alone : (old new more : Kept) → IsKeptOf alone e more
      → new.identifiers.items ≡ old.identifiers.items ++ more.identifiers.items
      → new.consumers.items ≡ old.consumers.items ++ more.consumers.items
      → new.times.items ≡ old.times.items ++ more.times.items
      → new.counters.items ≡ old.counters.items ++ more.counters.items
      → Keeps (numbers_by false plan) e old new
  keeps_alone old new more is identifiers consumers times counters = record {
    identifiers = identifiers ∙ ap (λ (xs : List ℕ). old.identifiers.items ++ xs) (is.identifiers
        ∙ ap (λ (n : Numbers). filter_map (identifier_at n) (pairs_of e.1.sheet.sections)) unsent);
    consumers = consumers ∙ ap (λ (xs : List HeartbeatConsumer). old.consumers.items ++ xs) (is.consumers
        ∙ ap (λ (n : Numbers). filter_map (consumer_of n e.0) (pairs_of e.1.sheet.sections)) unsent);
    times = times ∙ ap (λ (xs : List (ℕ × Option ℕ)). old.times.items ++ xs) (is.times
        ∙ ap (λ (n : Numbers). (e.0, heartbeat_time n) ∷ []) unsent);
    counters = counters ∙ ap (λ (xs : List (ℕ × ℕ)). old.counters.items ++ xs) (is.counters
        ∙ ap (λ (n : Numbers). cons_option (option_map (λ c. (e.0, c)) (counter_at n)) []) unsent);
  }

-- what is kept of a node by its number, its data sheet and the values that are wanted of it
module _ (is_three : Bool) (plan : List PlannedMessage) (e : ℕ × Member) (old new : Kept) where
  pub keeps_wanted : (id : ℕ) (sheet : Sheet) (values : Values) → id ≡ e.0 → sheet ≡ e.1.sheet
      → values ≡ wanted_by is_three plan e
      → new.identifiers.items ≡ old.identifiers.items
      ++ filter_map (identifier_at (number_among sheet values)) (pairs_of sheet.sections)
      → new.consumers.items ≡ old.consumers.items
      ++ filter_map (consumer_of (number_among sheet values) id) (pairs_of sheet.sections)
      → new.times.items ≡ old.times.items ++ (id, heartbeat_time (number_among sheet values)) ∷ []
      → new.counters.items ≡ old.counters.items
      ++ cons_option (option_map (λ n. (id, n)) (counter_at (number_among sheet values))) []
      → Keeps (numbers_by is_three plan) e old new
  keeps_wanted id sheet values id_is sheet_is wanted identifiers consumers times counters =
      record {
        identifiers = identifiers ∙ (λ i. old.identifiers.items
            ++ filter_map (identifier_at (number_among (sheet_is i) (wanted i))) (pairs_of (sheet_is i).sections));
        consumers = consumers ∙ (λ i. old.consumers.items
            ++ filter_map (consumer_of (number_among (sheet_is i) (wanted i)) (id_is i)) (pairs_of (sheet_is i).sections));
        times = times ∙ (λ i. old.times.items
            ++ (id_is i, heartbeat_time (number_among (sheet_is i) (wanted i))) ∷ []);
        counters = counters ∙ (λ i. old.counters.items ++ cons_option
            (option_map (λ n. (id_is i, n)) (counter_at (number_among (sheet_is i) (wanted i)))) []);
      }

-- the values that are wanted of a node by what is given to it
module _ (plan : List PlannedMessage) (e : ℕ × Member) (given : Values)
    (given_is : given ≡ values_given e.1.sheet e.1.node.params e.0) where
  pub wanted_as_planned : (id : ℕ) → id ≡ e.0 → with_tpdos given id plan ≡ wanted_by false plan e
  wanted_as_planned id id_is = λ i. with_tpdos (given_is i) (id_is i) plan

  -- and by what the plan writes to the PDOs of the device as it was made
  pub wanted_as_made : (id : ℕ) (sheet : Sheet) (made : AsMade) (writes : List Write) → id ≡ e.0
      → sheet ≡ e.1.sheet → made ≡ as_made sheet id → writes ≡ vendor_link_writes plan made id
      → after_writes given (filter (λ w. is_tpdo_cob_id (place_of w)) writes) ≡ wanted_by true plan e
  wanted_as_made id sheet made writes id_is sheet_is made_is writes_are =
      ap (λ (ws : List Write). after_writes given (filter (λ w. is_tpdo_cob_id (place_of w)) ws)) writes_are
      ∙ (λ i. after_writes (given_is i) (filter (λ w. is_tpdo_cob_id (place_of w))
      (vendor_link_writes plan (device i) (id_is i))))
    where
      device : made ≡ as_made e.1.sheet e.0
      device = made_is ∙ (λ i. as_made (sheet_is i) (id_is i))
