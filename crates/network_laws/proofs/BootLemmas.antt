-- What the manager makes of the exchange: a boot begins, takes a step by an answer, or has failed.
use Rattle.std.proofs.Common.{◌≡◌, ℕ, ◌+◌, Bool, true, List, [], ◌∷◌, ◌++◌, Option, Some, None}
use Rattle.std.proofs.Common.{◌⊎◌, inl, inr, refl, sym, ap, subst, arith}
use Rattle.network_laws.specs.Steps.{ComparesOrWrites, FollowsAnswer, StartsWrite, WritesOn}
use Rattle.network_laws.specs.Boots.{IsBootUpOf}
use Rattle.can_bus.specs.declared.slot.Slot.{Slot}
use Rattle.can_frame.specs.Identifiers.{error_control_id, sdo_answer_id}
use Rattle.can_frame.specs.declared.waiting.Waiting.{Waiting}
use Rattle.co_device.specs.Device.{Device}
use Rattle.image_parts.specs.Contents.{Image, write_of}
use Rattle.image_parts.specs.declared.part.Part.TheVariants.{Boot}
use Rattle.sdo_client.specs.Client.{after_answer}
use Rattle.sdo_client.specs.declared.client_transfer.ClientTransfer.{ClientTransfer}
use Rattle.sdo_client.specs.declared.progress.Progress.{Progress}
use Rattle.sdo_client.specs.declared.progress.Progress.TheVariants as progress
use Rattle.concise_dcf.specs.declared.write.Write.{Write}
use Rattle.network_laws.specs.Leaves.{answers_of}
use Rattle.network_laws.specs.Exchanges.{Anything, Asks, Exchanges, HoldsBelow, IsBooting, IsExchanging}
use Rattle.network_laws.specs.Exchanges.{IsOneAtMost, IsTraffic, Silence, TellsTruth, Tells, Traffic}
use Rattle.network_laws.specs.Exchanges.{bytes_of, requests_under_way}
use Rattle.image_parts.specs.Configured.{IsWrite}
use Rattle.concise_dcf.specs.Writes.{place_of}
use Rattle.network_laws.proofs.DeviceLemmas.{AsStage, here_on_wire}
use Rattle.network_laws.proofs.ListLemmas.{both_empty, head_is, none_has_bytes, not_empty, one_of_two}
use Rattle.network_laws.proofs.Others.{download_starts}
use Rattle.network_laws.proofs.ValueLemmas.{none_below}
use Rattle.manager_nodes.specs.Table.{is_own, sdo_frames}
use Rattle.node_boot.specs.Boot.{write_started}
use Rattle.node_boot.specs.declared.boot_stage.BootStage.{BootStage}
use Rattle.node_boot.specs.declared.boot_stage.BootStage.TheVariants.{Unseen, Comparing, Writing, Configured, Failed, Own}
use Rattle.node_boot.specs.declared.boot_step.BootStep.{BootStep}

-- the request of a step is the frame that is under way
abbrev traffic_of : Option (List ℕ) → Traffic
traffic_of None = Silence
traffic_of (Some r) = Asks r

one_at_most : (r : Option (List ℕ)) → IsOneAtMost (traffic_of r)
one_at_most None = tt
one_at_most (Some r) = tt

module _ (image : Image) (node deadline : ℕ) (marks : ℕ × ℕ → Bool) (d : Device) where
  abbrev As : BootStep → Type 0
  As step = AsStage image node marks d.values d.transfer step.stage (traffic_of step.request)

  -- a write is started, or the boot is completed
  starts_as : (j : ℕ) (w : Option Write) → write_of (image (Boot node j)) ≡ w
      → HoldsBelow image node marks d.values j → As (write_started deadline j w)
  unfolding write_started
  starts_as j None e below = (tt, (j, (e, below)))
  starts_as j (Some w) e below = (w, (e, (below, download_starts (place_of w) w.bytes d.transfer)))

  started_as : (j : ℕ) (step : BootStep) → StartsWrite image deadline node j step
      → HoldsBelow image node marks d.values j → As step
  started_as j step e below = subst As (sym e) (starts_as j (write_of (image (Boot node j))) refl below)

  compares_as : (step : BootStep) (s : BootStage) → step.stage ≡ s → ComparesOrWrites image deadline node step s
      → As step
  compares_as step Unseen is c = absurd c
  compares_as step (Comparing place expected client moment) is c =
      subst (λ (x : BootStage). AsStage image node marks d.values d.transfer x (traffic_of step.request)) (sym is)
      (one_at_most step.request)
  compares_as step (Writing place client moment) is c =
      started_as 0 step c (none_below image node marks d.values)
  compares_as step Configured is c = started_as 0 step c (none_below image node marks d.values)
  compares_as step Failed is c =
      subst (λ (x : BootStage). AsStage image node marks d.values d.transfer x (traffic_of step.request)) (sym is) tt
  compares_as step Own is c = absurd c

  -- by an answer that tells the truth
  writes_as : (j old : ℕ) (w : Write) → IsWrite image node j w → (client : ClientTransfer) (a : List ℕ)
      → TellsTruth image node marks d.values d.transfer j w client a → (p : Option Progress)
      → (after_answer client a).progress ≡ p → (step : BootStep)
      → WritesOn image deadline old node j (after_answer client a).stage p step → As step
  writes_as j old w is client a truth None e step f = subst As (sym f) tt
  writes_as j old w is client a truth (Some (progress.Ask request)) e step f =
      subst As (sym f) (w, (is, truth.goes_on request e))
  writes_as j old w is client a truth (Some progress.Written) e step f = started_as (j + 1) step f (truth.written e)
  writes_as j old w is client a truth (Some (progress.Read bytes)) e step f = subst As (sym f) tt
  writes_as j old w is client a truth (Some (progress.Failed abort frame)) e step f =
      subst (λ (x : BootStage). AsStage image node marks d.values d.transfer x (traffic_of step.request)) (sym f) tt

  answered_as : (stage : BootStage) (a : List ℕ) (step : BootStep)
      → AsStage image node marks d.values d.transfer stage (Tells a)
      → FollowsAnswer image deadline node a step stage → As step
  answered_as Unseen a step h f = absurd h
  answered_as (Comparing place expected client old) a step h f = compares_as step step.stage refl f
  answered_as (Writing j client old) a step h f =
      writes_as j old h.0 h.1.0 client a h.1.1 (after_answer client a).progress refl step f
  answered_as Configured a step h f = absurd h.0
  answered_as Failed a step h f = subst As (sym f) tt
  answered_as Own a step h f = absurd h

  failed_as : (stage : BootStage) (a : List ℕ) (step : BootStep)
      → AsStage image node marks d.values d.transfer stage Anything
      → FollowsAnswer image deadline node a step stage
      → AsStage image node marks d.values d.transfer step.stage Anything
  failed_as Unseen a step h f = absurd h
  failed_as (Comparing place expected client old) a step h f = absurd h
  failed_as (Writing j client old) a step h f = absurd h
  failed_as Configured a step h f = absurd h.0
  failed_as Failed a step h f =
      subst (λ (x : BootStep). AsStage image node marks d.values d.transfer x.stage Anything) (sym f) tt
  failed_as Own a step h f = absurd h

  -- to the manager's own node nothing is under way
  own_silence : (stage : BootStage) → is_own stage ≡ true
      → AsStage image node marks d.values d.transfer stage Silence
  own_silence Unseen e = absurd cc
  own_silence (Comparing place expected client old) e = absurd cc
  own_silence (Writing j client old) e = absurd cc
  own_silence Configured e = absurd cc
  own_silence Failed e = absurd cc
  own_silence Own e = tt

  -- ---- with nothing else under way, the request of the step is the traffic

  is_sent : (r : Option (List ℕ)) → answers_of d.waiting ≡ []
      → IsTraffic (bytes_of (sdo_frames node r) ++ []) (bytes_of (answers_of d.waiting) ++ []) (traffic_of r)
  is_sent None silent = (refl, ap (λ (ws : List Waiting). bytes_of ws ++ []) silent)
  is_sent (Some r) silent = (refl, ap (λ (ws : List Waiting). bytes_of ws ++ []) silent)

  stepped : (step : BootStep) → answers_of d.waiting ≡ [] → As step
      → IsExchanging image node marks d step.stage (sdo_frames node step.request) None
  stepped step silent h = record {
    no_boot_up = λ x. x;
    traffic = traffic_of step.request;
    is_traffic = is_sent step.request silent;
    is_as_stage = h;
  }

  module _ (stage : BootStage) (requests : List Waiting) where
    -- its boot-up message was on the wire
    pub exchange_begins : (slot : Slot) → IsBootUpOf node (Some slot) → (step : BootStep)
        → ComparesOrWrites image deadline node step step.stage
        → Exchanges image node marks d stage requests (Some slot)
        → Exchanges image node marks d step.stage (sdo_frames node step.request) None
    exchange_begins slot boot_up step c h on up = by (h on up)
      where
        by : IsBooting node d (Some slot) ⊎ IsExchanging image node marks d stage requests (Some slot)
            → IsBooting node d None
            ⊎ IsExchanging image node marks d step.stage (sdo_frames node step.request) None
        by (inl b) = inr (stepped step b.silent (compares_as step step.stage refl c))
        by (inr x) = absurd (x.no_boot_up boot_up)

    -- and the node is the manager's own, to which no request waits
    pub own_greeted : (slot : Slot) → IsBootUpOf node (Some slot) → is_own stage ≡ true → requests ≡ []
        → Exchanges image node marks d stage requests (Some slot) → Exchanges image node marks d stage requests None
    own_greeted slot boot_up itself unasked h on up = by (h on up)
      where
        by : IsBooting node d (Some slot) ⊎ IsExchanging image node marks d stage requests (Some slot)
            → IsBooting node d None ⊎ IsExchanging image node marks d stage requests None
        by (inl b) = inr (record {
          no_boot_up = λ x. x;
          traffic = Silence;
          is_traffic = (
            ap (λ (ws : List Waiting). bytes_of ws ++ []) unasked,
            ap (λ (ws : List Waiting). bytes_of ws ++ []) b.silent,
          );
          is_as_stage = own_silence stage itself;
        })
        by (inr x) = absurd (x.no_boot_up boot_up)

    -- its boot has failed
    pub exchange_fails : (later : List Waiting) (wire : Option Slot)
        → Exchanges image node marks d stage requests wire → Exchanges image node marks d Failed later wire
    exchange_fails later wire h on up = by (h on up)
      where
        by : IsBooting node d wire ⊎ IsExchanging image node marks d stage requests wire
            → IsBooting node d wire ⊎ IsExchanging image node marks d Failed later wire
        by (inl b) = inl b
        by (inr x) = inr (record {
          no_boot_up = x.no_boot_up;
          traffic = Anything;
          is_traffic = tt;
          is_as_stage = tt;
        })

    -- its answer was on the wire
    module _ (slot : Slot) (of_node : slot.frame.id ≡ sdo_answer_id node) (step : BootStep)
        (f : FollowsAnswer image deadline node slot.frame.bytes step stage) where
      abbrev Steps : Type 0
      Steps = IsExchanging image node marks d step.stage (requests ++ sdo_frames node step.request) None

      by_traffic : (traffic : Traffic)
          → IsTraffic (requests_under_way node requests (Some slot))
          (bytes_of (answers_of d.waiting) ++ slot.frame.bytes ∷ []) traffic
          → AsStage image node marks d.values d.transfer stage traffic → Steps
      by_traffic Silence is h = not_empty slot.frame.bytes [] (both_empty (bytes_of (answers_of d.waiting)) _ is.1).1
      by_traffic (Asks r) is h = not_empty slot.frame.bytes [] (both_empty (bytes_of (answers_of d.waiting)) _ is.1).1
      by_traffic (Tells a) is h = by (one_of_two (bytes_of (answers_of d.waiting)) (slot.frame.bytes ∷ []) a is.1)
        where
          unsent : requests ≡ []
          unsent = none_has_bytes requests (both_empty (bytes_of requests) _ is.0).0

          by : ((bytes_of (answers_of d.waiting) ≡ a ∷ []) × (slot.frame.bytes ∷ [] ≡ []))
              ⊎ ((bytes_of (answers_of d.waiting) ≡ []) × (slot.frame.bytes ∷ [] ≡ a ∷ [])) → Steps
          by (inl one) = not_empty slot.frame.bytes [] one.1
          by (inr other) =
              subst (λ (ws : List Waiting).
              IsExchanging image node marks d step.stage (ws ++ sdo_frames node step.request) None) (sym unsent)
              (stepped step (none_has_bytes (answers_of d.waiting) other.0)
              (answered_as stage slot.frame.bytes step
              (subst (λ (x : List ℕ). AsStage image node marks d.values d.transfer stage (Tells x))
              (sym (head_is slot.frame.bytes a [] [] other.1)) h) f))
      by_traffic Anything is h = record {
        no_boot_up = λ x. x;
        traffic = Anything;
        is_traffic = tt;
        is_as_stage = failed_as stage slot.frame.bytes step h f;
      }

      no_answer : slot.frame.id ≡ error_control_id node → slot.frame.id ≡ sdo_answer_id node → ⊥
      no_answer a b = omega (arith, a, b)

      pub exchange_steps : Exchanges image node marks d stage requests (Some slot)
          → Exchanges image node marks d step.stage (requests ++ sdo_frames node step.request) None
      exchange_steps h on up = by (h on up)
        where
          by : IsBooting node d (Some slot) ⊎ IsExchanging image node marks d stage requests (Some slot)
              → IsBooting node d None ⊎ Steps
          by (inl b) = absurd (no_answer b.boot_up.0 of_node)
          by (inr x) = inr (by_traffic x.traffic
              (subst (λ (zs : List (List ℕ)). IsTraffic (requests_under_way node requests (Some slot))
              (bytes_of (answers_of d.waiting) ++ zs) x.traffic)
              (here_on_wire (sdo_answer_id node) slot of_node) x.is_traffic) x.is_as_stage)
