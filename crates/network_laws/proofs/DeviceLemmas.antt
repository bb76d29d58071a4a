-- What a device makes of the exchange: the SDO server takes a request, or has no part in it; and what the end of a slot
-- makes of it.
use Rattle.std.proofs.Common.{◌≡◌, ◌≢◌, ℕ, ◌+◌, Bool, false, List, [], ◌∷◌, ◌++◌, Option, Some, None}
use Rattle.std.proofs.Common.{◌⊎◌, inl, inr, refl, sym, ap, ◌∙◌, subst, arith}
use Rattle.std.specs.Prelude.{◌||◌}
use Rattle.std.proofs.lemmas.List.Elements.{filter-append}
use Rattle.network_laws.specs.Boots.{IsBootUpOf}
use Rattle.can_bus.specs.declared.slot.Slot.{Slot}
use Rattle.can_frame.specs.Identifiers.{error_control_id, sdo_answer_id, sdo_request_id}
use Rattle.can_frame.specs.WaitingFrames.{is_same, is_unwanted, waits_for}
use Rattle.can_frame.specs.declared.purpose.Purpose.TheVariants.{BootUp}
use Rattle.can_frame.specs.declared.unwanted.Unwanted.TheVariants.{Sdos}
use Rattle.can_frame.specs.declared.waiting.Waiting.{Waiting}
use Rattle.co_device.specs.Device.{Device, answer_frames}
use Rattle.co_dict.specs.Values.{Values, bytes_at}
use Rattle.image_parts.specs.Contents.{Image, shape_of}
use Rattle.image_parts.specs.declared.part.Part.TheVariants.{Shape}
use Rattle.co_sdo.specs.declared.transfer.Transfer.{Transfer}
use Rattle.co_sdo.specs.declared.transfer.Transfer.TheVariants.{Idle}
use Rattle.sdo_client.specs.Client.{after_answer}
use Rattle.sdo_client.specs.declared.client_transfer.ClientTransfer.{ClientTransfer}
use Rattle.concise_dcf.specs.declared.write.Write.{Write}
use Rattle.network_laws.specs.Leaves.{LeavesServer, ServesRequest, answers_of, answer_to_request}
use Rattle.network_laws.specs.Writes.{writes_told}
use Rattle.network_laws.specs.Written.{AgreeButRegister, AreOf, Written}
use Rattle.network_laws.specs.Exchanges.{Anything, Asks, Exchanges, HoldsBelow, IsAsStage, IsBooting, IsExchanging}
use Rattle.network_laws.specs.Exchanges.{IsTraffic, Silence, TellsTruth, Tells, Traffic, answers_under_way}
use Rattle.network_laws.specs.Exchanges.{bytes_of, on_wire, requests_under_way}
use Rattle.image_parts.specs.Configured.{IsWrite}
use Rattle.concise_dcf.specs.Writes.{place_of}
use Rattle.network_laws.proofs.ListLemmas.{both_empty, head_is, not_empty, one_of_two}
use Rattle.network_laws.proofs.MarkLemmas.{stored_elsewhere, told}
use Rattle.network_laws.proofs.Others.{download_answered, download_dropped}
use Rattle.network_laws.proofs.ValueLemmas.{nothing_wrote, one_more_below, others_wrote}
use Rattle.node_boot.specs.declared.boot_stage.BootStage.{BootStage}
use Rattle.node_boot.specs.declared.boot_stage.BootStage.TheVariants.{Unseen, Comparing, Writing, Configured, Failed, Own}
use Rattle.network_laws.specs.Downloads.{IsUnderWay}
use Rattle.network_laws.proofs.WaitingLemmas.{number_itself, number_other}

-- ---- frames on the wire

pub here_on_wire : (id : ℕ) (slot : Slot) → slot.frame.id ≡ id → on_wire id (Some slot) ≡ slot.frame.bytes ∷ []
here_on_wire id slot e = rw (e, number_itself id) refl

pub not_on_wire : (id : ℕ) (slot : Slot) → slot.frame.id ≢ id → on_wire id (Some slot) ≡ []
not_on_wire id slot e = rw (number_other slot.frame.id id e) refl

module _ (image : Image) (node : ℕ) where
  abbrev pub AsStage : (ℕ × ℕ → Bool) → Values → Transfer → BootStage → Traffic → Type 0
  AsStage marks values transfer stage traffic = IsAsStage image node marks values transfer stage traffic

  -- ---- a frame that is under way is gone

  module _ (marks after : ℕ × ℕ → Bool) (values left : Values) (transfer next : Transfer) where
    pub request_gone : (stage : BootStage) (r : List ℕ) → AsStage marks values transfer stage (Asks r)
        → AsStage after left next stage Silence
    request_gone Unseen r h = absurd h
    request_gone (Comparing place expected client deadline) r h = tt
    request_gone (Writing j client deadline) r h = tt
    request_gone Configured r h = absurd h.0
    request_gone Failed r h = tt
    request_gone Own r h = absurd h

    pub answer_gone : (stage : BootStage) (a : List ℕ) → AsStage marks values transfer stage (Tells a)
        → AsStage after left next stage Silence
    answer_gone Unseen a h = absurd h
    answer_gone (Comparing place expected client deadline) a h = tt
    answer_gone (Writing j client deadline) a h = tt
    answer_gone Configured a h = absurd h.0
    answer_gone Failed a h = tt
    answer_gone Own a h = absurd h

    pub anything_stays : (stage : BootStage) → AsStage marks values transfer stage Anything
        → AsStage after left next stage Anything
    anything_stays Unseen h = absurd h
    anything_stays (Comparing place expected client deadline) h = absurd h
    anything_stays (Writing j client deadline) h = absurd h
    anything_stays Configured h = absurd h.0
    anything_stays Failed h = tt
    anything_stays Own h = absurd h

  -- ---- the slot of a frame ends, and nobody took it

  module _ (marks : ℕ × ℕ → Bool) (d : Device) (stage : BootStage) (requests : List Waiting) (slot : Slot) where
    abbrev sent : List (List ℕ)
    sent = bytes_of requests

    abbrev answered : List (List ℕ)
    answered = bytes_of (answers_of d.waiting)

    abbrev On : Option Slot → Traffic → Type 0
    On wire traffic = IsTraffic (requests_under_way node requests wire) (answers_under_way node d wire) traffic

    none : (xs ys : List (List ℕ)) → xs ++ ys ≡ [] → xs ++ [] ≡ []
    none xs ys e = ap (λ (zs : List (List ℕ)). zs ++ []) (both_empty xs ys e).0

    over : (traffic : Traffic) → On (Some slot) traffic → AsStage marks d.values d.transfer stage traffic
        → IsExchanging image node marks d stage requests None
    over Silence is h = record {
      no_boot_up = λ e. e;
      traffic = Silence;
      is_traffic = (none sent _ is.0, none answered _ is.1);
      is_as_stage = h;
    }
    over (Asks r) is h = by (one_of_two sent (on_wire (sdo_request_id node) (Some slot)) r is.0)
      where
        by : ((sent ≡ r ∷ []) × (on_wire (sdo_request_id node) (Some slot) ≡ []))
            ⊎ ((sent ≡ []) × (on_wire (sdo_request_id node) (Some slot) ≡ r ∷ []))
            → IsExchanging image node marks d stage requests None
        by (inl one) = record {
          no_boot_up = λ e. e;
          traffic = Asks r;
          is_traffic = (ap (λ (zs : List (List ℕ)). zs ++ []) one.0, none answered _ is.1);
          is_as_stage = h;
        }
        by (inr other) = record {
          no_boot_up = λ e. e;
          traffic = Silence;
          is_traffic = (ap (λ (zs : List (List ℕ)). zs ++ []) other.0, none answered _ is.1);
          is_as_stage = request_gone marks marks d.values d.values d.transfer d.transfer stage r h;
        }
    over (Tells a) is h = by (one_of_two answered (on_wire (sdo_answer_id node) (Some slot)) a is.1)
      where
        by : ((answered ≡ a ∷ []) × (on_wire (sdo_answer_id node) (Some slot) ≡ []))
            ⊎ ((answered ≡ []) × (on_wire (sdo_answer_id node) (Some slot) ≡ a ∷ []))
            → IsExchanging image node marks d stage requests None
        by (inl one) = record {
          no_boot_up = λ e. e;
          traffic = Tells a;
          is_traffic = (none sent _ is.0, ap (λ (zs : List (List ℕ)). zs ++ []) one.0);
          is_as_stage = h;
        }
        by (inr other) = record {
          no_boot_up = λ e. e;
          traffic = Silence;
          is_traffic = (none sent _ is.0, ap (λ (zs : List (List ℕ)). zs ++ []) other.0);
          is_as_stage = answer_gone marks marks d.values d.values d.transfer d.transfer stage a h;
        }
    over Anything is h = record { no_boot_up = λ e. e; traffic = Anything; is_traffic = tt; is_as_stage = h }

    pub slot_over : (IsBootUpOf node (Some slot) → ⊥) → Exchanges image node marks d stage requests (Some slot)
        → Exchanges image node marks d stage requests None
    slot_over never h on up = by (h on up)
      where
        by : IsBooting node d (Some slot) ⊎ IsExchanging image node marks d stage requests (Some slot)
            → IsBooting node d None ⊎ IsExchanging image node marks d stage requests None
        by (inl b) = absurd (never b.boot_up)
        by (inr x) = inr (over x.traffic x.is_traffic x.is_as_stage)

  -- ---- others than the SDO server write

  module _ (marks after : ℕ × ℕ → Bool) (d e : Device) (writes : List Written)
      (now : (place : ℕ × ℕ) → after place ≡ told (marks place) writes node place)
      (own : AreOf node writes) (l : LeavesServer writes d e) where
    below_left : (j : ℕ) → HoldsBelow image node marks d.values j → HoldsBelow image node after e.values j
    below_left j h = others_wrote image node marks after d.values e.values j writes now l.by_others own l.values h

    under_left : (place : ℕ × ℕ) (value : List ℕ) (client : ClientTransfer) (r : List ℕ)
        → IsUnderWay place value client d.transfer r → IsUnderWay place value client e.transfer r
    under_left place value client r h = by l.transfer
      where
        by : (e.transfer ≡ d.transfer) ⊎ (e.transfer ≡ Idle) → IsUnderWay place value client e.transfer r
        by (inl same) = subst (λ (x : Transfer). IsUnderWay place value client x r) (sym same) h
        by (inr idle) = subst (λ (x : Transfer). IsUnderWay place value client x r) (sym idle)
            (download_dropped place value client d.transfer r h)

    stage_left : (stage : BootStage) (traffic : Traffic) → AsStage marks d.values d.transfer stage traffic
        → AsStage after e.values e.transfer stage traffic
    stage_left Unseen traffic h = h
    stage_left (Comparing place expected client deadline) traffic h = h
    stage_left (Writing j client deadline) Silence h = tt
    stage_left (Writing j client deadline) (Asks r) h =
        (h.0, (h.1.0, (below_left j h.1.1.0, under_left (place_of h.0) h.0.bytes client r h.1.1.1)))
    stage_left (Writing j client deadline) (Tells a) h = (
      h.0,
      (
        h.1.0,
        record {
          written = λ p. below_left (j + 1) (h.1.1.written p);
          goes_on = λ next p. (
            below_left j (h.1.1.goes_on next p).0,
            under_left (place_of h.0) h.0.bytes (after_answer client a).stage next (h.1.1.goes_on next p).1,
          );
        },
      ),
    )
    stage_left (Writing j client deadline) Anything h = absurd h
    stage_left Configured traffic h = (h.0, (h.1.0, (h.1.1.0, below_left h.1.0 h.1.1.1)))
    stage_left Failed traffic h = tt
    stage_left Own traffic h = h

    module _ (stage : BootStage) (requests : List Waiting) (wire : Option Slot) where
      abbrev Gone : Type 0
      Gone = IsExchanging image node after e stage requests wire

      same_answers : answers_of e.waiting ≡ answers_of d.waiting → IsExchanging image node marks d stage requests wire
          → Gone
      same_answers same x = record {
        no_boot_up = x.no_boot_up;
        traffic = x.traffic;
        is_traffic = subst (λ (ws : List Waiting). IsTraffic (requests_under_way node requests wire)
            (bytes_of ws ++ on_wire (sdo_answer_id node) wire) x.traffic) (sym same) x.is_traffic;
        is_as_stage = stage_left stage x.traffic x.is_as_stage;
      }

      abbrev to_manager : List (List ℕ)
      to_manager = on_wire (sdo_answer_id node) wire

      dropped_are : answers_of e.waiting ≡ [] → (rest : List (List ℕ)) → to_manager ≡ rest
          → answers_under_way node e wire ≡ rest
      dropped_are gone rest same = ap (λ (ws : List Waiting). bytes_of ws ++ to_manager) gone ∙ same

      no_answers : answers_of e.waiting ≡ [] → (IsBootUpOf node wire → ⊥) → (traffic : Traffic)
          → IsTraffic (requests_under_way node requests wire) (answers_under_way node d wire) traffic
          → AsStage marks d.values d.transfer stage traffic → Gone
      no_answers gone never Silence is h = record {
        no_boot_up = never;
        traffic = Silence;
        is_traffic = (is.0, dropped_are gone [] (both_empty (bytes_of (answers_of d.waiting)) to_manager is.1).1);
        is_as_stage = stage_left stage Silence h;
      }
      no_answers gone never (Asks r) is h = record {
        no_boot_up = never;
        traffic = Asks r;
        is_traffic = (is.0, dropped_are gone [] (both_empty (bytes_of (answers_of d.waiting)) to_manager is.1).1);
        is_as_stage = stage_left stage (Asks r) h;
      }
      no_answers gone never (Tells a) is h =
          by (one_of_two (bytes_of (answers_of d.waiting)) to_manager a is.1)
        where
          by : ((bytes_of (answers_of d.waiting) ≡ a ∷ []) × (to_manager ≡ []))
              ⊎ ((bytes_of (answers_of d.waiting) ≡ []) × (to_manager ≡ a ∷ [])) → Gone
          by (inl one) = record {
            no_boot_up = never;
            traffic = Silence;
            is_traffic = (is.0, dropped_are gone [] one.1);
            is_as_stage = answer_gone marks after d.values e.values d.transfer e.transfer stage a h;
          }
          by (inr other) = record {
            no_boot_up = never;
            traffic = Tells a;
            is_traffic = (is.0, dropped_are gone (a ∷ []) other.1);
            is_as_stage = stage_left stage (Tells a) h;
          }
      no_answers gone never Anything is h = record {
        no_boot_up = never;
        traffic = Anything;
        is_traffic = tt;
        is_as_stage = stage_left stage Anything h;
      }

      silent_left : (answers_of e.waiting ≡ answers_of d.waiting) ⊎ (answers_of e.waiting ≡ [])
          → answers_of d.waiting ≡ [] → answers_of e.waiting ≡ []
      silent_left (inl same) silent = same ∙ silent
      silent_left (inr gone) silent = gone

      pub exchange_left : Exchanges image node marks d stage requests wire
          → Exchanges image node after e stage requests wire
      exchange_left h on up = by (h (sym l.has_power ∙ on) (sym l.boot_up ∙ up)) l.answers
        where
          by : IsBooting node d wire ⊎ IsExchanging image node marks d stage requests wire
              → (answers_of e.waiting ≡ answers_of d.waiting) ⊎ (answers_of e.waiting ≡ [])
              → IsBooting node e wire ⊎ IsExchanging image node after e stage requests wire
          by (inl b) c = inl (record { boot_up = b.boot_up; silent = silent_left c b.silent })
          by (inr x) (inl same) = inr (same_answers same x)
          by (inr x) (inr gone) = inr (no_answers gone x.no_boot_up x.traffic x.is_traffic x.is_as_stage)

  -- ---- the SDO server takes the request whose slot ends

  no_boot_up_in : (number : ℕ) (answer : Option (List ℕ)) → waits_for BootUp (answer_frames number answer) ≡ false
  no_boot_up_in number None = refl
  no_boot_up_in number (Some bytes) = refl

  boot_up_before : (ws vs : List Waiting) → waits_for BootUp vs ≡ false
      → waits_for BootUp (ws ++ vs) ≡ waits_for BootUp ws
  boot_up_before [] vs e = e
  boot_up_before (w ∷ ws) vs e = ap (λ (b : Bool). is_same w.purpose BootUp || b) (boot_up_before ws vs e)

  answers-append : (ws vs : List Waiting) → answers_of (ws ++ vs) ≡ answers_of ws ++ answers_of vs
  unfolding answers_of
  answers-append ws vs = filter-append (λ (w : Waiting). is_unwanted Sdos w.purpose) ws vs

  own_answers : (number : ℕ) (answer : Option (List ℕ))
      → answers_of (answer_frames number answer) ≡ answer_frames number answer
  unfolding answers_of
  own_answers number None = refl
  own_answers number (Some bytes) = refl

  module _ (marks after : ℕ × ℕ → Bool) (d e : Device) (slot : Slot) (writes : List Written)
      (now : (place : ℕ × ℕ) → after place ≡ told (marks place) writes node place)
      (number : d.number ≡ node) (s : ServesRequest image slot.frame writes d e) where
    abbrev done : Rattle.co_sdo.specs.Server.AfterRequest
    done = answer_to_request image slot.frame.bytes d

    to_node : slot.frame.id ≡ sdo_request_id node
    to_node = s.is_request ∙ ap sdo_request_id number

    told_is : (wrote : Option (ℕ × ℕ)) → done.wrote ≡ wrote → (place : ℕ × ℕ)
        → after place ≡ told (marks place) (writes_told node done.values wrote) node place
    told_is wrote is place =
        now place ∙ ap (λ (ws : List Written). told (marks place) ws node place)
        (s.written ∙ ap (writes_told d.number done.values) is ∙ ap (λ n. writes_told n done.values wrote) number)

    -- the answer, as the client will take it
    module _ (a : List ℕ) (answers : done.answer ≡ Some a) where
      told_truth : (j : ℕ) (client : ClientTransfer) (w : Write) → IsWrite image node j w
          → HoldsBelow image node marks d.values j
          → IsUnderWay (place_of w) w.bytes client d.transfer slot.frame.bytes
          → TellsTruth image node after e.values e.transfer j w client a
      told_truth j client w is below under = record {
        written = λ p. one_more_below image node marks after d.values e.values j w is
            (λ place other. told_is (Some (place_of w)) (is_answered.written p).wrote place
            ∙ stored_elsewhere node (record { place = place_of w; bytes = bytes_at done.values (place_of w) })
            place other (marks place))
            (subst (λ (vs : Values). AgreeButRegister vs e.values) (is_answered.written p).stored s.values) below;
        goes_on = λ next p. (
          nothing_wrote image node marks after d.values e.values j
              (λ place. told_is None (is_answered.goes_on next p).0.wrote place)
              (subst (λ (vs : Values). AgreeButRegister vs e.values) (is_answered.goes_on next p).0.kept s.values)
              below,
          subst (λ (x : Transfer). IsUnderWay (place_of w) w.bytes (after_answer client a).stage x next)
              (sym s.transfer) (is_answered.goes_on next p).1,
        );
      }
        where
          is_answered : Rattle.network_laws.specs.Downloads.IsAnswered (place_of w) w.bytes client d.values done a
          is_answered = download_answered (shape_of (image (Shape d.number))) d.values (place_of w) w.bytes client
              d.transfer slot.frame.bytes a under answers

      stage_told : (stage : BootStage) → AsStage marks d.values d.transfer stage (Asks slot.frame.bytes)
          → AsStage after e.values e.transfer stage (Tells a)
      stage_told Unseen h = absurd h
      stage_told (Comparing place expected client deadline) h = tt
      stage_told (Writing j client deadline) h =
          (h.0, (h.1.0, told_truth j client h.0 h.1.0 h.1.1.0 h.1.1.1))
      stage_told Configured h = absurd h.0
      stage_told Failed h = tt
      stage_told Own h = absurd h

    module _ (stage : BootStage) (requests : List Waiting) where
      abbrev Answered : Type 0
      Answered = IsExchanging image node after e stage requests None

      waiting_now : answers_of d.waiting ≡ [] → (answer : Option (List ℕ)) → done.answer ≡ answer
          → answers_of e.waiting ≡ answer_frames d.number answer
      waiting_now silent answer is =
          ap answers_of (s.waits ∙ ap (λ (o : Option (List ℕ)). d.waiting ++ answer_frames d.number o) is)
          ∙ answers-append d.waiting (answer_frames d.number answer)
          ∙ ap (λ (ws : List Waiting). ws ++ answers_of (answer_frames d.number answer)) silent
          ∙ own_answers d.number answer

      by_answer : bytes_of requests ≡ [] → answers_of d.waiting ≡ []
          → AsStage marks d.values d.transfer stage (Asks slot.frame.bytes)
          → (answer : Option (List ℕ)) → done.answer ≡ answer → Answered
      by_answer unsent silent h None is = record {
        no_boot_up = λ x. x;
        traffic = Silence;
        is_traffic = (
          ap (λ (zs : List (List ℕ)). zs ++ []) unsent,
          ap (λ (ws : List Waiting). bytes_of ws ++ []) (waiting_now silent None is),
        );
        is_as_stage = request_gone marks after d.values e.values d.transfer e.transfer stage slot.frame.bytes h;
      }
      by_answer unsent silent h (Some a) is = record {
        no_boot_up = λ x. x;
        traffic = Tells a;
        is_traffic = (
          ap (λ (zs : List (List ℕ)). zs ++ []) unsent,
          ap (λ (ws : List Waiting). bytes_of ws ++ []) (waiting_now silent (Some a) is),
        );
        is_as_stage = stage_told a is stage h;
      }

      by_traffic : (traffic : Traffic)
          → IsTraffic (bytes_of requests ++ slot.frame.bytes ∷ []) (answers_under_way node d (Some slot)) traffic
          → AsStage marks d.values d.transfer stage traffic → Answered
      by_traffic Silence is h = not_empty slot.frame.bytes [] (both_empty (bytes_of requests) _ is.0).1
      by_traffic (Asks r) is h = by (one_of_two (bytes_of requests) (slot.frame.bytes ∷ []) r is.0)
        where
          silent : answers_of d.waiting ≡ []
          silent = Rattle.network_laws.proofs.ListLemmas.none_has_bytes (answers_of d.waiting)
              (both_empty (bytes_of (answers_of d.waiting)) _ is.1).0

          by : ((bytes_of requests ≡ r ∷ []) × (slot.frame.bytes ∷ [] ≡ []))
              ⊎ ((bytes_of requests ≡ []) × (slot.frame.bytes ∷ [] ≡ r ∷ [])) → Answered
          by (inl one) = not_empty slot.frame.bytes [] one.1
          by (inr other) =
              by_answer other.0 silent (subst (λ (x : List ℕ). AsStage marks d.values d.transfer stage (Asks x))
              (sym (head_is slot.frame.bytes r [] [] other.1)) h) done.answer refl
      by_traffic (Tells a) is h = not_empty slot.frame.bytes [] (both_empty (bytes_of requests) _ is.0).1
      by_traffic Anything is h = record {
        no_boot_up = λ x. x;
        traffic = Anything;
        is_traffic = tt;
        is_as_stage = anything_stays marks after d.values e.values d.transfer e.transfer stage h;
      }

      no_request : slot.frame.id ≡ error_control_id node → slot.frame.id ≡ sdo_request_id node → ⊥
      no_request a b = omega (arith, a, b)

      pub exchange_served : Exchanges image node marks d stage requests (Some slot)
          → Exchanges image node after e stage requests None
      exchange_served h on up = by (h (sym s.has_power ∙ on) (sym waits ∙ up))
        where
          waits : waits_for BootUp e.waiting ≡ waits_for BootUp d.waiting
          waits = ap (waits_for BootUp) s.waits
              ∙ boot_up_before d.waiting (answer_frames d.number done.answer) (no_boot_up_in d.number done.answer)

          by : IsBooting node d (Some slot) ⊎ IsExchanging image node marks d stage requests (Some slot)
              → IsBooting node e None ⊎ Answered
          by (inl b) = absurd (no_request b.boot_up.0 to_node)
          by (inr x) = inr (by_traffic x.traffic
              (subst (λ (zs : List (List ℕ)). IsTraffic (bytes_of requests ++ zs)
              (answers_under_way node d (Some slot)) x.traffic)
              (here_on_wire (sdo_request_id node) slot to_node) x.is_traffic) x.is_as_stage)
