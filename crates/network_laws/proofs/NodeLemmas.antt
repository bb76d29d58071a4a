-- What the rules of the manager make of the boot of the node at a place, and of the requests to it that wait.
use Rattle.std.proofs.Common.{◌≡◌, ◌≢◌, ℕ, zero, suc, ◌+◌, ◌<◌, ◌≤◌, Bool, true, false, List, [], ◌∷◌, length, map, Option}
use Rattle.std.proofs.Common.{Some, None, ◌⊎◌, inl, inr, refl, sym, ap, ◌∙◌, arith, get_or}
use Rattle.std.specs.Prelude.{if◌then◌else◌, ◌==◌, position}
use Rattle.std.specs.List.{position_or_len}
use Rattle.std.proofs.lemmas.Bool.{cases_eq, false≢true}
use Rattle.std.proofs.lemmas.Bool.Decides.{nat_tests}
use Rattle.std.proofs.lemmas.Grind.{common_steps}
use Rattle.std.proofs.lemmas.List.{append-nil, get_or-set_other, get_or-set_same}
use Rattle.std.proofs.lemmas.List.Quantifiers.{position-Some}
use Rattle.std.proofs.lemmas.List.Sums.{fails_before_first}
use Rattle.image_parts.specs.Asking.{Answer, outcome}
use Rattle.can_frame.specs.Frames.{BaseFrame}
use Rattle.can_frame.specs.Identifiers.{error_control_id, sdo_answer_id}
use Rattle.can_frame.specs.WaitingFrames.{is_unwanted, waiting, without_unwanted}
use Rattle.can_frame.specs.declared.purpose.Purpose.TheVariants.{Nmt}
use Rattle.can_frame.specs.declared.unwanted.Unwanted.TheVariants.{SdoOf}
use Rattle.can_frame.specs.declared.waiting.Waiting.{Waiting}
use Rattle.image_parts.specs.Contents.{Image}
use Rattle.co_scenario.specs.declared.nmt_command.NmtCommand.{NmtCommand}
use Rattle.node_boot.specs.Boot.{boot_nmt_slave, is_timed_out, sdo_answer, sdo_time_out}
use Rattle.node_boot.specs.declared.boot_stage.BootStage.TheVariants.{Failed}
use Rattle.node_boot.specs.declared.boot_step.BootStep.{BootStep}
use Rattle.nmt_boot.proofs.EventLemmas.{answered_outcome, boots_outcome}
use Rattle.nmt_boot.proofs.PeriodicLemmas.{queue_has}
use Rattle.nmt_boot.specs.Manager.{Manager, after_boot_at, after_boot_up, after_frame, after_own_boot_up, after_sdo_frame, after_step, has_boot_up_byte}
use Rattle.nmt_boot.specs.Periodic.{frame_of, purpose_of, queue_after}
use Rattle.nmt_boot.specs.declared.periodic.Periodic.{Periodic}
use Rattle.nmt_boot.specs.declared.periodic_message.PeriodicMessage.{PeriodicMessage}
use Rattle.nmt_boot.specs.declared.periodic_message.PeriodicMessage.TheVariants.{Heartbeat, Time, Sync}
use Rattle.nmt_boot.specs.Startup.{nmt_frame}
use Rattle.manager_nodes.specs.Table.{is_from, is_own, no_node, node_after, node_at, place_of}
use Rattle.manager_nodes.specs.Table.{queue_after_time_out, queue_after_time_outs, timed_out, with_stage}
use Rattle.nmt_boot.specs.Manager.{time_outs, timers, with_command}
use Rattle.manager_nodes.specs.declared.booting.Booting.{Booting}
use Rattle.network_laws.specs.Requests.{IsAlone, LeavesBoot, TakesStep, requests_to}
use Rattle.can_frame.specs.ErrorControl.{IsBootUp}
use Rattle.network_laws.proofs.WaitingLemmas.{latest_leaves, other_more, other_step, others_dropped, own_dropped, own_start_more, own_step}
use Rattle.network_laws.proofs.WaitingLemmas.{requests-append}
use Rattle.nmt_boot.proofs.TableLemmas.{sum_is}
use Rattle.network_laws.proofs.StageLemmas.{is_boot}

-- ---- the table of nodes

sum_tells : (a b c : ℕ) → a + b ≡ c → (a + b == c) ≡ true
sum_tells a b c e = grind (arith, nat_tests)

none_found : {X : Type 0} (p : X → Bool) (xs : List X) → position p xs ≡ None → (k : ℕ) (d : X) → k < length xs
    → p (get_or xs k d) ≡ false
none_found p xs e k d h =
    let late : length xs ≤ position_or_len p xs = grind (arith, common_steps) in
    fails_before_first p xs k d (omega arith)

-- the node that is found has the identifier
module _ (base id : ℕ) (nodes : List Booting) where
  found_within : (k : ℕ) → place_of base id nodes ≡ Some k → k < length nodes
  unfolding place_of
  found_within k e = (position-Some (is_from base id) nodes k no_node e).0

  found_is : (k : ℕ) → place_of base id nodes ≡ Some k → id ≡ base + (node_at nodes k).number
  unfolding place_of
  found_is k e = sym (sum_is base (node_at nodes k).number id (position-Some (is_from base id) nodes k no_node e).1)

  -- and one with the identifier is found
  found_one : (i : ℕ) → i < length nodes → base + (node_at nodes i).number ≡ id → place_of base id nodes ≡ None → ⊥
  unfolding place_of
  found_one i within e none =
      false≢true (sym (none_found (is_from base id) nodes none i no_node within)
      ∙ sum_tells base (node_at nodes i).number id e)

-- ---- boot-up messages

boot_bytes : (bytes : List ℕ) → bytes ≡ 0 ∷ [] → has_boot_up_byte bytes ≡ true
unfolding has_boot_up_byte
boot_bytes bytes e = rw e refl

-- ---- one node of the table

module _ (m : Manager) (i : ℕ) (own : IsAlone m.nodes i) where
  abbrev n : ℕ
  n = (node_at m.nodes i).number

  apart : (k : ℕ) → k < length m.nodes → i ≢ k → n ≢ (node_at m.nodes k).number
  apart k within other same = other (sym (own.alone k within (sym same)))

  steps_elsewhere : (k : ℕ) → k < length m.nodes → i ≢ k → (step : BootStep) (ws : List Waiting)
      → requests_to n ws ≡ requests_to n m.waiting
      → LeavesBoot i m (after_step k step (record m { waiting = ws })).0
  steps_elsewhere k within other step ws same = record {
    node = get_or-set_other m.nodes k i _ no_node other;
    requests = other_step n m.startup (with_stage m.nodes k step.stage) (node_at m.nodes k).number
        (apart k within other) step ws ∙ same;
  }

  steps_here : (step : BootStep) (ws left : List Waiting) → requests_to n ws ≡ left
      → TakesStep i step left m (after_step i step (record m { waiting = ws })).0
  steps_here step ws left same = record {
    stage = get_or-set_same m.nodes i _ no_node own.within;
    requests = rw (own_step n m.startup (with_stage m.nodes i step.stage) step ws, same) refl;
  }

  stays : LeavesBoot i m m
  stays = record { node = refl; requests = refl }

  module _ (image : Image) (t : ℕ) (frame : BaseFrame) where
    abbrev Begun : Manager → Type 0
    Begun after = TakesStep i (outcome (boot_nmt_slave (t + m.timeout) n) image) [] m after

    -- the place of the node is found by its boot-up message
    boot_finds : IsBootUp n frame → (P : Manager → Type 0) → P (outcome (after_boot_up t (Some i) m) image).0
        → P (outcome (after_frame t frame m) image).0
    unfolding after_frame
    boot_finds b P h = rw (boot_bytes frame.bytes b.1) (by (place_of (error_control_id 0) frame.id m.nodes) refl)
      where
        by : (o : Option ℕ) → place_of (error_control_id 0) frame.id m.nodes ≡ o
            → P (outcome (after_boot_up t o m) image).0
        by None e = absurd (found_one (error_control_id 0) frame.id m.nodes i own.within (sym b.0) e)
        by (Some k) e =
            let id = found_is (error_control_id 0) frame.id m.nodes k e in
            let its = b.0 in
            let same : (node_at m.nodes k).number ≡ n = omega (arith, id, its) in
            rw (own.alone k (found_within (error_control_id 0) frame.id m.nodes k e) same) h

    -- a node that isn't the manager's own begins its boot
    begun : is_own (node_at m.nodes i).stage ≡ false → Begun (outcome (after_boot_up t (Some i) m) image).0
    unfolding after_boot_up
    begun other =
        rw (other, boots_outcome t i m image)
        (steps_here (outcome (boot_nmt_slave (t + m.timeout) n) image) (without_unwanted (SdoOf n) m.waiting) []
        (own_dropped n m.waiting))

    pub boot_begins : is_own (node_at m.nodes i).stage ≡ false → IsBootUp n frame
        → Begun (outcome (after_frame t frame m) image).0
    boot_begins other b = boot_finds b Begun (begun other)

    -- and of the manager's own nothing is booted
    own_leaves : (k : ℕ) → LeavesBoot i m (after_own_boot_up k m)
    unfolding after_own_boot_up
    own_leaves k = record {
      node = refl;
      requests = own_start_more n m.startup (node_at m.nodes k).number m.waiting;
    }

    greeted : is_own (node_at m.nodes i).stage ≡ true → LeavesBoot i m (outcome (after_boot_up t (Some i) m) image).0
    unfolding after_boot_up
    greeted itself = rw itself (own_leaves i)

    pub own_greeted : is_own (node_at m.nodes i).stage ≡ true → IsBootUp n frame
        → LeavesBoot i m (outcome (after_frame t frame m) image).0
    own_greeted itself b = boot_finds b (LeavesBoot i m) (greeted itself)

    -- ---- any other frame

    abbrev Goes : Manager → Type 0
    Goes after =
        ((frame.id ≡ sdo_answer_id n)
        × TakesStep i (outcome (sdo_answer (t + m.timeout) n (node_at m.nodes i).stage frame.bytes) image)
        (requests_to n m.waiting) m after)
        ⊎ LeavesBoot i m after

    module _ (no_boot_up : IsBootUp n frame → ⊥) where
      by_boot_up : (o : Option ℕ) → place_of (error_control_id 0) frame.id m.nodes ≡ o
          → has_boot_up_byte frame.bytes ≡ true → Goes (outcome (after_boot_up t o m) image).0
      unfolding after_boot_up
      by_boot_up None e b = inr stays
      by_boot_up (Some k) e b = either (is_own (node_at m.nodes k).stage)
        where
          within : k < length m.nodes
          within = found_within (error_control_id 0) frame.id m.nodes k e

          step : BootStep
          step = outcome (boot_nmt_slave (t + m.timeout) (node_at m.nodes k).number) image

          its_own : i ≡ k → IsBootUp n frame
          its_own same = (
            found_is (error_control_id 0) frame.id m.nodes k e
                ∙ ap (λ j. error_control_id 0 + (node_at m.nodes j).number) (sym same),
            is_boot frame.bytes b,
          )

          by : (i ≡ k) ⊎ (i ≢ k) → Goes (after_step k (outcome (boot_nmt_slave (t + m.timeout) (node_at m.nodes k).number) image) (record m {
            waiting = without_unwanted (SdoOf (node_at m.nodes k).number) m.waiting;
          })).0
          by (inl same) = absurd (no_boot_up (its_own same))
          by (inr other) =
              inr (steps_elsewhere k within other _ _
              (others_dropped n (node_at m.nodes k).number (apart k within other) m.waiting))

          either : (b : Bool)
              → Goes (outcome (if b then Answer (after_own_boot_up k m, []) else after_boot_at t k m) image).0
          either true = inr (own_leaves k)
          either false = rw (boots_outcome t k m image) (by (cases_eq i k))

      by_answer : (o : Option ℕ) → place_of (sdo_answer_id 0) frame.id m.nodes ≡ o
          → Goes (outcome (after_sdo_frame t frame.bytes o m) image).0
      unfolding after_sdo_frame
      by_answer None e = inr stays
      by_answer (Some k) e = rw (answered_outcome t frame.bytes k m image) (by (cases_eq i k))
        where
          within : k < length m.nodes
          within = found_within (sdo_answer_id 0) frame.id m.nodes k e

          id_is : i ≡ k → frame.id ≡ sdo_answer_id n
          id_is same = found_is (sdo_answer_id 0) frame.id m.nodes k e
              ∙ ap (λ j. sdo_answer_id 0 + (node_at m.nodes j).number) (sym same)

          by : (i ≡ k) ⊎ (i ≢ k)
              → Goes (after_step k (outcome (sdo_answer (t + m.timeout)
              (node_at m.nodes k).number (node_at m.nodes k).stage frame.bytes) image) m).0
          by (inl same) = rw (← same) (inl (id_is same, steps_here _ m.waiting (requests_to n m.waiting) refl))
          by (inr other) = inr (steps_elsewhere k within other _ m.waiting refl)

      pub frame_goes : Goes (outcome (after_frame t frame m) image).0
      unfolding after_frame
      frame_goes = first (has_boot_up_byte frame.bytes) refl
        where
          second : (b : Bool)
              → Goes (outcome (if b
              then after_sdo_frame t frame.bytes (place_of (sdo_answer_id 0) frame.id m.nodes) m
              else Answer (m, [])) image).0
          second true = by_answer (place_of (sdo_answer_id 0) frame.id m.nodes) refl
          second false = inr stays

          first : (b : Bool) → has_boot_up_byte frame.bytes ≡ b
              → Goes (outcome (if b then after_boot_up t (place_of (error_control_id 0) frame.id m.nodes) m
              else if length frame.bytes == 8
              then after_sdo_frame t frame.bytes (place_of (sdo_answer_id 0) frame.id m.nodes) m
              else Answer (m, [])) image).0
          first true e = by_boot_up (place_of (error_control_id 0) frame.id m.nodes) refl e
          first false e = second (length frame.bytes == 8)

  -- ---- the timers

  module _ (t : ℕ) where
    later_at : (nodes : List Booting) (k : ℕ) → node_at (map (node_after t) nodes) k ≡ node_after t (node_at nodes k)
    later_at [] k = refl
    later_at (b ∷ nodes) zero = refl
    later_at (b ∷ nodes) (suc k) = later_at nodes k

    one_out : (node : Booting) → n ≢ node.number → (ws : List Waiting)
        → requests_to n (queue_after_time_out node ws) ≡ requests_to n ws
    one_out node differs ws =
        other_more n node.number differs (sdo_time_out node.stage).request (without_unwanted (SdoOf node.number) ws)
        ∙ others_dropped n node.number differs ws

    abbrev OthersAlone : List Booting → Type 0
    OthersAlone ns = (k : ℕ) → k < length ns → is_timed_out t (node_at ns k).stage ≡ true
        → n ≢ (node_at ns k).number

    outs : (ns : List Booting) → OthersAlone ns → (ws : List Waiting)
        → requests_to n (queue_after_time_outs (timed_out t ns) ws) ≡ requests_to n ws
    outs [] others ws = refl
    outs (b ∷ ns) others ws =
        by (λ vs. outs ns (λ k within e. others (suc k) (omega (arith, within)) e) vs)
        (is_timed_out t b.stage) refl
      where
        by : ((vs : List Waiting) → requests_to n (queue_after_time_outs (timed_out t ns) vs) ≡ requests_to n vs)
            → (x : Bool) → is_timed_out t b.stage ≡ x
            → requests_to n (queue_after_time_outs (if x then b ∷ timed_out t ns else timed_out t ns) ws)
            ≡ requests_to n ws
        by rest true e = rest (queue_after_time_out b ws) ∙ one_out b (others 0 (omega arith) e) ws
        by rest false e = rest ws

    outs_here : is_timed_out t (node_at m.nodes i).stage ≡ true
        → (node_at (time_outs t m).0.nodes i).stage ≡ Failed
    unfolding time_outs sdo_time_out
    outs_here e = ap (λ (x : Booting). x.stage) (later_at m.nodes i) ∙ rw e refl

    outs_leave : is_timed_out t (node_at m.nodes i).stage ≡ false → LeavesBoot i m (time_outs t m).0
    unfolding time_outs
    outs_leave e = record {
      node = later_at m.nodes i ∙ rw e refl;
      requests = outs m.nodes (λ k within timed same.
          false≢true (sym e ∙ ap (λ j. is_timed_out t (node_at m.nodes j).stage)
          (sym (own.alone k within (sym same))) ∙ timed)) m.waiting;
    }

    no_request : (message : PeriodicMessage) → is_unwanted (SdoOf n) (purpose_of message) ≡ false
    no_request Heartbeat = refl
    no_request (Time first_day) = refl
    no_request (Sync last) = refl

    periodic_leave : (number : ℕ) (ps : List Periodic) (ws : List Waiting)
        → requests_to n (queue_after t number ps ws) ≡ requests_to n ws
    periodic_leave number ps ws =
        queue_has t number (λ vs. requests_to n vs ≡ requests_to n ws)
        (λ message period vs e. latest_leaves n (purpose_of message) (frame_of number t period message)
        (no_request message) vs ∙ e) ps ws refl

    timed_fails : is_timed_out t (node_at m.nodes i).stage ≡ true → (node_at (timers t m).0.nodes i).stage ≡ Failed
    unfolding timers
    timed_fails e = outs_here e

    timed_leaves : is_timed_out t (node_at m.nodes i).stage ≡ false → LeavesBoot i m (timers t m).0
    unfolding timers
    timed_leaves e =
        let left = outs_leave e in
        let after = (time_outs t m).0 in
        record {
          node = left.node;
          requests = periodic_leave after.number after.periodic after.waiting ∙ left.requests;
        }

    pub timers_go : ((node_at (timers t m).0.nodes i).stage ≡ Failed) ⊎ LeavesBoot i m (timers t m).0
    timers_go = by (is_timed_out t (node_at m.nodes i).stage) refl
      where
        by : (b : Bool) → is_timed_out t (node_at m.nodes i).stage ≡ b
            → ((node_at (timers t m).0.nodes i).stage ≡ Failed) ⊎ LeavesBoot i m (timers t m).0
        by true e = inl (timed_fails e)
        by false e = inr (timed_leaves e)

no_command : (n : ℕ) (c : NmtCommand) (node : ℕ) → requests_to n (waiting Nmt (nmt_frame c node) ∷ []) ≡ []
unfolding requests_to
no_command n c node = refl

pub command_leaves : (c : NmtCommand) (node : ℕ) (m : Manager) (i : ℕ) → LeavesBoot i m (with_command c node m)
command_leaves c node m i = record {
  node = refl;
  requests = rw (
    requests-append (node_at m.nodes i).number m.waiting (waiting Nmt (nmt_frame c node) ∷ []),
    no_command (node_at m.nodes i).number c node,
  ) (append-nil _);
}
