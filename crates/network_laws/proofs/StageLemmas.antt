-- What can follow a write of a node's boot.
use Rattle.std.proofs.Common.{◌≡◌, ◌≢◌, ℕ, zero, suc, ◌+◌, ◌<◌, Bool, true, false, List, [], ◌∷◌, length, map, Option}
use Rattle.std.proofs.Common.{Some, None, ◌⊎◌, inl, inr, refl, sym, ap, ◌∙◌, subst, arith}
use Rattle.std.specs.Prelude.{if◌then◌else◌, ◌==◌, slice_set}
use Rattle.std.proofs.lemmas.Bool.{false≢true}
use Rattle.std.proofs.lemmas.Bool.Decides.{nat_tests}
use Rattle.std.proofs.lemmas.List.{get_or-set_other, get_or-set_same}
use Rattle.std.proofs.lemmas.List.Quantifiers.{position-Some}
use Rattle.image_parts.specs.Asking.{Answer, outcome}
use Rattle.can_frame.specs.Identifiers.{error_control_id, sdo_answer_id}
use Rattle.can_frame.specs.Senders.{manager_sender}
use Rattle.image_parts.specs.Contents.{Image, identity_of, write_of}
use Rattle.image_parts.specs.declared.identity.Identity.{Identity}
use Rattle.image_parts.specs.declared.part.Part.TheVariants.{Boot, Expect}
use Rattle.sdo_client.specs.Client.{after_answer}
use Rattle.sdo_client.specs.declared.progress.Progress.{Progress}
use Rattle.sdo_client.specs.declared.progress.Progress.TheVariants as progress
use Rattle.sdo_client.specs.declared.client_transfer.ClientTransfer.{ClientTransfer as Transfer}
use Rattle.concise_dcf.specs.declared.write.Write.{Write}
use Rattle.node_boot.specs.Boot.{after_write, boot_nmt_slave, check_identity, comparison_started}
use Rattle.node_boot.specs.Boot.{deadline_of, download_configuration, is_at, is_timed_out}
use Rattle.node_boot.specs.Boot.{compared_next, next_compared, sdo_answer, sdo_time_out, write_started}
use Rattle.node_boot.specs.declared.boot_stage.BootStage.{BootStage}
use Rattle.node_boot.specs.declared.boot_stage.BootStage.TheVariants.{Unseen, Comparing, Writing, Configured, Failed, Own}
use Rattle.nmt_boot.proofs.EventLemmas.{answered_outcome, boots_outcome}
use Rattle.nmt_boot.specs.Manager.{Manager, after_boot_at, after_boot_up, after_frame, after_own_boot_up, after_sdo_frame, has_boot_up_byte}
use Rattle.nmt_boot.specs.Manager.{time_outs, timers}
use Rattle.manager_nodes.specs.Table.{is_from, is_own, no_node, node_after}
use Rattle.manager_nodes.specs.Table.{node_at, place_of}
use Rattle.manager_nodes.specs.declared.booting.Booting.{Booting}
use Rattle.can_bus.specs.Bus.{Bus, ended_slot, instant, manager_after_slot}
use Rattle.can_bus.specs.declared.slot.Slot.{Slot}
use Rattle.network_laws.specs.Boots.{FollowsWrite, IsBootUpOf, IsConfirmedBy}
use Rattle.network_laws.proofs.ThroughLemmas.{manager_through}
use Rattle.nmt_boot.proofs.TableLemmas.{sum_is}

-- ---- what the rules of a boot give

module _ (image : Image) (node : ℕ) (heard : Option Slot) (j : ℕ) (transfer : Transfer) where
  abbrev pub Follows : BootStage → Type 0
  Follows stage = FollowsWrite image node heard j transfer stage

  -- the first of the writes, or none
  first_follows : IsBootUpOf node heard → (deadline : ℕ) (w : Option Write) → Follows (write_started deadline 0 w).stage
  unfolding write_started
  first_follows b deadline None = inr b
  first_follows b deadline (Some w) = inr (inr (refl, b))

  module _ (b : IsBootUpOf node heard) (deadline : ℕ) where
    download_follows : Follows (outcome (download_configuration deadline node 0) image).stage
    unfolding download_configuration
    download_follows = first_follows b deadline (write_of (image (Boot node 0)))

    compared_follows : (expected : Identity) (place : ℕ) → Follows (comparison_started deadline expected place).stage
    unfolding comparison_started
    compared_follows expected place = b

    checked_follows : (expected : Identity) (place : ℕ)
        → Follows (outcome (check_identity deadline node expected place) image).stage
    unfolding check_identity
    checked_follows expected place = by (next_compared expected place)
      where
        by : (next : Option ℕ) → Follows (outcome (compared_next deadline node expected next) image).stage
        by None = download_follows
        by (Some left) = compared_follows expected left

    pub boot_follows : Follows (outcome (boot_nmt_slave deadline node) image).stage
    unfolding boot_nmt_slave
    boot_follows = checked_follows (identity_of (image (Expect node))) 0

  -- once it is confirmed, the next write, or the end
  module _ (c : IsConfirmedBy node transfer heard) (deadline : ℕ) where
    next_follows : (w : Option Write) → write_of (image (Boot node (j + 1))) ≡ w
        → Follows (write_started deadline (j + 1) w).stage
    unfolding write_started
    next_follows None e = inl (e, c)
    next_follows (Some w) e = inr (inl (refl, c))

    pub confirmed_follows : Follows (outcome (download_configuration deadline node (j + 1)) image).stage
    unfolding download_configuration
    confirmed_follows = next_follows (write_of (image (Boot node (j + 1)))) refl

  -- an answer to the request that is under way
  pub answer_follows : (deadline old : ℕ) (left : Transfer) (p : Option Progress)
      → (p ≡ Some progress.Written → IsConfirmedBy node transfer heard)
      → Follows (outcome (after_write deadline old node j left p) image).stage
  answer_follows deadline old left None c = inl refl
  answer_follows deadline old left (Some (progress.Ask request)) c = inl refl
  answer_follows deadline old left (Some progress.Written) c = confirmed_follows (c refl) deadline
  answer_follows deadline old left (Some (progress.Read bytes)) c = inl refl
  answer_follows deadline old left (Some (progress.Failed abort frame)) c = tt

-- ---- the table of nodes

-- the node that is found is one, and has the identifier
module _ (base id : ℕ) (nodes : List Booting) (k : ℕ) (e : place_of base id nodes ≡ Some k) where
  pub found_within : k < length nodes
  unfolding place_of
  found_within = (position-Some (is_from base id) nodes k no_node e).0

  pub found_is : id ≡ base + (node_at nodes k).number
  unfolding place_of
  found_is = sym (sum_is base (node_at nodes k).number id (position-Some (is_from base id) nodes k no_node e).1)

pub is_boot : (bytes : List ℕ) → has_boot_up_byte bytes ≡ true → bytes ≡ 0 ∷ []
unfolding has_boot_up_byte
is_boot [] e = cc
is_boot (b ∷ []) e = ap (λ (x : ℕ). x ∷ []) (none b e)
  where
    none : (x : ℕ) → (x == 0) ≡ true → x ≡ 0
    none x f = grind (arith, nat_tests)
is_boot (b ∷ (c ∷ bytes)) e = absurd (false≢true (sym (long (length bytes)) ∙ e))
  where
    too_long : (n : ℕ) → (suc (suc n) == 1) ≡ false
    too_long n = grind (arith, nat_tests)

    long : (n : ℕ) → (if suc (suc n) == 1 then b == 0 else false) ≡ false
    long n = rw (too_long n) refl

same_or_not : (i k : ℕ) → (i ≡ k) ⊎ (i ≢ k)
same_or_not i k = by (i == k) refl
  where
    is : (i == k) ≡ true → i ≡ k
    is e = grind (arith, nat_tests)

    is_not : (i == k) ≡ false → i ≢ k
    is_not e f = absurd (false≢true (sym e ∙ ap (λ n. n == k) f ∙ itself k))
      where
        itself : (n : ℕ) → (n == n) ≡ true
        itself n = grind (arith, nat_tests)

    by : (b : Bool) → (i == k) ≡ b → (i ≡ k) ⊎ (i ≢ k)
    by true e = inl (is e)
    by false e = inr (is_not e)

-- a stage is written at one node
module _ (nodes : List Booting) (i k : ℕ) (stage : BootStage) (within : k < length nodes) (P : Booting → Type 0) where
  written_at : P (node_at nodes i) → ((i ≡ k) → P (record (node_at nodes k) { stage = stage }))
      → P (node_at (slice_set nodes k (record (node_at nodes k) { stage = stage })) i)
  written_at stays changes = by (same_or_not i k)
    where
      e : Booting
      e = record (node_at nodes k) { stage = stage }

      by : (i ≡ k) ⊎ (i ≢ k) → P (node_at (slice_set nodes k (record (node_at nodes k) { stage = stage })) i)
      by (inl same) =
          rw same (subst P (sym (get_or-set_same nodes k (record (node_at nodes k) { stage = stage }) no_node within))
          (changes same))
      by (inr other) =
          subst P (sym (get_or-set_other nodes k i (record (node_at nodes k) { stage = stage }) no_node other)) stays

-- ---- what an instant makes of the node at a place

module _ (image : Image) (t i : ℕ) (heard : Option Slot) (n : Booting) (P : BootStage → Type 0)
    (same : P n.stage)
    (boots : IsBootUpOf n.number heard → (deadline : ℕ) → P (outcome (boot_nmt_slave deadline n.number) image).stage)
    (answers : (slot : Slot) → heard ≡ Some slot → slot.frame.id ≡ sdo_answer_id n.number → (deadline : ℕ)
    → P (outcome (sdo_answer deadline n.number n.stage slot.frame.bytes) image).stage)
    (fails : (stage : BootStage) → is_timed_out t stage ≡ true → P stage → P Failed) where
  abbrev Holds : Manager → Type 0
  Holds m = P (node_at m.nodes i).stage

  module _ (m : Manager) (is : node_at m.nodes i ≡ n) where
    stays : Holds m
    stays = rw is same

    turns_to : (k : ℕ) (stage : BootStage) → k < length m.nodes → (i ≡ k → P stage)
        → P (node_at (slice_set m.nodes k (record (node_at m.nodes k) { stage = stage })) i).stage
    turns_to k stage within changes = written_at m.nodes i k stage within (λ (b : Booting). P b.stage) stays changes

    number_is : (k : ℕ) → i ≡ k → (node_at m.nodes k).number ≡ n.number
    number_is k e = ap (λ x. (node_at m.nodes x).number) (sym e) ∙ ap (λ (b : Booting). b.number) is

    stage_is : (k : ℕ) → i ≡ k → (node_at m.nodes k).stage ≡ n.stage
    stage_is k e = ap (λ x. (node_at m.nodes x).stage) (sym e) ∙ ap (λ (b : Booting). b.stage) is

    module _ (slot : Slot) (there : heard ≡ Some slot) where
      boot_of : (k : ℕ) → place_of (error_control_id 0) slot.frame.id m.nodes ≡ Some k
          → has_boot_up_byte slot.frame.bytes ≡ true → i ≡ k → IsBootUpOf n.number heard
      boot_of k e b here =
          let id : slot.frame.id ≡ error_control_id n.number = found_is (error_control_id 0) slot.frame.id m.nodes k e
          ∙ ap (λ x. error_control_id 0 + x) (number_is k here) in
          subst (IsBootUpOf n.number) (sym there) (id, is_boot slot.frame.bytes b)

      by_boot_up : (place : Option ℕ) → place_of (error_control_id 0) slot.frame.id m.nodes ≡ place
          → has_boot_up_byte slot.frame.bytes ≡ true → Holds (outcome (after_boot_up t place m) image).0
      unfolding after_boot_up after_own_boot_up
      by_boot_up None e b = stays
      by_boot_up (Some k) e b = either (is_own (node_at m.nodes k).stage)
        where
          either : (x : Bool)
              → Holds (outcome (if x then Answer (after_own_boot_up k m, []) else after_boot_at t k m) image).0
          either true = stays
          either false =
              rw (boots_outcome t k m image)
              (turns_to k _ (found_within (error_control_id 0) slot.frame.id m.nodes k e)
              (λ here. rw (number_is k here) (boots (boot_of k e b here) (t + m.timeout))))

      by_answer : (place : Option ℕ) → place_of (sdo_answer_id 0) slot.frame.id m.nodes ≡ place
          → Holds (outcome (after_sdo_frame t slot.frame.bytes place m) image).0
      unfolding after_sdo_frame
      by_answer None e = stays
      by_answer (Some k) e =
          rw (answered_outcome t slot.frame.bytes k m image)
          (turns_to k _ (found_within (sdo_answer_id 0) slot.frame.id m.nodes k e)
          (λ here. rw (number_is k here, stage_is k here)
          (answers slot there (found_is (sdo_answer_id 0) slot.frame.id m.nodes k e
          ∙ ap (λ x. sdo_answer_id 0 + x) (number_is k here)) (t + m.timeout))))

      by_frame : Holds (outcome (after_frame t slot.frame m) image).0
      unfolding after_frame
      by_frame = first (has_boot_up_byte slot.frame.bytes) refl
        where
          second : (b : Bool)
              → Holds (outcome (if b
              then after_sdo_frame t slot.frame.bytes (place_of (sdo_answer_id 0) slot.frame.id m.nodes) m
              else Answer (m, [])) image).0
          second true = by_answer (place_of (sdo_answer_id 0) slot.frame.id m.nodes) refl
          second false = stays

          first : (b : Bool) → has_boot_up_byte slot.frame.bytes ≡ b
              → Holds (outcome (if b then after_boot_up t (place_of (error_control_id 0) slot.frame.id m.nodes) m
              else if length slot.frame.bytes == 8
              then after_sdo_frame t slot.frame.bytes (place_of (sdo_answer_id 0) slot.frame.id m.nodes) m
              else Answer (m, [])) image).0
          first true e = by_boot_up (place_of (error_control_id 0) slot.frame.id m.nodes) refl e
          first false e = second (length slot.frame.bytes == 8)

    hears_slot : (slot : Option Slot) → heard ≡ slot → Holds (outcome (manager_after_slot t slot m) image).0
    unfolding manager_after_slot
    hears_slot None e = stays
    hears_slot (Some slot) e = by (manager_sender m.number == slot.sender)
      where
        by : (b : Bool) → Holds (outcome (if b then Answer (m, []) else after_frame t slot.frame m) image).0
        by true = stays
        by false = by_frame slot e

  -- ---- the timers

  node_later : (b : Booting) → P b.stage → P (node_after t b).stage
  unfolding sdo_time_out
  node_later b h = by (is_timed_out t b.stage) refl
    where
      by : (x : Bool) → is_timed_out t b.stage ≡ x
          → P (if x then record b { stage = (sdo_time_out b.stage).stage } else b).stage
      by true e = fails b.stage e h
      by false e = h

  later_at : (nodes : List Booting) (k : ℕ) → node_at (map (node_after t) nodes) k ≡ node_after t (node_at nodes k)
  later_at [] k = refl
  later_at (b ∷ nodes) zero = refl
  later_at (b ∷ nodes) (suc k) = later_at nodes k

  time_outs_keep : (m : Manager) → Holds m → Holds (time_outs t m).0
  unfolding time_outs
  time_outs_keep m h = rw (later_at m.nodes i) (node_later (node_at m.nodes i) h)

  timers_keep : (m : Manager) → Holds m → Holds (timers t m).0
  unfolding timers
  timers_keep m h = time_outs_keep m h

  pub stage_after : (s : Bus) → heard ≡ ended_slot t s.wire → node_at s.manager.nodes i ≡ n
      → P (node_at (outcome (instant t s) image).0.manager.nodes i).stage
  stage_after s e is =
      manager_through image t s (λ m. node_at m.nodes i ≡ n) Holds Holds
      (λ c node m h. h)
      (λ m h. hears_slot m h (ended_slot t s.wire) e)
      timers_keep
      (λ m place h. h)
      is

-- ---- from a write on, and once a boot has ended

module _ (image : Image) (t : ℕ) (s : Bus) (i : ℕ) where
  abbrev node : Booting
  node = node_at s.manager.nodes i

  abbrev stage_then : BootStage
  stage_then = (node_at (outcome (instant t s) image).0.manager.nodes i).stage

  module _ (j : ℕ) (transfer : Transfer) (deadline : ℕ) (writing : node.stage ≡ Writing j transfer deadline) where
    confirmed_by : (slot : Slot) → ended_slot t s.wire ≡ Some slot → slot.frame.id ≡ sdo_answer_id node.number
        → (after_answer transfer slot.frame.bytes).progress ≡ Some progress.Written
        → IsConfirmedBy node.number transfer (ended_slot t s.wire)
    confirmed_by slot e id p = subst (IsConfirmedBy node.number transfer) (sym e) (id, p)

    by_answer_to : (slot : Slot) → ended_slot t s.wire ≡ Some slot → slot.frame.id ≡ sdo_answer_id node.number
        → (later : ℕ)
        → Follows image node.number (ended_slot t s.wire) j transfer
        (outcome (sdo_answer later node.number node.stage slot.frame.bytes) image).stage
    unfolding sdo_answer
    by_answer_to slot e id later =
        rw writing (answer_follows image node.number (ended_slot t s.wire) j transfer later deadline
        (after_answer transfer slot.frame.bytes).stage (after_answer transfer slot.frame.bytes).progress
        (confirmed_by slot e id))

    pub write_followed : FollowsWrite image node.number (ended_slot t s.wire) j transfer stage_then
    write_followed =
        stage_after image t i (ended_slot t s.wire) node (Follows image node.number (ended_slot t s.wire) j transfer)
        (rw writing (inl refl))
        (boot_follows image node.number (ended_slot t s.wire) j transfer)
        by_answer_to
        (λ stage timed h. tt)
        s refl refl

  module _ (over : deadline_of node.stage ≡ None) where
    abbrev Rests : BootStage → Type 0
    Rests stage = (stage ≡ node.stage) ⊎ IsBootUpOf node.number (ended_slot t s.wire)

    unmoved : (stage : BootStage) → deadline_of stage ≡ None → (later number : ℕ) (answer : List ℕ)
        → (outcome (sdo_answer later number stage answer) image).stage ≡ stage
    unfolding sdo_answer
    unmoved Unseen e later number answer = refl
    unmoved (Comparing place expected transfer deadline) e later number answer = absurd cc
    unmoved (Writing place transfer deadline) e later number answer = absurd cc
    unmoved Configured e later number answer = refl
    unmoved Failed e later number answer = refl
    unmoved Own e later number answer = refl

    never : (stage : BootStage) → deadline_of stage ≡ None → is_timed_out t stage ≡ true → ⊥
    never stage e h = false≢true (ap (is_at t) (sym e) ∙ h)

    fails_never : (stage : BootStage) → is_timed_out t stage ≡ true → Rests stage → Rests Failed
    fails_never stage timed (inl e) =
        absurd (never node.stage over (subst (λ (x : BootStage). is_timed_out t x ≡ true) e timed))
    fails_never stage timed (inr b) = inr b

    pub rests_until_boot_up : (stage_then ≡ node.stage) ⊎ IsBootUpOf node.number (ended_slot t s.wire)
    rests_until_boot_up =
        stage_after image t i (ended_slot t s.wire) node Rests
        (inl refl)
        (λ b later. inr b)
        (λ slot e id later. inl (unmoved node.stage over later node.number slot.frame.bytes))
        fails_never
        s refl refl
