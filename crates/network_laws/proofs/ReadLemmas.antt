-- What an instant reads, and nothing else.
use Rattle.std.proofs.Common.{◌≡◌, ◌≢◌, ℕ, zero, suc, Bool, true, false, List, [], ◌∷◌, ◌++◌, length, Option, Some}
use Rattle.std.proofs.Common.{None, ◌⊎◌, inl, inr, refl, sym, ap, ◌∙◌, arith}
use Rattle.std.specs.Prelude.{if◌then◌else◌, ◌==◌, slice_set}
use Rattle.std.specs.List.{AllByRecursion}
use Rattle.std.proofs.lemmas.Bool.{false≢true}
use Rattle.std.proofs.lemmas.Bool.Decides.{nat_tests}
use Rattle.image_parts.specs.Asking.{Asking, outcome, reads}
use Rattle.image_parts.proofs.QuestionLemmas.{reads_bind}
use Rattle.can_frame.specs.Frames.{BaseFrame}
use Rattle.can_frame.specs.Identifiers.{sdo_request_id}
use Rattle.co_device.specs.Device.{Device, is_in, nmt_service, reset_communication, after_reset_node}
use Rattle.co_device.specs.Device.{after_sdo_request, with_emergency}
use Rattle.co_device.specs.Receiving.{after_mapping, after_kept_frame, after_pdo, rpdo_places, after_frame}
use Rattle.co_device.specs.Receiving.{after_rpdo, after_sync_at, after_sync, after_receipt, walk, after_reception}
use Rattle.co_device.specs.Receiving.{reception}
use Rattle.pdo_rules.specs.Sync.{sync_message}
use Rattle.co_device.proofs.ReceptionLemmas.{IsService, Says, reception_says}
use Rattle.cia301.specs.declared.nmt_state.NmtState.TheVariants.{Operational, Stopped}
use Rattle.image_parts.specs.Contents.{Content, Image}
use Rattle.image_parts.specs.declared.part.Part.{Part}
use Rattle.image_parts.specs.declared.part.Part.TheVariants.{Defaults, Shape}
use Rattle.pdo_rules.specs.declared.receipt.Receipt.{Receipt}
use Rattle.pdo_rules.specs.declared.receipt.Receipt.TheVariants.{AtOnce, Ignored, Kept, Short}
use Rattle.can_frame.specs.WaitingFrames.{waiting}
use Rattle.can_frame.specs.declared.purpose.Purpose.TheVariants.{Emergency}
use Rattle.device_objects.specs.Profile.{emergency_frame, error_register, sync_identifier}
use Rattle.device_objects.specs.declared.reception.Reception.{Reception}
use Rattle.device_objects.specs.declared.reception.Reception.TheVariants.{Nothing, NmtService, Sync, SdoRequest}
use Rattle.device_objects.specs.declared.reception.Reception.TheVariants.{ErrorControl, Pdo}
use Rattle.co_scenario.specs.Commands.{command_of}
use Rattle.co_scenario.specs.declared.nmt_command.NmtCommand.{NmtCommand}
use Rattle.co_scenario.specs.declared.nmt_command.NmtCommand.TheVariants.{EnterPreOperational, ResetCommunication}
use Rattle.co_scenario.specs.declared.nmt_command.NmtCommand.TheVariants.{ResetNode, Start, Stop}
use Rattle.device_agenda.proofs.KeptLemmas.{rpdo_kept, synced_kept}
use Rattle.device_agenda.proofs.SelfLemmas.{HasNumber, number_kept}
use Rattle.device_pdos.specs.Rpdos.{receipt_of, rpdo_at, with_kept}
use Rattle.device_pdos.specs.declared.rpdo_state.RpdoState.{RpdoState}
use Rattle.network_laws.specs.Reads.{AppliesAtOnce, AppliesAtSync, IsReadByDevice, IsReset, IsResetOf, UsesEntries}

-- ---- reads for a reason

abbrev pub AreFor : (Part → Type 0) → List (Part × Content) → Type 0
AreFor R rs = AllByRecursion (λ (r : Part × Content). R r.0) rs

pub both_for : (R : Part → Type 0) (xs ys : List (Part × Content)) → AreFor R xs → AreFor R ys → AreFor R (xs ++ ys)
both_for R [] ys h k = k
both_for R (x ∷ xs) ys h k = (h.0, both_for R xs ys h.1 k)

pub weaker : (P R : Part → Type 0) → ((part : Part) → P part → R part) → (rs : List (Part × Content)) → AreFor P rs
    → AreFor R rs
weaker P R f [] h = tt
weaker P R f (r ∷ rs) h = (f r.0 h.0, weaker P R f rs h.1)

-- one of two trees, with what the test gave
pub picked : {A : Type 0} (image : Image) (R : Part → Type 0) (b : Bool) (m n : Asking Part Content A)
    → (b ≡ true → AreFor R (reads m image)) → (b ≡ false → AreFor R (reads n image))
    → AreFor R (reads (if b then m else n) image)
picked image R true m n p q = p refl
picked image R false m n p q = q refl

pub it_is : (a b : ℕ) → (a == b) ≡ true → a ≡ b
it_is a b e = grind (arith, nat_tests)

pub it_is_not : (a b : ℕ) → (a == b) ≡ false → a ≢ b
it_is_not a b e f = absurd (false≢true (sym e ∙ ap (λ n. n == b) f ∙ itself b))
  where
    itself : (n : ℕ) → (n == n) ≡ true
    itself n = grind (arith, nat_tests)

-- ---- a device and a frame

module _ (image : Image) (t : ℕ) (frame : BaseFrame) (d : Device) where
  abbrev R : Part → Type 0
  R part = IsReadByDevice frame d part

  own_parts : IsResetOf d.number frame
      → AreFor R ((Defaults d.number, image (Defaults d.number)) ∷ (Shape d.number, image (Shape d.number)) ∷ [])
  own_parts h = (inl (inl refl, h), (inl (inr refl, h), tt))

  entries : UsesEntries frame d → (n : ℕ) → n ≡ d.number → AreFor R ((Shape n, image (Shape n)) ∷ [])
  entries h n is = (inr (ap Shape is, h), tt)

  -- NMT services
  service_reads : (command : Option NmtCommand) → (IsReset command → IsResetOf d.number frame)
      → AreFor R (reads (nmt_service command t d) image)
  unfolding nmt_service after_reset_node reset_communication
  service_reads None h = tt
  service_reads (Some Start) h = tt
  service_reads (Some Stop) h = tt
  service_reads (Some EnterPreOperational) h = tt
  service_reads (Some ResetNode) h = own_parts (h (inl refl))
  service_reads (Some ResetCommunication) h = own_parts (h (inr refl))

  -- requests
  request_reads : (frame.id ≡ sdo_request_id d.number) → (length frame.bytes ≡ 8)
      → AreFor R (reads (after_sdo_request t frame.bytes d) image)
  unfolding after_sdo_request
  request_reads id whole =
      picked image R (is_in Stopped d) _ _ (λ e. tt)
      (λ e. entries (inl (record { is_request = id; is_whole = whole; serves = e })) d.number refl)

  -- RPDOs, each on what the one before it left: as they were up to the first that applies a frame
  module _ (operates : is_in Operational d ≡ true) where
    abbrev AreAsBefore : Device → Type 0
    AreAsBefore e = (i : ℕ) → (rpdo_at e.rpdos i).configuration ≡ (rpdo_at d.rpdos i).configuration

    keeping : (rpdos : List RpdoState) (k i : ℕ) (kept : Option BaseFrame)
        → (rpdo_at (slice_set rpdos k (record (rpdo_at rpdos k) { kept = kept })) i).configuration
        ≡ (rpdo_at rpdos i).configuration
    keeping [] k i kept = refl
    keeping (p ∷ ps) zero zero kept = refl
    keeping (p ∷ ps) zero (suc i) kept = refl
    keeping (p ∷ ps) (suc k) zero kept = refl
    keeping (p ∷ ps) (suc k) (suc i) kept = keeping ps k i kept

    kept_same : (rpdos : List RpdoState) (k i : ℕ) (kept : Option BaseFrame)
        → (rpdo_at (with_kept rpdos k kept) i).configuration ≡ (rpdo_at rpdos i).configuration
    unfolding with_kept
    kept_same rpdos k i kept = keeping rpdos k i kept

    emergency_same : (code : ℕ) (e : Device) → (with_emergency code e).rpdos ≡ e.rpdos
    unfolding with_emergency
    emergency_same code e = by (is_in Stopped e)
      where
        by : (b : Bool)
            → (if b then e
            else record e {
              waiting = e.waiting
                  ++ waiting Emergency (emergency_frame e.number code (error_register e.learnt e.values)) ∷ [];
            }).rpdos
            ≡ e.rpdos
        by true = refl
        by false = refl

    abbrev SoFar : Device → Type 0
    SoFar e = AreAsBefore e ⊎ AppliesAtOnce frame d

    still_before : (e f : Device) → f.rpdos ≡ e.rpdos → SoFar e → SoFar f
    still_before e f same (inl h) = inl (λ i. ap (λ (ps : List RpdoState). (rpdo_at ps i).configuration) same ∙ h i)
    still_before e f same (inr a) = inr a

    applies_now : (e : Device) (k : ℕ) → receipt_of frame (rpdo_at e.rpdos k).configuration ≡ AtOnce → SoFar e
        → AppliesAtOnce frame d
    applies_now e k at_once (inl h) = record {
      operates = operates;
      number = k;
      applies = ap (receipt_of frame) (sym (h k)) ∙ at_once;
    }
    applies_now e k at_once (inr a) = a

    record IsTaken (e : Device) (k : ℕ) (receipt : Receipt) : Type 0 where
      why : AreFor R (reads (after_receipt receipt t frame k e) image)
      after : SoFar (outcome (after_receipt receipt t frame k e) image)

    taken_reads : (e : Device) (k : ℕ) (receipt : Receipt)
        → receipt_of frame (rpdo_at e.rpdos k).configuration ≡ receipt → e.number ≡ d.number → SoFar e
        → IsTaken e k receipt
    unfolding after_receipt after_mapping
    taken_reads e k Short is number h = record {
      why = tt;
      after = still_before e (with_emergency 0x8210 e)
          (emergency_same 0x8210 e) h;
    }
    taken_reads e k Kept is number (inl h) =
        record { why = tt; after = inl (λ i. kept_same e.rpdos k i (Some frame) ∙ h i) }
    taken_reads e k Kept is number (inr a) = record { why = tt; after = inr a }
    taken_reads e k AtOnce is number h =
        let now = applies_now e k is h in
        record { why = entries (inr (inr now)) e.number number; after = inr now }
    taken_reads e k Ignored is number h = record { why = tt; after = h }

    one_reads : (k : ℕ) (e : Device) → e.number ≡ d.number → SoFar e → AreFor R (reads (after_rpdo t frame k e) image)
        × SoFar (outcome (after_rpdo t frame k e) image)
    unfolding after_rpdo
    one_reads k e number h =
        let taken = taken_reads e k (receipt_of frame (rpdo_at e.rpdos k).configuration) refl number h in
        (taken.why, taken.after)

    walk_reads : (ks : List ℕ) (e : Device) → e.number ≡ d.number → SoFar e
        → AreFor R (reads (walk (after_rpdo t frame) ks e) image)
    walk_reads [] e number h = tt
    walk_reads (k ∷ ks) e number h =
        let one = one_reads k e number h in
        rw (reads_bind (after_rpdo t frame k e) (walk (after_rpdo t frame) ks) image)
        (both_for R (reads (after_rpdo t frame k e) image) _ one.0
        (walk_reads ks (outcome (after_rpdo t frame k e) image)
        (rpdo_kept t (HasNumber d.number) (number_kept t d.number) image frame k e number) one.1))

    -- and at a SYNC: what they keep is as before up to the first that is applied
    module _ (is_sync : frame.id ≡ sync_identifier d.learnt d.values) where
      abbrev Still : Device → Type 0
      Still e = (e.rpdos ≡ d.rpdos) ⊎ AppliesAtSync frame d

      applies_kept : (e : Device) (k : ℕ) (kept : BaseFrame) → (rpdo_at e.rpdos k).kept ≡ Some kept → Still e
          → AppliesAtSync frame d
      applies_kept e k kept is (inl same) = record {
        is_sync = is_sync;
        operates = operates;
        number = k;
        kept = kept;
        keeps = ap (λ (ps : List RpdoState). (rpdo_at ps k).kept) (sym same) ∙ is;
      }
      applies_kept e k kept is (inr a) = a

      stored_reads : (e : Device) (k : ℕ) (kept : Option BaseFrame) → (rpdo_at e.rpdos k).kept ≡ kept
          → e.number ≡ d.number → Still e
          → AreFor R (reads (after_kept_frame t kept k e) image) × Still (outcome (after_kept_frame t kept k e) image)
      unfolding after_kept_frame after_mapping
      stored_reads e k None is number h = (tt, h)
      stored_reads e k (Some kept) is number h =
          let now = applies_kept e k kept is h in
          (entries (inr (inl now)) e.number number, inr now)

      synced_reads : (k : ℕ) (e : Device) → e.number ≡ d.number → Still e → AreFor R (reads (after_sync_at t k e) image)
          × Still (outcome (after_sync_at t k e) image)
      unfolding after_sync_at
      synced_reads k e number h = stored_reads e k (rpdo_at e.rpdos k).kept refl number h

      sync_walk : (ks : List ℕ) (e : Device) → e.number ≡ d.number → Still e
          → AreFor R (reads (walk (after_sync_at t) ks e) image)
      sync_walk [] e number h = tt
      sync_walk (k ∷ ks) e number h =
          let one = synced_reads k e number h in
          rw (reads_bind (after_sync_at t k e) (walk (after_sync_at t) ks) image)
          (both_for R (reads (after_sync_at t k e) image) _ one.0 (sync_walk ks (outcome (after_sync_at t k e) image)
          (synced_kept t (HasNumber d.number) (number_kept t d.number) image k e number) one.1))

  pdo_reads : AreFor R (reads (after_pdo t frame d) image)
  unfolding after_pdo
  pdo_reads = picked image R (is_in Operational d) _ _ (λ e. walk_reads e (rpdo_places d) d refl (inl (λ i. refl)))
      (λ e. tt)

  sync_reads : frame.id ≡ sync_identifier d.learnt d.values → AreFor R (reads (after_sync t frame.bytes d) image)
  unfolding after_sync
  sync_reads is = picked image R (is_in Operational d) _ _ (λ e. sync_walk e is (rpdo_places d)
      (record d { synced = Some (sync_message frame.bytes) }) refl (inl refl)) (λ e. tt)

  with_power : d.has_power ≡ true → (rs : List (Part × Content)) → AreFor R rs
      → AreFor (λ part. (d.has_power ≡ true) × R part) rs
  with_power on rs h = weaker R (λ part. (d.has_power ≡ true) × R part) (λ part h. (on, h)) rs h

  command_reads : (service : ℕ) → IsService service frame d → AreFor R (reads (nmt_service (command_of service) t d) image)
  command_reads service said = service_reads (command_of service) (λ h. record {
    is_command = said.is_command;
    is_addressed_to = said.is_addressed_to;
    resets = rw said.is_service at h;
  })

  received_reads : (r : Reception) → Says r frame d
      → AreFor (λ part. (d.has_power ≡ true) × R part) (reads (after_reception r t frame d) image)
  unfolding after_reception
  received_reads Nothing said = tt
  received_reads (NmtService service) said = with_power said.has_power _ (command_reads service said)
  received_reads Sync said = with_power said.has_power _ (sync_reads said.is_sync)
  received_reads SdoRequest said = with_power said.has_power _ (request_reads said.is_request said.is_whole)
  received_reads (ErrorControl producer) said = tt
  received_reads Pdo said = with_power said _ pdo_reads

  pub frame_reads : AreFor (λ part. (d.has_power ≡ true) × R part) (reads (after_frame t frame d) image)
  unfolding after_frame
  frame_reads = received_reads (reception frame d) (reception_says frame d)
