-- A frame of which a device takes nothing changes nothing, and nothing is read for it.
use Rattle.std.proofs.Common.{◌≡◌, ℕ, zero, suc, Bool, true, false, not, ◌&&◌, ◌||◌, List, [], ◌∷◌, Option, Some}
use Rattle.std.proofs.Common.{None, refl, ap, ◌∙◌}
use Rattle.std.specs.Prelude.{if◌then◌else◌}
use Rattle.std.specs.List.{list_any}
use Rattle.image_parts.specs.Asking.{Asking, Answer, bind}
use Rattle.can_frame.specs.Frames.{BaseFrame}
use Rattle.image_parts.specs.Contents.{Content}
use Rattle.image_parts.specs.declared.part.Part.{Part}
use Rattle.pdo_rules.specs.declared.configuration.Configuration.{Configuration}
use Rattle.pdo_rules.specs.declared.receipt.Receipt.TheVariants.{Ignored}
use Rattle.device_objects.specs.Consumers.{consumers_after_heartbeat, any_expects, any_failed, expects}
use Rattle.device_objects.specs.Consumers.{consumer_after_heartbeat, is_last_failure_over}
use Rattle.device_objects.specs.declared.consumer.Consumer.{Consumer}
use Rattle.device_objects.specs.declared.reception.Reception.{Reception}
use Rattle.device_objects.specs.declared.reception.Reception.TheVariants.{Nothing, NmtService, Sync, SdoRequest}
use Rattle.device_objects.specs.declared.reception.Reception.TheVariants.{ErrorControl, Pdo}
use Rattle.device_pdos.specs.Rpdos.{any_has_identifier, has_identifier, receipt_of, rpdo_at}
use Rattle.device_pdos.specs.declared.rpdo_state.RpdoState.{RpdoState}
use Rattle.co_device.specs.Device.{Device, after_error_control, is_in, after_sdo_request}
use Rattle.co_device.specs.Receiving.{is_ignored, after_pdo, rpdo_places, after_frame, after_rpdo, after_sync}
use Rattle.co_device.specs.Receiving.{after_receipt, walk, after_reception, is_ignored_as, reception}
use Rattle.cia301.specs.declared.nmt_state.NmtState.TheVariants.{Operational, Stopped}

neither : (a b : Bool) → a || b ≡ false → (a ≡ false) × (b ≡ false)
neither true b h = absurd cc
neither false b h = (refl, h)

unturned : (b : Bool) → not b ≡ true → b ≡ false
unturned true h = absurd cc
unturned false h = refl

-- ---- the consumers

one_unheard : (t producer : ℕ) (c : Consumer) → expects producer c.entry ≡ false
    → consumer_after_heartbeat t producer c ≡ c
one_unheard t producer c e = rw e refl

unheard : (t producer : ℕ) (cs : List Consumer) → any_expects producer cs ≡ false
    → consumers_after_heartbeat t producer cs ≡ cs
unfolding any_expects consumers_after_heartbeat
unheard t producer [] h = refl
unheard t producer (c ∷ cs) h =
    let parts = neither (expects producer c.entry) (list_any (λ c. expects producer c.entry) cs) h in
    ap (λ (x : Consumer). x ∷ consumers_after_heartbeat t producer cs) (one_unheard t producer c parts.0)
    ∙ ap (λ xs. c ∷ xs) (unheard t producer cs parts.1)

not_over : (cs : List Consumer) → is_last_failure_over cs cs ≡ false
unfolding is_last_failure_over
not_over cs = by (any_failed cs)
  where
    by : (b : Bool) → b && not b ≡ false
    by true = refl
    by false = refl

control_ignored : (t producer : ℕ) (d : Device) → any_expects producer d.consumers ≡ false
    → after_error_control t producer d ≡ d
unfolding after_error_control
control_ignored t producer d h = rw (unheard t producer d.consumers h, not_over d.consumers) refl

-- ---- the RPDOs

another : (frame : BaseFrame) (configuration : Option Configuration) → has_identifier frame.id configuration ≡ false
    → receipt_of frame configuration ≡ Ignored
unfolding receipt_of
another frame None e = refl
another frame (Some c) e = rw e refl

module _ (frame : BaseFrame) where
  none_takes : (rpdos : List RpdoState) → any_has_identifier frame.id rpdos ≡ false → (i : ℕ)
      → receipt_of frame (rpdo_at rpdos i).configuration ≡ Ignored
  unfolding any_has_identifier
  none_takes [] h i = another frame None refl
  none_takes (p ∷ rpdos) h zero = another frame p.configuration (neither (has_identifier frame.id p.configuration)
      (list_any (λ p. has_identifier frame.id p.configuration) rpdos) h).0
  none_takes (p ∷ rpdos) h (suc i) = none_takes rpdos (neither (has_identifier frame.id p.configuration)
      (list_any (λ p. has_identifier frame.id p.configuration) rpdos) h).1 i

  one_untaken : (t : ℕ) (d : Device) → any_has_identifier frame.id d.rpdos ≡ false → (i : ℕ)
      → after_rpdo t frame i d ≡ Answer d
  unfolding after_rpdo after_receipt
  one_untaken t d h i = rw (none_takes d.rpdos h i) refl

  walk_untaken : (t : ℕ) (d : Device) → any_has_identifier frame.id d.rpdos ≡ false → (numbers : List ℕ)
      → walk (after_rpdo t frame) numbers d ≡ Answer d
  walk_untaken t d h [] = refl
  walk_untaken t d h (i ∷ numbers) = ap (λ (m : Asking Part Content Device). bind m (walk (after_rpdo t frame) numbers))
      (one_untaken t d h i) ∙ walk_untaken t d h numbers

  pdo_untaken : (t : ℕ) (d : Device) → not (is_in Operational d && any_has_identifier frame.id d.rpdos) ≡ true
      → after_pdo t frame d ≡ Answer d
  unfolding after_pdo
  pdo_untaken t d h = by (is_in Operational d) (any_has_identifier frame.id d.rpdos) refl h
    where
      by : (on has : Bool) → any_has_identifier frame.id d.rpdos ≡ has → not (on && has) ≡ true
          → (if on then walk (after_rpdo t frame) (rpdo_places d) d else Answer d) ≡ Answer d
      by true true e k = absurd cc
      by true false e k = walk_untaken t d e (rpdo_places d)
      by false has e k = refl

-- ---- any frame

unsynced : (t : ℕ) (bytes : List ℕ) (d : Device) → not (is_in Operational d) ≡ true
    → after_sync t bytes d ≡ Answer d
unfolding after_sync
unsynced t bytes d h = rw (unturned (is_in Operational d) h) refl

unasked : (t : ℕ) (request : List ℕ) (d : Device) → is_in Stopped d ≡ true → after_sdo_request t request d ≡ Answer d
unfolding after_sdo_request
unasked t request d h = rw h refl

as_ignored : (t : ℕ) (r : Reception) (frame : BaseFrame) (d : Device) → is_ignored_as r frame d ≡ true
    → after_reception r t frame d ≡ Answer d
unfolding is_ignored_as after_reception
as_ignored t Nothing frame d h = refl
as_ignored t (NmtService service) frame d h = absurd cc
as_ignored t Sync frame d h = unsynced t frame.bytes d h
as_ignored t SdoRequest frame d h = unasked t frame.bytes d h
as_ignored t (ErrorControl producer) frame d h =
    ap (λ (x : Device). Answer x) (control_ignored t producer d (unturned (any_expects producer d.consumers) h))
as_ignored t Pdo frame d h = pdo_untaken frame t d h

pub ignored_changes_nothing : (t : ℕ) (frame : BaseFrame) (d : Device) → is_ignored frame d ≡ true
    → after_frame t frame d ≡ Answer d
unfolding is_ignored after_frame
ignored_changes_nothing t frame d h = as_ignored t (reception frame d) frame d h
