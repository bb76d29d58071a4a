-- Rules of a device that leave its SDO server alone.
use Rattle.std.proofs.Common.{◌≡◌, ◌≢◌, ◌⊎◌, inl, inr, ℕ, ◌==◌, Bool, true, false, List, [], ◌∷◌, ◌++◌, All, refl, ap}
use Rattle.std.proofs.Common.{◌∙◌, subst, sym, arith, cond, Option, Some, None}
use Rattle.std.specs.Prelude.{if◌then◌else◌}
use Rattle.std.specs.FinMap.{get, get-insert, insert}
use Rattle.std.specs.Ordering.{eq_by_cmp}
use Rattle.std.proofs.lemmas.List.Elements.{All-append, All-cons}
use Rattle.can_frame.specs.WaitingFrames.{without_unwanted}
use Rattle.can_frame.specs.declared.purpose.Purpose.TheVariants.{Emergency}
use Rattle.can_frame.specs.declared.unwanted.Unwanted.TheVariants.{Sdos}
use Rattle.co_dict.specs.Places.{place_cmp}
use Rattle.co_dict.specs.Shapes.{Shaped}
use Rattle.co_dict.specs.Values.{Values}
use Rattle.co_dict.proofs.PlaceLemmas.{places_total, written_elsewhere}
use Rattle.co_device.specs.Device.{Device, after_error_control, after_own_write, after_server_write, after_set, after_write}
use Rattle.co_device.specs.Device.{after_write_of_consumer, enter_pre_operational, is_in, is_producer_time}
use Rattle.co_device.specs.Device.{out_of_operational, stop_remote_node, with_emergencies, with_emergency}
use Rattle.co_device.specs.Device.{without_answers, without_error_if}
use Rattle.cia301.specs.declared.nmt_state.NmtState.{NmtState}
use Rattle.cia301.specs.declared.nmt_state.NmtState.TheVariants.{Operational, Stopped}
use Rattle.co_sdo.specs.declared.transfer.Transfer.TheVariants.{Idle}
use Rattle.device_agenda.proofs.CaseLemmas.{one_of}
use Rattle.device_objects.specs.Consumers.{consumers_after_heartbeat, consumers_after_write, is_last_failure_over}
use Rattle.device_objects.specs.Profile.{with_error_bits, with_register, without_error_bits}
use Rattle.device_objects.specs.declared.learnt.Learnt.{Learnt}
use Rattle.cia301.specs.PdoObjects.{is_of_tpdos, is_of_rpdos}
use Rattle.network_laws.specs.Leaves.{LeavesServer, answers_of}
use Rattle.network_laws.specs.Writes.{writes_of_set}
use Rattle.network_laws.specs.Written.{AgreeButRegister, AreStored, EntryValue, Event, NoneBySdo, Sdo, Writer, Written}
use Rattle.network_laws.specs.Written.{error_register, with_writes, written_by}
use Rattle.network_laws.proofs.WriteListLemmas.{IsOther, WaitsAlike, alike_itself, boot_up_is_left, no_answer_is_left, one_behind}
use Rattle.network_laws.proofs.WriteListLemmas.{some_behind, without_emergencies, without_tpdos}

-- ---- the same values but for the error register, the same frames and the same transfer

pub record Settles (d e : Device) : Type 0 where
  pub has_power : e.has_power ≡ d.has_power
  pub values : AgreeButRegister d.values e.values
  pub transfer : e.transfer ≡ d.transfer
  pub waiting : e.waiting ≡ d.waiting

pub settled : (d e : Device) → e.has_power ≡ d.has_power → e.values ≡ d.values → e.transfer ≡ d.transfer
    → e.waiting ≡ d.waiting → Settles d e
settled d e has_power values transfer waiting = record {
  has_power = has_power;
  values = λ place apart. ap (λ v. get v place) values;
  transfer = transfer;
  waiting = waiting;
}

still : (d e f : Device) → Settles d e → Settles e f → Settles d f
still d e f h g = record {
  has_power = g.has_power ∙ h.has_power;
  values = λ place apart. g.values place apart ∙ h.values place apart;
  transfer = g.transfer ∙ h.transfer;
  waiting = g.waiting ∙ h.waiting;
}

with_register_agrees : (learnt : Learnt) (register : ℕ) (values : Values)
    → AgreeButRegister values (with_register learnt register values)
with_register_agrees learnt register values place apart = by learnt.has_error_register
  where
    by : (has : Bool) → get (if has then insert values error_register (register ∷ []) else values) place
        ≡ get values place
    by true = written_elsewhere values error_register place (register ∷ []) apart
    by false = refl

pub set_bits_agree : (learnt : Learnt) (values : Values) → AgreeButRegister values (with_error_bits learnt values)
unfolding with_error_bits
set_bits_agree learnt values = with_register_agrees learnt _ values

cleared_bits_agree : (learnt : Learnt) (values : Values) → AgreeButRegister values (without_error_bits learnt values)
unfolding without_error_bits
cleared_bits_agree learnt values = with_register_agrees learnt _ values

cleared : (is_over : Bool) (d : Device) → Settles d (without_error_if is_over d)
cleared true d = record {
  has_power = refl;
  values = cleared_bits_agree d.learnt d.values;
  transfer = refl;
  waiting = refl;
}
cleared false d = settled d d refl refl refl refl

consumer_settles : (sub : ℕ) (d : Device) → Settles d (after_write_of_consumer sub d)
unfolding after_write_of_consumer
consumer_settles sub d =
    let e : Device = record d { consumers = consumers_after_write sub d.values d.consumers } in
    let is_over : Bool = is_last_failure_over d.consumers e.consumers in
    still d e (without_error_if is_over e) (settled d e refl refl refl refl) (cleared is_over e)

own_settles : (t : ℕ) (place : ℕ × ℕ) (d : Device) → Settles d (after_own_write t place d)
unfolding after_own_write
own_settles t place d = one_of (Settles d) (is_producer_time place) _ _ (settled d _ refl refl refl refl)
    (one_of (Settles d) (place.0 == 0x1016) _ d (consumer_settles place.1 d) (settled d d refl refl refl refl))

write_settles : (t : ℕ) (shape : Shaped) (place : ℕ × ℕ) (d : Device) → Settles d (after_write t shape place d)
unfolding after_write
write_settles t shape place d = one_of (Settles d) (is_of_rpdos place.0) _ _ (settled d _ refl refl refl refl)
    (one_of (Settles d) (is_of_tpdos place.0) _ _ (settled d _ refl refl refl refl) (own_settles t place d))

pub server_write_settles : (t : ℕ) (shape : Shaped) (wrote : Option (ℕ × ℕ)) (d : Device)
    → Settles d (after_server_write t shape wrote d)
server_write_settles t shape None d = settled d d refl refl refl refl
server_write_settles t shape (Some place) d = write_settles t shape place d

-- ---- the SDO server is left alone

none_written : (P : Written → Type 0) → All P []
none_written P k w less = absurd (omega (arith, less))

pub left_with : (d e : Device) → e.has_power ≡ d.has_power → AgreeButRegister d.values e.values
    → e.transfer ≡ d.transfer → WaitsAlike d.waiting e.waiting → LeavesServer [] d e
left_with d e has_power values transfer waits = record {
  has_power = has_power;
  values = values;
  by_others = none_written (λ w. w.by ≢ Sdo);
  transfer = inl transfer;
  answers = inl waits.answers;
  boot_up = waits.boot_up;
}

pub left_alone : (d e : Device) → Settles d e → LeavesServer [] d e
left_alone d e h = left_with d e h.has_power h.values h.transfer
    (subst (λ frames. WaitsAlike d.waiting frames) (sym h.waiting) (alike_itself d.waiting))

pub left_itself : (d : Device) → LeavesServer [] d d
left_itself d = left_alone d d (settled d d refl refl refl refl)

-- ---- one rule after another

inserted_agree : (before after : Values) (place : ℕ × ℕ) (bytes : List ℕ) → AgreeButRegister before after
    → AgreeButRegister (insert before place bytes) (insert after place bytes)
inserted_agree before after place bytes agree q apart =
    get-insert places_total after place bytes q
    ∙ ap (cond (eq_by_cmp place_cmp q place) (Some bytes)) (agree q apart)
    ∙ sym (get-insert places_total before place bytes q)

-- the same writes leave the same values
stored_agree : (writes : List Written) (before after : Values) → AgreeButRegister before after
    → AgreeButRegister (with_writes writes before) (with_writes writes after)
stored_agree [] before after agree = agree
stored_agree (w ∷ writes) before after agree =
    stored_agree writes (insert before w.place w.bytes) (insert after w.place w.bytes)
    (inserted_agree before after w.place w.bytes agree)

stored-append : (ws vs : List Written) (values : Values)
    → with_writes (ws ++ vs) values ≡ with_writes vs (with_writes ws values)
stored-append [] vs values = refl
stored-append (w ∷ ws) vs values = stored-append ws vs (insert values w.place w.bytes)

stored_joined : (ws vs : List Written) (before between after : Values) → AreStored ws before between
    → AreStored vs between after → AreStored (ws ++ vs) before after
stored_joined ws vs before between after h g place apart =
    g place apart ∙ stored_agree vs (with_writes ws before) between h place apart
    ∙ ap (λ v. get v place) (sym (stored-append ws vs before))

-- what stays or is dropped by each, stays or is dropped by both
dropped_joined : {X : Type 0} (before between after none : X) → (between ≡ before) ⊎ (between ≡ none)
    → (after ≡ between) ⊎ (after ≡ none) → (after ≡ before) ⊎ (after ≡ none)
dropped_joined before between after none (inl first) (inl second) = inl (second ∙ first)
dropped_joined before between after none (inr first) (inl second) = inr (second ∙ first)
dropped_joined before between after none first (inr second) = inr second

pub followed : (ws vs : List Written) (d e f : Device) → LeavesServer ws d e → LeavesServer vs e f
    → LeavesServer (ws ++ vs) d f
followed ws vs d e f h g = record {
  has_power = g.has_power ∙ h.has_power;
  values = stored_joined ws vs d.values e.values f.values h.values g.values;
  by_others = All-append (λ w. w.by ≢ Sdo) ws vs h.by_others g.by_others;
  transfer = dropped_joined d.transfer e.transfer f.transfer Idle h.transfer g.transfer;
  answers = dropped_joined (answers_of d.waiting) (answers_of e.waiting) (answers_of f.waiting) [] h.answers g.answers;
  boot_up = g.boot_up ∙ h.boot_up;
}

-- ---- the write of one entry, but by SDO

one_written : (writer : Writer) (number : ℕ) (e : EntryValue) → writer ≢ Sdo
    → NoneBySdo (written_by writer number (e ∷ []))
one_written writer number e other = All-cons (λ w. w.by ≢ Sdo) _ [] other (none_written (λ w. w.by ≢ Sdo))

pub left_written : (writer : Writer) (number : ℕ) (e : EntryValue) (d : Device) → writer ≢ Sdo
    → LeavesServer (written_by writer number (e ∷ [])) d (record d { values = insert d.values e.place e.bytes })
left_written writer number e d other = record {
  has_power = refl;
  values = λ place apart. refl;
  by_others = one_written writer number e other;
  transfer = inl refl;
  answers = inl refl;
  boot_up = refl;
}

pub write_left : (t : ℕ) (shape : Shaped) (place : ℕ × ℕ) (d : Device) → LeavesServer [] d (after_write t shape place d)
write_left t shape place d = left_alone d _ (write_settles t shape place d)

pub set_left : (t : ℕ) (place : ℕ × ℕ) (bytes : List ℕ) (d : Device)
    → LeavesServer (writes_of_set place bytes d) d (after_set t place bytes d)
unfolding after_set writes_of_set
set_left t place bytes d = by d.has_power
  where
    one : EntryValue
    one = record { place = place; bytes = bytes }

    by : (on : Bool) → LeavesServer (if on then written_by Event d.number (one ∷ []) else []) d
        (if on then after_own_write t place (record d { values = insert d.values place bytes }) else d)
    by true =
        let set : Device = record d { values = insert d.values place bytes } in
        followed (written_by Event d.number (one ∷ [])) [] d set (after_own_write t place set)
        (left_written Event d.number one d (λ same. absurd cc))
        (left_alone set (after_own_write t place set) (own_settles t place set))
    by false = left_itself d

module _ (place : ℕ × ℕ) (bytes : List ℕ) (d : Device) where
  pub set_written : d.has_power ≡ true
      → writes_of_set place bytes d ≡ written_by Event d.number (record { place = place; bytes = bytes } ∷ [])
  unfolding writes_of_set
  set_written on = rw on refl

  pub none_set : d.has_power ≡ false → writes_of_set place bytes d ≡ []
  unfolding writes_of_set
  none_set off = rw off refl

pub ruleset what_is_set = (set_left, set_written, none_set)

-- ---- emergency objects, and error control

emergency_is_other : IsOther Emergency
emergency_is_other = record { no_answer = refl; no_boot_up = refl }

pub told_left : (code : ℕ) (d : Device) → LeavesServer [] d (with_emergency code d)
unfolding with_emergency
told_left code d = one_of (LeavesServer [] d) (is_in Stopped d) d _ (left_itself d)
    (left_with d _ refl (λ place apart. refl) refl (one_behind d.waiting _ emergency_is_other))

pub all_told_left : (count code : ℕ) (d : Device) → LeavesServer [] d (with_emergencies count code d)
all_told_left count code d = one_of (LeavesServer [] d) (is_in Stopped d) d _ (left_itself d)
    (left_with d _ refl (λ place apart. refl) refl (some_behind d.waiting count _ emergency_is_other))

pub control_left : (t producer : ℕ) (d : Device) → LeavesServer [] d (after_error_control t producer d)
unfolding after_error_control
control_left t producer d =
    let heard : Device = record d { consumers = consumers_after_heartbeat t producer d.consumers } in
    let over : Device = without_error_if true heard in
    let now : Settles d heard = settled d heard refl refl refl refl in
    one_of (LeavesServer [] d) (is_last_failure_over d.consumers heard.consumers) _ heard
    (followed [] [] d over (with_emergency 0x0000 over) (left_alone d over (still d heard over now (cleared true heard)))
    (told_left 0x0000 over)) (left_alone d heard now)

-- ---- NMT states

out_left : (d : Device) → LeavesServer [] d (out_of_operational d)
unfolding out_of_operational
out_left d = one_of (LeavesServer [] d) (is_in Operational d) _ d
    (left_with d _ refl (λ place apart. refl) refl (without_tpdos d.waiting)) (left_itself d)

pub entered_left : (d : Device) → LeavesServer [] d (enter_pre_operational d)
entered_left d =
    followed [] [] d (out_of_operational d) (enter_pre_operational d) (out_left d)
    (left_alone (out_of_operational d) (enter_pre_operational d)
    (settled (out_of_operational d) (enter_pre_operational d) refl refl refl refl))

unanswered_left : (d : Device) (state : NmtState) → LeavesServer [] d (record (without_answers d) { state = state })
unanswered_left d state =
    let others : WaitsAlike (without_unwanted Sdos d.waiting) (without_answers d).waiting =
    without_emergencies (without_unwanted Sdos d.waiting) in
    record {
      has_power = refl;
      values = λ place apart. refl;
      by_others = none_written (λ w. w.by ≢ Sdo);
      transfer = inr refl;
      answers = inr (others.answers ∙ no_answer_is_left d.waiting);
      boot_up = others.boot_up ∙ boot_up_is_left d.waiting;
    }

pub stopped_left : (d : Device) → LeavesServer [] d (stop_remote_node d)
stopped_left d = one_of (LeavesServer [] d) (is_in Stopped d) d _ (left_itself d)
    (followed [] [] d (out_of_operational d) _ (out_left d) (unanswered_left (out_of_operational d) Stopped))
