-- The frames that are something to a device.
use Rattle.std.proofs.Common.{◌≡◌, ℕ, ◌-◌, ◌<◌, ◌≤◌, ◌%◌, ◌==◌, Bool, true, false, not, ◌&&◌, ◌||◌, List, [], ◌∷◌}
use Rattle.std.proofs.Common.{Option, Some, None, inl, inr, refl, sym, ap, ◌∙◌, arith, length}
use Rattle.std.specs.Prelude.{if◌then◌else◌, is_some}
use Rattle.std.specs.List.{AllByRecursion, list_any}
use Rattle.std.proofs.lemmas.Bool.{eqb-false}
use Rattle.std.proofs.lemmas.Bool.Decides.{nat_tests}
use Rattle.can_frame.specs.Frames.{BaseFrame}
use Rattle.can_frame.specs.Identifiers.{error_control_id, nmt_id, sdo_request_id, sync_id}
use Rattle.base.specs.Ranges.{is_between}
use Rattle.cia301.specs.CobIds.{identifier_in}
use Rattle.co_dict.specs.Values.{Values, number_at}
use Rattle.device_objects.specs.Consumers.{any_expects, expects}
use Rattle.device_objects.specs.Profile.{sync_identifier}
use Rattle.device_objects.specs.declared.learnt.Learnt.{Learnt}
use Rattle.device_objects.specs.declared.reception.Reception.{Reception}
use Rattle.device_objects.specs.declared.reception.Reception.TheVariants.{Nothing, NmtService, Sync, SdoRequest}
use Rattle.device_objects.specs.declared.reception.Reception.TheVariants.{ErrorControl, Pdo}
use Rattle.device_objects.specs.Reception.{is_error_control}
use Rattle.device_agenda.specs.Deaf.{AwaitsNoSync, IsDeafTo}
use Rattle.device_pdos.specs.Rpdos.{any_has_identifier, has_identifier}
use Rattle.device_pdos.specs.Tpdos.{goes_by_sync}
use Rattle.device_pdos.specs.declared.rpdo_state.RpdoState.{RpdoState}
use Rattle.device_pdos.specs.declared.tpdo_state.TpdoState.{TpdoState}
use Rattle.co_device.specs.Device.{Device, is_in}
use Rattle.co_device.specs.Receiving.{is_ignored, is_ignored_as, reception}
use Rattle.co_device.proofs.ReceptionLemmas.{Says, reception_says}
use Rattle.cia301.specs.declared.nmt_state.NmtState.TheVariants.{Operational}
use Rattle.device_agenda.specs.Reach.{Extends, IsReachOf, reaches}
use Rattle.device_agenda.specs.declared.reach.Reach.{Reach}
use Rattle.device_agenda.proofs.GroupLemmas.{neither}

-- ---- SYNC

below : (n : ℕ) → n % 0x800 < 0x800
below n = omega arith

pub sync_below : (learnt : Learnt) (values : Values) → sync_identifier learnt values < 0x800
unfolding sync_identifier
sync_below learnt values = by learnt.has_sync_cob_id
  where
    by : (b : Bool) → (if b then identifier_in (number_at 4 values (0x1005, 0)) else sync_id) < 0x800
    by true = below (number_at 4 values (0x1005, 0))
    by false = omega arith

keeps_none : (kept : Option BaseFrame) → is_some kept ≡ false → kept ≡ None
keeps_none None e = refl
keeps_none (Some frame) e = absurd cc

none_keeps : (ps : List RpdoState) → list_any (λ p. is_some p.kept) ps ≡ false → AllByRecursion (λ p. p.kept ≡ None) ps
none_keeps [] e = tt
none_keeps (p ∷ ps) e =
    let parts = neither (is_some p.kept) (list_any (λ p. is_some p.kept) ps) e in
    (keeps_none p.kept parts.0, none_keeps ps parts.1)

none_goes : (ps : List TpdoState) → list_any (λ p. goes_by_sync p.configuration) ps ≡ false
    → AllByRecursion (λ p. goes_by_sync p.configuration ≡ false) ps
none_goes [] e = tt
none_goes (p ∷ ps) e =
    let parts = neither (goes_by_sync p.configuration) (list_any (λ p. goes_by_sync p.configuration) ps) e in
    (parts.0, none_goes ps parts.1)

pub awaits_none : (d : Device) → list_any (λ p. is_some p.kept) d.rpdos
    || list_any (λ p. goes_by_sync p.configuration) d.tpdos ≡ false → AwaitsNoSync d
awaits_none d e =
    let parts = neither (list_any (λ p. is_some p.kept) d.rpdos)
    (list_any (λ p. goes_by_sync p.configuration) d.tpdos) e in
    record { nothing_kept = none_keeps d.rpdos parts.0; no_tpdo = none_goes d.tpdos parts.1 }

-- ---- frames

dark_deaf : (frame : BaseFrame) (d : Device) → d.has_power ≡ false → IsDeafTo frame d
unfolding is_ignored is_ignored_as reception
dark_deaf frame d e = inl (rw e refl)

pub dark_reach : (reach : Reach) (d : Device) → d.has_power ≡ false → IsReachOf reach d
dark_reach reach d e = record { deaf = λ frame within out. dark_deaf frame d e }

neither_both : (on has : Bool) → has ≡ false → not (on && has) ≡ true
neither_both true has e = rw e refl
neither_both false has e = refl

module _ (frame : BaseFrame) (d : Device) (no_command : (frame.id == nmt_id) ≡ false)
    (no_request : (frame.id == sdo_request_id d.number) ≡ false)
    (awaits : frame.id ≡ sync_identifier d.learnt d.values → AwaitsNoSync d)
    (unheard : is_error_control frame ≡ true → any_expects (frame.id - error_control_id 0) d.consumers ≡ false)
    (unkept : any_has_identifier frame.id d.rpdos ≡ false) where
  ignored_as : (r : Reception) → reception frame d ≡ r → is_ignored_as r frame d ≡ true → IsDeafTo frame d
  unfolding is_ignored
  ignored_as r is e = inl (ap (λ (r : Reception). is_ignored_as r frame d) is ∙ e)

  deaf_as : (r : Reception) → reception frame d ≡ r → Says r frame d → IsDeafTo frame d
  unfolding is_ignored_as
  deaf_as Nothing is said = ignored_as Nothing is refl
  deaf_as (NmtService service) is said = absurd (eqb-false frame.id nmt_id no_command said.is_command)
  deaf_as Sync is said = inr (record { is_sync = is; awaits_none = awaits said.is_sync })
  deaf_as SdoRequest is said = absurd (eqb-false frame.id (sdo_request_id d.number) no_request said.is_request)
  deaf_as (ErrorControl producer) is said =
      ignored_as (ErrorControl producer) is (ap not (ap (λ n. any_expects n d.consumers) said.is_producer
      ∙ unheard said.is_control))
  deaf_as Pdo is said =
      ignored_as Pdo is (neither_both (is_in Operational d) (any_has_identifier frame.id d.rpdos) unkept)

  pub deaf : IsDeafTo frame d
  deaf = deaf_as (reception frame d) refl (reception_says frame d)

first_of_both : (a b : Bool) → a && b ≡ true → a ≡ true
first_of_both true b e = refl
first_of_both false b e = absurd cc

bounds : (lo hi n : ℕ) → is_between lo hi n ≡ true → (lo ≤ n) × (n ≤ hi)
bounds lo hi n e = grind (arith, nat_tests)

control_id : (frame : BaseFrame) → is_error_control frame ≡ true → (frame.id - error_control_id 0 < 0x100)
    × (frame.id ≡ error_control_id (frame.id - error_control_id 0))
control_id frame e =
    let within = bounds 0x701 0x77F frame.id (first_of_both (is_between 0x701 0x77F frame.id)
    (length frame.bytes == 1) e) in
    let low : 0x701 ≤ frame.id = within.0 in
    let high : frame.id ≤ 0x77F = within.1 in
    (omega arith, omega arith)

-- the commands of the network management and the requests to the node's server are among them
pub no_service : (first reach : Reach) (nmt request number : ℕ) → nmt ≡ nmt_id → request ≡ sdo_request_id number
    → ((other : ℕ) → other < 0x800 → reaches first other ≡ false → (other == nmt) ≡ false) → Extends first reach
    → ((other : ℕ) → other < 0x800 → reaches reach other ≡ false → (other == request) ≡ false)
    → (id : ℕ) → id < 0x800 → reaches reach id ≡ false
    → ((id == nmt_id) ≡ false) × ((id == sdo_request_id number) ≡ false)
no_service first reach nmt request number nmt_is request_is no_command more no_request id within out = (
  ap (λ n. id == n) (sym nmt_is) ∙ no_command id within (more.kept id within out),
  ap (λ n. id == n) (sym request_is) ∙ no_request id within out,
)

-- a frame that is outside, once they grew by those of each service, is nothing to the device
module _ (d : Device) (reach first second last : Reach)
    (commands : (id : ℕ) → id < 0x800 → reaches reach id ≡ false
    → ((id == nmt_id) ≡ false) × ((id == sdo_request_id d.number) ≡ false)) (first_more : Extends reach first)
    (syncs : reaches first (sync_identifier d.learnt d.values) ≡ false → AwaitsNoSync d)
    (second_more : Extends first second) (producers : (producer : ℕ) → producer < 0x100
    → reaches second (error_control_id producer) ≡ false
    → list_any (λ c. expects producer c.entry) d.consumers ≡ false) (last_more : Extends second last)
    (rpdos : (id : ℕ) → id < 0x800 → reaches last id ≡ false
    → list_any (λ p. has_identifier id p.configuration) d.rpdos ≡ false) where
  unheard_of : (id producer : ℕ) → id ≡ error_control_id producer → producer < 0x100 → reaches second id ≡ false
      → any_expects producer d.consumers ≡ false
  unfolding any_expects
  unheard_of id producer is within out = producers producer within (ap (reaches second) (sym is) ∙ out)

  unkept_of : (id : ℕ) → id < 0x800 → reaches last id ≡ false → any_has_identifier id d.rpdos ≡ false
  unfolding any_has_identifier
  unkept_of id within out = rpdos id within out

  stirs_none : (frame : BaseFrame) → frame.id < 0x800 → reaches last frame.id ≡ false → IsDeafTo frame d
  stirs_none frame within out =
      let third_out : reaches second frame.id ≡ false = last_more.kept frame.id within out in
      let second_out : reaches first frame.id ≡ false = second_more.kept frame.id within third_out in
      let first_out : reaches reach frame.id ≡ false = first_more.kept frame.id within second_out in
      let none = commands frame.id within first_out in
      deaf frame d none.0 none.1
      (λ e. syncs (ap (reaches first) (sym e) ∙ second_out))
      (λ e. let control = control_id frame e
      in unheard_of frame.id (frame.id - error_control_id 0) control.1 control.0 third_out)
      (unkept_of frame.id within out)

  pub reach_of : IsReachOf last d
  reach_of = record { deaf = stirs_none }
