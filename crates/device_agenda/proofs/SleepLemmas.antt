-- That nothing happens to devices that sleep.
use Rattle.std.proofs.Common.{◌≡◌, ℕ, ◌<◌, ◌==◌, Bool, true, false, not, ◌&&◌, List, [], ◌∷◌, Option, Some, None}
use Rattle.std.proofs.Common.{IfSome, flat_map, refl, sym, ap, ◌∙◌, ◌⊎◌, inl, inr}
use Rattle.std.specs.Prelude.{if◌then◌else◌}
use Rattle.std.specs.List.{AllByRecursion}
use Rattle.base.specs.Moments.{has_come}
use Rattle.image_parts.specs.Asking.{Answer, bind}
use Rattle.can_frame.specs.Frames.{BaseFrame}
use Rattle.can_frame.specs.Senders.{device_sender}
use Rattle.co_device.specs.Device.{Device, moments, after_instant}
use Rattle.co_device.specs.Receiving.{is_ignored, after_frame}
use Rattle.device_agenda.specs.Deaf.{IsDeafTo}
use Rattle.device_agenda.specs.Rest.{Rests}
use Rattle.device_agenda.proofs.DeafLemmas.{nothing_comes_of_it}
use Rattle.device_agenda.proofs.RestLemmas.{quiet_at_rest}
use Rattle.device_pdos.proofs.LookLemmas.{all_parts}
use Rattle.device_agenda.specs.Agenda.{IsAgendaOf, Sleeps, at_instant, hears, sleeps_through, stirs}
use Rattle.device_agenda.specs.Delivered.{Delivered}
use Rattle.device_agenda.specs.Groups.{includes}
use Rattle.device_agenda.specs.LowBytes.{AreDeafBeyond, IsDeafBeyond, has_low_byte, has_low_byte_of, sleeps_on}
use Rattle.device_agenda.specs.declared.agenda.Agenda.{Agenda as DeviceAgenda}
use Rattle.device_agenda.specs.declared.groups.Groups.{Groups}
use Rattle.device_agenda.specs.declared.low_bytes.LowBytes.{LowBytes}
use Rattle.device_agenda.proofs.AgendaLemmas.{all_later}
use Rattle.device_agenda.proofs.ReachLemmas.{either_out}

-- ---- one device

module _ (t : ℕ) (d : Device) (rests : Rests d) (later : AllByRecursion (λ m. t < m) (moments d)) where
  alone : after_instant t d ≡ d
  alone = quiet_at_rest t d rests later

  told : (delivered : Delivered) → IsDeafTo delivered.frame d → (own : Bool)
      → bind (if own then Answer d else after_frame t delivered.frame d) (λ heard. Answer (after_instant t heard))
      ≡ Answer d
  told delivered deaf true = ap (λ (x : Device). Answer x) alone
  told delivered deaf false = nothing_comes_of_it t delivered.frame d rests later deaf

  one_quiet : (delivered : Option Delivered) → IfSome delivered (λ x. IsDeafTo x.frame d)
      → at_instant t delivered d ≡ Answer d
  unfolding at_instant hears
  one_quiet None deaf = ap (λ (x : Device). Answer x) alone
  one_quiet (Some delivered) deaf = told delivered deaf (device_sender d.number == delivered.sender)

-- ---- devices

deaf_to : (groups : Groups) (d : Device) (delivered : Option Delivered) → IfSome delivered (λ x. x.frame.id < 0x800)
    → ((frame : BaseFrame) → frame.id < 0x800 → includes groups frame.id ≡ false → IsDeafTo frame d)
    → stirs groups delivered ≡ false → IfSome delivered (λ x. IsDeafTo x.frame d)
deaf_to groups d None bound deaf e = tt
deaf_to groups d (Some delivered) bound deaf e = deaf delivered.frame bound e

module _ (t : ℕ) (groups : Groups) (delivered : Option Delivered) (bound : IfSome delivered (λ x. x.frame.id < 0x800))
    (e : stirs groups delivered ≡ false) where
  all_quiet : (ds : List Device) → AllByRecursion (Sleeps groups) ds → AllByRecursion (λ m. t < m) (flat_map moments ds)
      → AllByRecursion (λ d. at_instant t delivered d ≡ Answer d) ds
  all_quiet [] asleep later = tt
  all_quiet (d ∷ ds) asleep later =
      let split = all_parts (λ m. t < m) (moments d) (flat_map moments ds) later in (
        one_quiet t d asleep.0.rests split.0 delivered (deaf_to groups d delivered bound asleep.0.deaf e),
        all_quiet ds asleep.1 split.1,
      )

-- what is delivered is of none of the groups, or has none of the low bytes
deaf_either : (groups : Groups) (bytes : LowBytes) (d : Device) (delivered : Option Delivered)
    → IfSome delivered (λ x. x.frame.id < 0x800) → Sleeps groups d → IsDeafBeyond bytes d
    → stirs groups delivered && has_low_byte bytes delivered ≡ false → IfSome delivered (λ x. IsDeafTo x.frame d)
deaf_either groups bytes d None bound sleeps deaf e = tt
deaf_either groups bytes d (Some delivered) bound sleeps deaf e =
    by (either_out (includes groups delivered.frame.id) (has_low_byte_of bytes delivered.frame.id) e)
  where
    by : (includes groups delivered.frame.id ≡ false) ⊎ (has_low_byte_of bytes delivered.frame.id ≡ false)
        → IsDeafTo delivered.frame d
    by (inl out) = sleeps.deaf delivered.frame bound out
    by (inr out) = deaf.deaf delivered.frame bound out

module _ (t : ℕ) (groups : Groups) (bytes : LowBytes) (delivered : Option Delivered)
    (bound : IfSome delivered (λ x. x.frame.id < 0x800))
    (e : stirs groups delivered && has_low_byte bytes delivered ≡ false) where
  none_reached : (ds : List Device) → AllByRecursion (Sleeps groups) ds → AreDeafBeyond bytes ds
      → AllByRecursion (λ m. t < m) (flat_map moments ds) → AllByRecursion (λ d. at_instant t delivered d ≡ Answer d) ds
  none_reached [] asleep deaf later = tt
  none_reached (d ∷ ds) asleep deaf later =
      let split = all_parts (λ m. t < m) (moments d) (flat_map moments ds) later in (
        one_quiet t d asleep.0.rests split.0 delivered (deaf_either groups bytes d delivered bound asleep.0 deaf.0 e),
        none_reached ds asleep.1 deaf.1 split.1,
      )

first_not : (x y : Bool) → not x && y ≡ true → (x ≡ false) × (y ≡ true)
first_not true y h = absurd cc
first_not false y h = (refl, h)

is_not : (x : Bool) → not x ≡ true → x ≡ false
is_not true h = absurd cc
is_not false h = refl

moments_later : (a : DeviceAgenda) (ds : List Device) (t : ℕ) → IsAgendaOf a ds → a.awake ≡ false → has_come t a.due ≡ false
    → AllByRecursion (λ m. t < m) (flat_map moments ds)
moments_later a ds t plan asleep e = all_later t (flat_map moments ds) (ap (has_come t) (sym (plan.due asleep)) ∙ e)

-- what sleeps isn't awake
pub not_awake : (a : DeviceAgenda) (t : ℕ) (delivered : Option Delivered) → sleeps_through t delivered a ≡ true
    → a.awake ≡ false
not_awake a t delivered e = (first_not a.awake (not (has_come t a.due) && not (stirs a.groups delivered)) e).0

pub nothing_happens : (a : DeviceAgenda) (ds : List Device) (t : ℕ) (delivered : Option Delivered)
    → IfSome delivered (λ d. d.frame.id < 0x800)
    → IsAgendaOf a ds → sleeps_through t delivered a ≡ true
    → AllByRecursion (λ d. at_instant t delivered d ≡ Answer d) ds
nothing_happens a ds t delivered bound plan e =
    let asleep = first_not a.awake (not (has_come t a.due) && not (stirs a.groups delivered)) e in
    let early = first_not (has_come t a.due) (not (stirs a.groups delivered)) asleep.1 in
    all_quiet t a.groups delivered bound (is_not (stirs a.groups delivered) early.1) ds (plan.asleep asleep.0)
    (moments_later a ds t plan asleep.0 early.0)

pub nothing_reaches : (a : DeviceAgenda) (bytes : LowBytes) (ds : List Device) (t : ℕ) (delivered : Option Delivered)
    → IfSome delivered (λ d. d.frame.id < 0x800)
    → IsAgendaOf a ds → AreDeafBeyond bytes ds → sleeps_on t delivered bytes a ≡ true
    → AllByRecursion (λ d. at_instant t delivered d ≡ Answer d) ds
nothing_reaches a bytes ds t delivered bound plan deaf e =
    let reached : Bool = stirs a.groups delivered && has_low_byte bytes delivered in
    let asleep = first_not a.awake (not (has_come t a.due) && not reached) e in
    let early = first_not (has_come t a.due) (not reached) asleep.1 in
    none_reached t a.groups bytes delivered bound (is_not reached early.1) ds (plan.asleep asleep.0) deaf
    (moments_later a ds t plan asleep.0 early.0)

-- what sleeps on isn't awake
sleeps_on_asleep : (a : DeviceAgenda) (bytes : LowBytes) (t : ℕ) (delivered : Option Delivered)
    → sleeps_on t delivered bytes a ≡ true → a.awake ≡ false
sleeps_on_asleep a bytes t delivered e = (first_not a.awake
    (not (has_come t a.due) && not (stirs a.groups delivered && has_low_byte bytes delivered)) e).0

-- ---- the one device of an agenda

module _ (a : DeviceAgenda) (d : Device) (t : ℕ) (delivered : Option Delivered) (plan : IsAgendaOf a (d ∷ [])) where
  pub one_sleeps : IfSome delivered (λ x. x.frame.id < 0x800) → sleeps_through t delivered a ≡ true
      → at_instant t delivered d ≡ Answer d
  one_sleeps bound e = (nothing_happens a (d ∷ []) t delivered bound plan e).0

  pub one_sleeps_on : (bytes : LowBytes) → (a.awake ≡ false → IsDeafBeyond bytes d)
      → IfSome delivered (λ x. x.frame.id < 0x800) → sleeps_on t delivered bytes a ≡ true
      → at_instant t delivered d ≡ Answer d
  one_sleeps_on bytes deaf bound e = (nothing_reaches a bytes (d ∷ []) t delivered bound plan
      (deaf (sleeps_on_asleep a bytes t delivered e), tt) e).0

  deaf_where_ignored : (told : Option Delivered) → IfSome told (λ x. is_ignored x.frame d ≡ true)
      → IfSome told (λ x. IsDeafTo x.frame d)
  deaf_where_ignored None h = tt
  deaf_where_ignored (Some x) h = inl h

  pub one_takes_nothing : a.awake ≡ false → has_come t a.due ≡ false
      → IfSome delivered (λ x. is_ignored x.frame d ≡ true) → at_instant t delivered d ≡ Answer d
  one_takes_nothing asleep early h =
      let split = all_parts (λ m. t < m) (moments d) [] (moments_later a (d ∷ []) t plan asleep early) in
      one_quiet t d (plan.asleep asleep).0.rests split.0 delivered (deaf_where_ignored delivered h)
