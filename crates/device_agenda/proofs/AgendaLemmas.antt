-- What an agenda says of the moments, and the agendas of one device.
use Rattle.std.proofs.Common.{◌≡◌, ℕ, ◌<◌, Bool, false, List, [], ◌∷◌, Option, Some, None, is_some, append-nil, refl}
use Rattle.std.proofs.Common.{sym, ap, ◌∙◌, arith, inl, inr, ◌⊎◌}
use Rattle.std.specs.Prelude.{min, nat_le}
use Rattle.std.specs.List.{AllByRecursion}
use Rattle.std.proofs.lemmas.Bool.Decides.{nat_tests}
use Rattle.can_frame.specs.Frames.{BaseFrame}
use Rattle.can_frame.specs.Senders.{device_sender}
use Rattle.can_frame.specs.Winner.{contenders_of, IsWinner}
use Rattle.can_frame.specs.declared.contender.Contender.{Contender}
use Rattle.can_frame.specs.declared.waiting.Waiting.{Waiting}
use Rattle.base.specs.Moments.{earlier, earliest, has_come}
use Rattle.co_device.specs.Device.{Device, moments, next_due}
use Rattle.co_device.specs.Receiving.{is_ignored, is_ignored_as, reception}
use Rattle.device_agenda.specs.Deaf.{IsDeafTo, IsIdleSync}
use Rattle.device_agenda.proofs.RestLemmas.{sent_rests}
use Rattle.device_agenda.specs.Agenda.{IsAgendaOf, Sleeps}
use Rattle.device_agenda.specs.LowBytes.{IsDeafBeyond}
use Rattle.device_agenda.specs.declared.agenda.Agenda.{Agenda as DeviceAgenda}
use Rattle.device_agenda.specs.declared.groups.Groups.{Groups}
use Rattle.device_agenda.specs.declared.low_bytes.LowBytes.{LowBytes}
use Rattle.device_agenda.specs.declared.schedule.Schedule.{Schedule}
use Rattle.device_agenda.specs.Schedule.{IsScheduled}
use Rattle.device_objects.specs.declared.reception.Reception.{Reception}
use Rattle.device_objects.specs.declared.reception.Reception.TheVariants.{Nothing, NmtService, Sync, SdoRequest}
use Rattle.device_objects.specs.declared.reception.Reception.TheVariants.{ErrorControl, Pdo}

-- ---- moments

not_yet : (t m : ℕ) → nat_le m t ≡ false → t < m
not_yet t m e = grind (arith, nat_tests)

later_test : (t m : ℕ) → t < m → nat_le m t ≡ false
later_test t m h = grind (arith, nat_tests)

first_later : (t m n : ℕ) → t < min m n → t < m
first_later t m n h = omega arith

second_later : (t m n : ℕ) → t < min m n → t < n
second_later t m n h = omega arith

both_later : (t m : ℕ) (rest : Option ℕ) → has_come t (earlier (Some m) rest) ≡ false
    → (t < m) × (has_come t rest ≡ false)
both_later t m None e = (not_yet t m e, refl)
both_later t m (Some n) e =
    let first : t < min m n = not_yet t (min m n) e in
    (first_later t m n first, later_test t n (second_later t m n first))

pub all_later : (t : ℕ) (ms : List ℕ) → has_come t (earliest ms) ≡ false → AllByRecursion (λ m. t < m) ms
all_later t [] e = tt
all_later t (m ∷ ms) e = let both = both_later t m (earliest ms) e in (both.0, all_later t ms both.1)

-- ---- the agenda of a device

none_waits : (node : ℕ) (frames : List Waiting) (found : Option Contender)
    → IsWinner (contenders_of (node, frames)) found → is_some found ≡ false → frames ≡ []
none_waits node [] found h e = refl
none_waits node (w ∷ frames) None h e = absurd cc
none_waits node (w ∷ frames) (Some c) h e = absurd cc

pub silent_where_none : (d : Device) (found : Option Contender) → IsWinner (contenders_of (device_sender d.number, d.waiting))
    found → is_some found ≡ false → d.waiting ≡ []
silent_where_none d found h e = none_waits (device_sender d.number) d.waiting found h e

pub due_of : (a : DeviceAgenda) (d : Device) → IsAgendaOf a (d ∷ []) → a.awake ≡ false → a.due ≡ next_due d
unfolding next_due
due_of a d plan e = plan.due e ∙ ap earliest (append-nil (moments d))

pub plan_of : (a : DeviceAgenda) (d : Device) → Sleeps a.groups d → a.due ≡ next_due d → (a.waits ≡ false → d.waiting ≡ [])
    → IsAgendaOf a (d ∷ [])
unfolding next_due
plan_of a d sleeps due silent = record {
  due = λ e. due ∙ ap earliest (sym (append-nil (moments d)));
  asleep = λ e. (sleeps, tt);
  silent = λ e. (silent e, tt);
}

pub not_spent : (a : DeviceAgenda) (d : Device) → IsAgendaOf a (d ∷ []) → a.awake ≡ false → d.spent ≡ false
not_spent a d plan e = (plan.asleep e).0.unspent

-- ---- once a frame is sent

module _ (frames : List Waiting) (d : Device) where
  sent_reception : (frame : BaseFrame) → reception frame (record d { waiting = frames }) ≡ reception frame d
  unfolding reception
  sent_reception frame = refl

  sent_as : (r : Reception) (frame : BaseFrame)
      → is_ignored_as r frame (record d { waiting = frames }) ≡ is_ignored_as r frame d
  unfolding is_ignored_as
  sent_as Nothing frame = refl
  sent_as (NmtService service) frame = refl
  sent_as Sync frame = refl
  sent_as SdoRequest frame = refl
  sent_as (ErrorControl producer) frame = refl
  sent_as Pdo frame = refl

  sent_ignored : (frame : BaseFrame) → is_ignored frame (record d { waiting = frames }) ≡ is_ignored frame d
  unfolding is_ignored
  sent_ignored frame =
      ap (λ (r : Reception). is_ignored_as r frame (record d { waiting = frames })) (sent_reception frame)
      ∙ sent_as (reception frame d) frame

  sent_idle : (frame : BaseFrame) → IsIdleSync frame d → IsIdleSync frame (record d { waiting = frames })
  sent_idle frame h = record {
    is_sync = sent_reception frame ∙ h.is_sync;
    awaits_none = record { nothing_kept = h.awaits_none.nothing_kept; no_tpdo = h.awaits_none.no_tpdo };
  }

  sent_deaf : (frame : BaseFrame) → IsDeafTo frame d → IsDeafTo frame (record d { waiting = frames })
  sent_deaf frame (inl e) = inl (sent_ignored frame ∙ e)
  sent_deaf frame (inr h) = inr (sent_idle frame h)

  pub sent_sleeps : (groups : Groups) → Sleeps groups d → Sleeps groups (record d { waiting = frames })
  sent_sleeps groups h = record {
    rests = sent_rests frames d h.rests;
    unspent = h.unspent;
    deaf = λ frame bound e. sent_deaf frame (h.deaf frame bound e);
  }

  pub sent_deaf_beyond : (bytes : LowBytes) → IsDeafBeyond bytes d → IsDeafBeyond bytes (record d { waiting = frames })
  sent_deaf_beyond bytes h = record { deaf = λ frame bound e. sent_deaf frame (h.deaf frame bound e) }

  pub sent_plan : (a : DeviceAgenda) (waits : Bool) → IsAgendaOf a (d ∷ []) → (waits ≡ false → frames ≡ [])
      → IsAgendaOf (record a { waits = waits }) (record d { waiting = frames } ∷ [])
  sent_plan a waits plan silent = record {
    due = plan.due;
    asleep = λ e. (sent_sleeps a.groups (plan.asleep e).0, tt);
    silent = λ e. (silent e, tt);
  }

pub sent_agenda : (a : DeviceAgenda) (d e : Device) (frames : List Waiting) (found : Option Contender) (waits : Bool)
    → IsAgendaOf a (d ∷ []) → e ≡ record d { waiting = frames }
    → IsWinner (contenders_of (device_sender e.number, e.waiting)) found → waits ≡ is_some found
    → IsAgendaOf (record a { waits = waits }) (e ∷ [])
sent_agenda a d e frames found waits plan is wins w =
    rw is
    (sent_plan frames d a waits plan (λ f. sym (ap (λ (x : Device). x.waiting) is)
    ∙ silent_where_none e found wins (sym w ∙ f)))

-- ---- what is kept behind a handle

pub same_either : {s r : Schedule} → (s ≡ r) ⊎ (s ≡ r) → s ≡ r
same_either (inl e) = e
same_either (inr e) = e

pub scheduled_as : {s r : Schedule} → s ≡ r → IsScheduled r.agenda r.low_bytes r.sync r.device
    → IsScheduled s.agenda s.low_bytes s.sync s.device
scheduled_as e h = rw e h
