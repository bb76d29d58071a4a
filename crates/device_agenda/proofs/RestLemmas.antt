-- When a device rests, and that it does nothing then before it is due.
use Rattle.std.proofs.Common.{◌≡◌, ℕ, ◌+◌, ◌<◌, Bool, true, false, List, [], ◌∷◌, ◌++◌, Option, Some, None, refl, sym}
use Rattle.std.proofs.Common.{ap, ◌∙◌, arith}
use Rattle.std.specs.Prelude.{if◌then◌else◌}
use Rattle.std.specs.List.{AllByRecursion}
use Rattle.can_frame.specs.declared.waiting.Waiting.{Waiting}
use Rattle.base.specs.Moments.{moments_of}
use Rattle.pdo_rules.specs.declared.sync.SyncMessage.{SyncMessage}
use Rattle.device_objects.specs.Consumers as consumers
use Rattle.device_objects.specs.declared.consumer.Consumer.{Consumer}
use Rattle.device_pdos.specs.Tpdos as tpdos
use Rattle.device_pdos.specs.Tpdos.{tpdos_after_inhibit, tpdos_after_turns, with_tpdos}
use Rattle.device_pdos.specs.declared.tpdo_state.TpdoState.{TpdoState}
use Rattle.device_pdos.proofs.LaterLemmas.{all_freed_later, looked_later}
use Rattle.device_pdos.proofs.LookLemmas.{all_both, all_parts, quiet_freed}
use Rattle.device_pdos.proofs.RestLemmas.{none_wanted, nothing_sent, tpdos_rest}
use Rattle.co_device.specs.Device.{Device, is_in, moments, after_instant, after_timers, after_tpdos, sync_seen}
use Rattle.cia301.specs.declared.nmt_state.NmtState.TheVariants.{Operational}
use Rattle.device_agenda.specs.Ahead.{AreAhead, IsAhead, NotBefore}
use Rattle.device_agenda.specs.Rest.{Rests}
use Rattle.device_agenda.proofs.AheadLemmas.{due_later, quiet}
use Rattle.device_agenda.proofs.CaseLemmas.{either, not_both}

-- all of these moments lie after t
abbrev pub LieAfter : ℕ → List ℕ → Type 0
LieAfter t moments = AllByRecursion (λ m. t < m) moments

-- ---- the moments of the timers

not_before : (t : ℕ) (moment : Option ℕ) → LieAfter t (moments_of moment) → NotBefore (t + 1) moment
not_before t None h = tt
not_before t (Some m) h = omega (arith, h.0)

after_now : (t : ℕ) (moment : Option ℕ) → NotBefore (t + 1) moment → LieAfter t (moments_of moment)
after_now t None h = tt
after_now t (Some m) h = (omega (arith, h), tt)

consumers_ahead : (t : ℕ) (cs : List Consumer) → LieAfter t (consumers.moments cs) → AreAhead (t + 1) cs
consumers_ahead t [] h = tt
consumers_ahead t (c ∷ cs) h =
    let split = all_parts (λ m. t < m) (moments_of c.moment) (consumers.moments cs) h in
    (not_before t c.moment split.0, consumers_ahead t cs split.1)

consumers_after : (t : ℕ) (cs : List Consumer) → AreAhead (t + 1) cs → LieAfter t (consumers.moments cs)
consumers_after t [] h = tt
consumers_after t (c ∷ cs) h = all_both (λ m. t < m) (moments_of c.moment) (consumers.moments cs)
    (after_now t c.moment h.0) (consumers_after t cs h.1)

-- all moments of a device lie after t: those of its timers, and those of its TPDOs
pub timers_ahead : (t : ℕ) (d : Device) → LieAfter t (moments d) → IsAhead (t + 1) d
timers_ahead t d h =
    let both = all_parts (λ m. t < m) (moments_of d.heartbeat ++ consumers.moments d.consumers)
    (tpdos.moments (is_in Operational d) d.tpdos) h in
    let first = all_parts (λ m. t < m) (moments_of d.heartbeat) (consumers.moments d.consumers) both.0 in
    record { heartbeat = not_before t d.heartbeat first.0; consumers = consumers_ahead t d.consumers first.1 }

pub tpdos_after : (t : ℕ) (d : Device) → LieAfter t (moments d)
    → LieAfter t (tpdos.moments (is_in Operational d) d.tpdos)
tpdos_after t d h = (all_parts (λ m. t < m) (moments_of d.heartbeat ++ consumers.moments d.consumers)
    (tpdos.moments (is_in Operational d) d.tpdos) h).1

-- ---- at rest

looked_rests : (t : ℕ) (d : Device) → Rests (after_tpdos t d)
unfolding after_tpdos
looked_rests t d =
    either Rests (is_in Operational d) _ _
    (λ e. record { unsynced = refl; unwanted = λ f. none_wanted t (sync_seen d.learnt d.values d.synced) d.values d.tpdos })
    (λ e. record { unsynced = refl; unwanted = λ f. not_both (is_in Operational d) e f })

pub ran_rests : (t : ℕ) (d : Device) → Rests (after_instant t d)
unfolding after_instant
ran_rests t d = looked_rests t (after_timers t d)

pub sent_rests : (frames : List Waiting) (d : Device) → Rests d → Rests (record d { waiting = frames })
sent_rests frames d h = record { unsynced = h.unsynced; unwanted = h.unwanted }

pub sent_moments : (frames : List Waiting) (d : Device) → moments (record d { waiting = frames }) ≡ moments d
sent_moments frames d = refl

-- ---- before it is due

pub equal : (d : Device) (synced : Option SyncMessage) (tpdos : List TpdoState) (frames : List Waiting) → synced ≡ d.synced
    → tpdos ≡ d.tpdos → frames ≡ d.waiting
    → record d { synced = synced; tpdos = tpdos; waiting = frames } ≡ d
equal d synced tpdos frames s p f =
    ap (λ (x : Option SyncMessage). record d { synced = x; tpdos = tpdos; waiting = frames }) s
    ∙ ap (λ (x : List TpdoState). record d { tpdos = x; waiting = frames }) p
    ∙ ap (λ (x : List Waiting). record d { waiting = x }) f

module _ (u : ℕ) (d : Device) (rests : Rests d) where
  looked_quiet : is_in Operational d ≡ true → LieAfter u (tpdos.moments true d.tpdos)
      → record d {
        synced = None;
        tpdos = tpdos_after_turns u (sync_seen d.learnt d.values d.synced) d.values d.tpdos;
        waiting = with_tpdos u (sync_seen d.learnt d.values d.synced) d.values d.tpdos d.waiting;
      } ≡ d
  looked_quiet e h =
      let unwanted = rests.unwanted e in
      equal d None _ _ (sym rests.unsynced)
      (ap (λ x. tpdos_after_turns u (sync_seen d.learnt d.values x) d.values d.tpdos) rests.unsynced
      ∙ tpdos_rest u d.values d.tpdos unwanted h)
      (ap (λ x. with_tpdos u (sync_seen d.learnt d.values x) d.values d.tpdos d.waiting) rests.unsynced
      ∙ nothing_sent u d.values d.tpdos d.waiting unwanted h)

  freed_quiet : LieAfter u (tpdos.moments false d.tpdos)
      → record d { synced = None; tpdos = tpdos_after_inhibit u d.tpdos } ≡ d
  freed_quiet h = equal d None (tpdos_after_inhibit u d.tpdos) d.waiting (sym rests.unsynced)
      (quiet_freed u d.tpdos h) refl

  tpdos_quiet : LieAfter u (tpdos.moments (is_in Operational d) d.tpdos) → after_tpdos u d ≡ d
  unfolding after_tpdos
  tpdos_quiet h = by (is_in Operational d) refl h
    where
      by : (test : Bool) → is_in Operational d ≡ test → LieAfter u (tpdos.moments test d.tpdos)
          → (if test then record d {
            synced = None;
            tpdos = tpdos_after_turns u (sync_seen d.learnt d.values d.synced) d.values d.tpdos;
            waiting = with_tpdos u (sync_seen d.learnt d.values d.synced) d.values d.tpdos d.waiting;
          }
          else record d { synced = None; tpdos = tpdos_after_inhibit u d.tpdos }) ≡ d
      by true e k = looked_quiet e k
      by false e k = freed_quiet k

  pub quiet_at_rest : LieAfter u (moments d) → after_instant u d ≡ d
  unfolding after_instant
  quiet_at_rest h = ap (after_tpdos u) (quiet u d (timers_ahead u d h)) ∙ tpdos_quiet (tpdos_after u d h)

-- ---- all moments after it ran

all_after : (t : ℕ) (d : Device) (test : Bool) (rest : List TpdoState) → is_in Operational d ≡ test → IsAhead (t + 1) d
    → LieAfter t (tpdos.moments test rest)
    → LieAfter t (moments_of d.heartbeat ++ consumers.moments d.consumers ++ tpdos.moments (is_in Operational d) rest)
all_after t d test rest e h k =
    let last : LieAfter t (tpdos.moments (is_in Operational d) rest) = rw e k in
    all_both (λ m. t < m) (moments_of d.heartbeat ++ consumers.moments d.consumers)
    (tpdos.moments (is_in Operational d) rest)
    (all_both (λ m. t < m) (moments_of d.heartbeat) (consumers.moments d.consumers)
    (after_now t d.heartbeat h.heartbeat) (consumers_after t d.consumers h.consumers)) last

looked_after : (t : ℕ) (d : Device) → IsAhead (t + 1) d → LieAfter t (moments (after_tpdos t d))
unfolding after_tpdos
looked_after t d h =
    either (λ e. LieAfter t (moments e)) (is_in Operational d) _ _
    (λ e. all_after t d true (tpdos_after_turns t (sync_seen d.learnt d.values d.synced) d.values d.tpdos) e h
    (looked_later t (sync_seen d.learnt d.values d.synced) d.values d.tpdos))
    (λ e. all_after t d false (tpdos_after_inhibit t d.tpdos) e h (all_freed_later t d.tpdos))

pub ran_after : (t : ℕ) (d : Device) → IsAhead t d → LieAfter t (moments (after_instant t d))
unfolding after_instant
ran_after t d h = looked_after t (after_timers t d) (due_later t d h)
