-- Devices from one of which a frame has gone.
use Rattle.std.proofs.Common.{◌≡◌, ℕ, zero, suc, ◌+◌, ◌*◌, ◌/◌, ◌<◌, ◌≤◌, List, [], ◌∷◌, ◌++◌, length, take, drop, get_or, set}
use Rattle.std.proofs.Common.{◌-◌, ◌%◌, false, Option, refl, sym, ap, ◌∙◌, subst, arith}
use Rattle.std.specs.Prelude.{flat_map, min, remove}
use Rattle.std.specs.List.{AllByRecursion}
use Rattle.std.proofs.lemmas.List.{drop-drop, drop-set-add, drop-set-lt, get_or-drop, length-drop, length-set, length-take, take-set-le}
use Rattle.std.proofs.lemmas.List.{take_at}
use Rattle.std.proofs.Math.Seq.{take-set-lt}
use Rattle.base.specs.Moments.{earliest}
use Rattle.bus_devices.specs.Blocks.{AreBlocksOf, AreEachOf, AreOutlooksOf, IsAlarmOf, IsBestOf, IsBlockOf, IsDueAsBefore}
use Rattle.bus_devices.specs.Blocks.{WasKnown, alarms_of}
use Rattle.bus_devices.specs.declared.outlook.Outlook.{Outlook}
use Rattle.bus_devices.specs.declared.block.Block.{Block}
use Rattle.bus_devices.proofs.SenderLemmas.{IsBest}
use Rattle.bus_devices.specs.Places.{device_at}
use Rattle.can_frame.specs.declared.contender.Contender.{Contender}
use Rattle.can_frame.specs.declared.waiting.Waiting.{Waiting}
use Rattle.co_device.specs.Device.{Device, moments, without_power}
use Rattle.device_agenda.specs.Agenda.{IsAgendaOf, Sleeps}
use Rattle.device_agenda.specs.Alarms.{agenda_by}
use Rattle.device_agenda.specs.LowBytes.{AreDeafBeyond, IsDeafBeyond}
use Rattle.device_agenda.specs.declared.agenda.Agenda.{Agenda}
use Rattle.device_agenda.specs.declared.alarm.Alarm.{Alarm}
use Rattle.device_agenda.specs.declared.low_bytes.LowBytes.{LowBytes}
use Rattle.device_agenda.proofs.AgendaLemmas.{sent_deaf_beyond, sent_sleeps}
use Rattle.device_agenda.proofs.RestLemmas.{sent_moments}

-- ---- one device

none_removed : (place : ℕ) → remove {X = Waiting} [] place ≡ []
none_removed zero = refl
none_removed (suc n) = refl

none_left : (frames : List Waiting) (place : ℕ) → frames ≡ [] → remove frames place ≡ []
none_left frames place e = ap (λ (ws : List Waiting). remove ws place) e ∙ none_removed place

sent_is_due : (was now : Device) (place : ℕ) → now ≡ record was { waiting = remove was.waiting place }
    → IsDueAsBefore was now
sent_is_due was now place e =
    let frames : List Waiting = remove was.waiting place in
    rw e record {
      due = sent_moments frames was;
      asleep = λ groups. sent_sleeps frames was groups;
      deaf = λ bytes. sent_deaf_beyond frames was bytes;
      silent = none_left was.waiting place;
    }

-- ---- devices

-- what is known of each, with the frame that wins at the device of a place
abbrev pub with_own : List Outlook → ℕ → Option Contender → Outlook → List Outlook
with_own outlooks i own o = set outlooks i (record (get_or outlooks i o) { best = own })

-- a block with the frames that win in it: at the device of a place, and of all
abbrev pub with_bests : Block → ℕ → Option Contender → Option Contender → Outlook → Block
with_bests b i own best o = record b {
  outlook = record b.outlook { best = best };
  each = with_own b.each i own o;
}

-- a frame wins of those of so many devices, by what is known of each
abbrev pub WinsByEach : Option Contender → ℕ → List Outlook → Type 0
WinsByEach best count each = (ds : List Device) → length ds ≡ count → AreEachOf IsBestOf each ds → IsBest best ds

-- their alarms are as before
alarms_before : (outlooks : List Outlook) (ds : List Device) (i : ℕ) (own : Option Contender) (o : Outlook)
    → AreEachOf IsAlarmOf (with_own outlooks i own o) ds → AreEachOf IsAlarmOf outlooks ds
alarms_before outlooks [] i own o h = tt
alarms_before [] (x ∷ ds) i own o h = h
alarms_before (a ∷ outlooks) (x ∷ ds) zero own o h = h
alarms_before (a ∷ outlooks) (x ∷ ds) (suc i) own o h = (h.0, alarms_before outlooks ds i own o h.1)

either_default : (ds : List Device) (i : ℕ) (d e : Device) → i < length ds → get_or ds i d ≡ get_or ds i e
either_default [] i d e within = absurd (omega (arith, within))
either_default (x ∷ ds) zero d e within = refl
either_default (x ∷ ds) (suc i) d e within = either_default ds i d e (omega (arith, within))

-- the device at a place has sent
pub sent_from : (ds : List Device) (i : ℕ) (was now : Device) (place : ℕ) → i < length ds → was ≡ get_or ds i was
    → now ≡ record was { waiting = remove was.waiting place } → IsDueAsBefore (device_at ds i) now
sent_from ds i was now place within is e =
    subst (λ (d : Device). IsDueAsBefore d now) (is ∙ either_default ds i was (without_power false 0) within)
    (sent_is_due was now place e)

module _ (now d : Device) where
  all_set : (P : Device → Type 0) (ds : List Device) (i : ℕ) → (P (get_or ds i d) → P now) → AllByRecursion P ds
      → AllByRecursion P (set ds i now)
  all_set P [] i f all = all
  all_set P (x ∷ ds) zero f all = (f all.0, all.1)
  all_set P (x ∷ ds) (suc i) f all = (all.0, all_set P ds i f all.1)

  moments_set : (ds : List Device) (i : ℕ) → moments now ≡ moments (get_or ds i d)
      → flat_map moments (set ds i now) ≡ flat_map moments ds
  moments_set [] i e = refl
  moments_set (x ∷ ds) zero e = ap (λ (ms : List ℕ). ms ++ flat_map moments ds) e
  moments_set (x ∷ ds) (suc i) e = ap (λ (ms : List ℕ). moments x ++ ms) (moments_set ds i e)

  -- their agenda is as before
  pub agenda_set : (a : Agenda) (ds : List Device) (i : ℕ) → IsDueAsBefore (get_or ds i d) now → IsAgendaOf a ds
      → IsAgendaOf a (set ds i now)
  agenda_set a ds i h plan = record {
    due = λ e. plan.due e ∙ sym (ap earliest (moments_set ds i h.due));
    asleep = λ e. all_set (Sleeps a.groups) ds i (h.asleep a.groups) (plan.asleep e);
    silent = λ e. all_set (λ (x : Device). x.waiting ≡ []) ds i h.silent (plan.silent e);
  }

  -- they are deaf as before
  deaf_set : (bytes : LowBytes) (ds : List Device) (i : ℕ) → IsDueAsBefore (get_or ds i d) now → AreDeafBeyond bytes ds
      → AreDeafBeyond bytes (set ds i now)
  deaf_set bytes ds i h all = all_set (IsDeafBeyond bytes) ds i (h.deaf bytes) all

  -- what is known of each, with the frame that wins there now
  outlooks_set : (outlooks : List Outlook) (ds : List Device) (i : ℕ) (own : Option Contender) (o : Outlook)
      → IsDueAsBefore (get_or ds i d) now → IsBest own (now ∷ []) → AreOutlooksOf outlooks ds
      → AreOutlooksOf (with_own outlooks i own o) (set ds i now)
  outlooks_set outlooks [] i own o h wins all = tt
  outlooks_set [] (x ∷ ds) i own o h wins all = absurd all
  outlooks_set (a ∷ outlooks) (x ∷ ds) zero own o h wins all =
      (record { agenda = agenda_set (agenda_by a.alarm) (x ∷ []) 0 h all.0.agenda; best = wins }, all.1)
  outlooks_set (a ∷ outlooks) (x ∷ ds) (suc i) own o h wins all =
      (all.0, outlooks_set outlooks ds i own o h wins all.1)

  -- what is known of a block, with the frames that win in it now
  block_set : (b : Block) (ds : List Device) (i : ℕ) (own best : Option Contender) (o : Outlook)
      → IsDueAsBefore (get_or ds i d) now → IsBest own (now ∷ []) → WinsByEach best (length ds) (with_own b.each i own o)
      → IsBlockOf b ds → IsBlockOf (with_bests b i own best o) (set ds i now)
  block_set b ds i own best o h one wins known = record {
    each = outlooks_set b.each ds i own o h one known.each;
    outlook = record {
      alarm = λ es long each. known.outlook.alarm es (long ∙ length-set ds i now) (alarms_before b.each es i own o each);
      best = λ es long each. wins es (long ∙ length-set ds i now) each;
    };
    low_bytes = deaf_set b.low_bytes ds i h known.low_bytes;
  }

-- ---- blocks

get_set : (ds : List Device) (i : ℕ) (d now : Device) → i < length ds → get_or (set ds i now) i d ≡ now
get_set [] i d now within = absurd (omega (arith, within))
get_set (x ∷ ds) zero d now within = refl
get_set (x ∷ ds) (suc i) d now within = get_set ds i d now (omega (arith, within))

module _ (i : ℕ) (b : Block) (ds : List Device) (h : WasKnown (IsBlockOf b) i ds) where
  pub as_many_now : length ds ≡ length h.before
  as_many_now = ap length h.changed ∙ length-set h.before i h.now

  now_at : (d : Device) → d ≡ get_or ds i d → d ≡ h.now
  now_at d is = is ∙ ap (λ (xs : List Device). get_or xs i d) h.changed ∙ get_set h.before i d h.now h.within

  -- what is known of each anew, where frames have changed at a device
  pub own_planned : (d : Device) (own : Option Contender) (o : Outlook) → d ≡ get_or ds i d → IsBest own (d ∷ [])
      → AreOutlooksOf (with_own b.each i own o) ds
  own_planned d own o is one =
      subst (AreOutlooksOf (with_own b.each i own o)) (sym h.changed)
      (outlooks_set h.now (without_power false 0) b.each h.before i own o h.still
      (subst (λ (x : Device). IsBest own (x ∷ [])) (now_at d is) one) h.of.each)

  -- and so is the block
  pub bests_planned : (d : Device) (own best : Option Contender) (o : Outlook) → d ≡ get_or ds i d
      → IsBest own (d ∷ []) → WinsByEach best (length ds) (with_own b.each i own o) → IsBlockOf (with_bests b i own best o) ds
  bests_planned d own best o is one wins =
      subst (λ (xs : List Device). IsBlockOf (with_bests b i own best o) xs) (sym h.changed)
      (block_set h.now (without_power false 0) b h.before i own best o h.still
      (subst (λ (x : Device). IsBest own (x ∷ [])) (now_at d is) one)
      (λ es long each. wins es (long ∙ sym as_many_now) each) h.of)

get_taken : (n : ℕ) (ds : List Device) (r : ℕ) (d : Device) → r < n → get_or (take n ds) r d ≡ get_or ds r d
get_taken zero ds r d near = absurd (omega (arith, near))
get_taken (suc n) [] r d near = refl
get_taken (suc n) (x ∷ ds) zero d near = refl
get_taken (suc n) (x ∷ ds) (suc r) d near = get_taken n ds r d (omega (arith, near))

pub drop_later : (n m k : ℕ) (ds : List Device) → k ≡ n + m → drop k ds ≡ drop m (drop n ds)
drop_later n m k ds e = ap (λ (i : ℕ). drop i ds) e ∙ sym (drop-drop m n ds)

-- the block of a place anew, where a device of it is another
module _ (now : Device) (anew : Block) where
  set_at : (k r : ℕ) (blocks : List Block) (ds : List Device) → r < 8 → k < length blocks → AreBlocksOf blocks ds
      → IsBlockOf anew (take 8 (drop (8 * k) (set ds (8 * k + r) now)))
      → AreBlocksOf (set blocks k anew) (set ds (8 * k + r) now)
  set_at k r [] ds near within h known = absurd (omega (arith, within))
  set_at zero r (b ∷ blocks) ds near within h known =
      let close : 8 * 0 + r < 8 = omega (arith, near) in
      (known, subst (AreBlocksOf blocks) (sym (drop-set-lt 8 ds (8 * 0 + r) now close)) h.1)
  set_at (suc k) r (b ∷ blocks) ds near within h known =
      let at : 8 * suc k + r ≡ 8 + (8 * k + r) = omega arith in
      let far : 8 ≤ 8 * suc k + r = omega arith in
      let behind : drop 8 (set ds (8 * suc k + r) now) ≡ set (drop 8 ds) (8 * k + r) now =
      ap (λ (n : ℕ). drop 8 (set ds n now)) at ∙ drop-set-add 8 ds (8 * k + r) now in
      let further : drop (8 * suc k) (set ds (8 * suc k + r) now) ≡ drop (8 * k) (set (drop 8 ds) (8 * k + r) now) =
      drop_later 8 (8 * k) (8 * suc k) (set ds (8 * suc k + r) now) (omega arith)
      ∙ ap (drop (8 * k)) behind in (
        subst (IsBlockOf b) (sym (take-set-le 8 ds (8 * suc k + r) now far)) h.0,
        subst (AreBlocksOf (set blocks k anew)) (sym behind)
            (set_at k r blocks (drop 8 ds) near (omega (arith, within)) h.1
            (subst (λ (xs : List Device). IsBlockOf anew (take 8 xs)) further known)),
      )

reach : (k : ℕ) (blocks : List Block) (ds : List Device) → AreBlocksOf blocks ds → 8 * k < length ds → k < length blocks
reach k [] ds h within = let none : length ds ≡ 0 = ap length h in absurd (omega (arith, none, within))
reach zero (b ∷ blocks) ds h within = omega arith
reach (suc k) (b ∷ blocks) ds h within =
    let behind : length (drop 8 ds) ≡ length ds - 8 = length-drop 8 ds in
    let left : k < length blocks = reach k blocks (drop 8 ds) h.1 (omega (arith, behind, within)) in
    omega (arith, left)

-- there are no devices behind those of the blocks
pub covered : (blocks : List Block) (ds : List Device) → AreBlocksOf blocks ds → length ds ≤ 8 * length blocks
covered [] ds h = let none : length ds ≡ 0 = ap length h in omega (arith, none)
covered (b ∷ blocks) ds h =
    let behind : length (drop 8 ds) ≡ length ds - 8 = length-drop 8 ds in
    let left = covered blocks (drop 8 ds) h.1 in
    omega (arith, behind, left)

pub block_at : (k : ℕ) (blocks : List Block) (ds : List Device) (b0 : Block) → k < length blocks → AreBlocksOf blocks ds
    → IsBlockOf (get_or blocks k b0) (take 8 (drop (8 * k) ds))
block_at k [] ds b0 within h = absurd (omega (arith, within))
block_at zero (b ∷ blocks) ds b0 within h = h.0
block_at (suc k) (b ∷ blocks) ds b0 within h =
    subst (λ (xs : List Device). IsBlockOf (get_or blocks k b0) (take 8 xs))
    (sym (drop_later 8 (8 * k) (8 * suc k) ds (omega arith)))
    (block_at k blocks (drop 8 ds) b0 (omega (arith, within)) h.1)

module _ (i : ℕ) (blocks : List Block) (ds : List Device) (h : WasKnown (AreBlocksOf blocks) i ds) where
  pub place_within : i / 8 < length blocks
  place_within = reach (i / 8) blocks h.before h.of (let within = h.within in omega (arith, within))

  pub block_planned : (anew : Block) → IsBlockOf anew (take 8 (drop (i / 8 * 8) ds)) → AreBlocksOf (set blocks (i / 8) anew) ds
  block_planned anew known =
      let at : i ≡ 8 * (i / 8) + i % 8 = omega arith in
      let near : i % 8 < 8 = omega arith in
      let turned : i / 8 * 8 ≡ 8 * (i / 8) = omega arith in
      let now_is : ds ≡ set h.before (8 * (i / 8) + i % 8) h.now =
      h.changed ∙ ap (λ (n : ℕ). set h.before n h.now) at in
      subst (AreBlocksOf (set blocks (i / 8) anew)) (sym now_is)
      (set_at h.now anew (i / 8) (i % 8) blocks h.before near place_within h.of
      (subst (λ (xs : List Device). IsBlockOf anew (take 8 (drop (8 * (i / 8)) xs))) now_is
      (subst (λ (n : ℕ). IsBlockOf anew (take 8 (drop n ds))) turned known)))

  -- what was known of the block of the place
  pub block_was : (b0 : Block) (of_place : List Device) → of_place ≡ take 8 (drop (i / 8 * 8) ds)
      → WasKnown (IsBlockOf (get_or blocks (i / 8) b0)) (i % 8) of_place
  block_was b0 of_place e =
      let none : Device = without_power false 0 in
      let at : i ≡ i / 8 * 8 + i % 8 = omega arith in
      let near : i % 8 < 8 = omega arith in
      let turned : 8 * (i / 8) ≡ i / 8 * 8 = omega arith in
      let behind : List Device = drop (i / 8 * 8) h.before in
      let now_is : ds ≡ set h.before (i / 8 * 8 + i % 8) h.now =
      h.changed ∙ ap (λ (n : ℕ). set h.before n h.now) at in
      let long : length behind ≡ length h.before - i / 8 * 8 = length-drop (i / 8 * 8) h.before in
      let short : length (take 8 behind) ≡ min 8 (length behind) = length-take 8 behind in
      record {
        before = take 8 behind;
        now = h.now;
        of = subst (λ (n : ℕ). IsBlockOf (get_or blocks (i / 8) b0) (take 8 (drop n h.before))) turned
            (block_at (i / 8) blocks h.before b0 place_within h.of);
        within = (let within = h.within in omega (arith, long, short, near, at, within));
        still = subst (λ (d : Device). IsDueAsBefore d h.now)
            (ap (λ (n : ℕ). get_or h.before n none) at
            ∙ sym (get_or-drop (i / 8 * 8) h.before (i % 8) none)
            ∙ sym (get_taken 8 behind (i % 8) none near)) h.still;
        changed = e
            ∙ ap (λ (xs : List Device). take 8 (drop (i / 8 * 8) xs)) now_is
            ∙ ap (take 8) (drop-set-add (i / 8 * 8) h.before (i % 8) h.now)
            ∙ take-set-lt 8 behind (i % 8) h.now near;
      }

-- a block with the alarm of before
pub alarms_set : (blocks : List Block) (k : ℕ) (b : Block) (anew : Block) → anew.outlook.alarm ≡ (get_or blocks k b).outlook.alarm
    → alarms_of (set blocks k anew) ≡ alarms_of blocks
alarms_set [] k b anew e = refl
alarms_set (x ∷ blocks) zero b anew e = ap (λ (a : Alarm). a ∷ alarms_of blocks) e
alarms_set (x ∷ blocks) (suc k) b anew e =
    ap (λ (alarms : List Alarm). x.outlook.alarm ∷ alarms) (alarms_set blocks k b anew e)

-- what is written back to a list of as many is the list
pub written_back : (new items : List Block) (n : ℕ) → length new ≡ n → take n (new ++ drop (length new) items) ≡ new
written_back new items n e = take_at new (drop (length new) items) n (omega (arith, e))
