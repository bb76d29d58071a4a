-- What is known of devices, one by one.
use Rattle.std.proofs.Common.{◌≡◌, ℕ, zero, suc, ◌+◌, ◌<◌, ◌≤◌, List, [], ◌∷◌, ◌++◌, length, take, drop, get_or, set}
use Rattle.std.proofs.Common.{Option, false, refl, sym, ap, subst, arith}
use Rattle.std.proofs.lemmas.List.{append-nil, take_all, take_more}
use Rattle.bus_devices.specs.Blocks.{AreBlocksOf, AreEachOf, AreEightsOf, AreKnown, AreOutlooksOf, FollowsFromBlocks}
use Rattle.bus_devices.specs.Blocks.{FollowsFromEach, IsAlarmOf, IsBestOf, IsBlockOf, IsOutlookOf, alarms_of, outlooks_of}
use Rattle.bus_devices.specs.declared.block.Block.{Block}
use Rattle.bus_devices.specs.declared.outlook.Outlook.{Outlook}
use Rattle.bus_devices.proofs.SenderLemmas.{IsBest, best_of_both}
use Rattle.can_frame.specs.Senders.{device_sender}
use Rattle.can_frame.specs.Winner.{contenders_of, lower, IsWinner}
use Rattle.can_frame.specs.declared.contender.Contender.{Contender}
use Rattle.co_device.specs.Device.{Device, without_power}
use Rattle.device_agenda.specs.Agenda.{IsAgendaOf}
use Rattle.device_agenda.specs.Alarms.{agenda_by}
use Rattle.device_agenda.specs.declared.alarm.Alarm.{Alarm}
use Rattle.device_agenda.specs.LowBytes.{AreDeafBeyond, IsDeafBeyond}
use Rattle.device_agenda.specs.declared.low_bytes.LowBytes.{LowBytes}

-- of one device: its own winner wins
pub best_of_one : (d : Device) (o : Option Contender) → IsWinner (contenders_of (device_sender d.number, d.waiting)) o
    → IsBest o (d ∷ [])
best_of_one d o h =
    subst (λ (cs : List Contender). IsWinner cs o)
    (sym (append-nil {A = Contender} (contenders_of (device_sender d.number, d.waiting)))) h

module _ (Of : Outlook → List Device → Type 0) where
  -- there is as much of it as there are devices
  pub enough : (outlooks : List Outlook) (ds : List Device) → AreEachOf Of outlooks ds → length ds ≤ length outlooks
  enough outlooks [] h = omega arith
  enough [] (d ∷ ds) h = absurd h
  enough (o ∷ outlooks) (d ∷ ds) h = let rest = enough outlooks ds h.1 in omega (arith, rest)

  -- that of the device at a place
  pub outlook_at : (outlooks : List Outlook) (ds : List Device) (i : ℕ) (o : Outlook) (d : Device) → i < length ds
      → AreEachOf Of outlooks ds → Of (get_or outlooks i o) (get_or ds i d ∷ [])
  outlook_at outlooks [] i o d within h = absurd (omega (arith, within))
  outlook_at [] (x ∷ ds) i o d within h = absurd h
  outlook_at (a ∷ outlooks) (x ∷ ds) zero o d within h = h.0
  outlook_at (a ∷ outlooks) (x ∷ ds) (suc i) o d within h = outlook_at outlooks ds i o d (omega (arith, within)) h.1

  -- what is known of devices and of one more
  pub one_more : (a b both : Outlook) (ds : List Device) (i : ℕ) (d : Device) → i < length ds
      → ((xs ys : List Device) → Of a xs → Of b ys → Of both (xs ++ ys))
      → Of a (take i ds) → Of b (get_or ds i d ∷ []) → Of both (take (i + 1) ds)
  one_more a b both ds i d within gives g h = rw (take_more ds i d within) (gives (take i ds) (get_or ds i d ∷ []) g h)

  -- they are all
  pub none_more : (o : Outlook) (ds : List Device) (i : ℕ) → length ds ≤ i → Of o (take i ds) → Of o ds
  none_more o ds i past h = rw (take_all i ds past) at h

-- that of one device more is written
next_outlook : (outlooks : List Outlook) (ds : List Device) (i : ℕ) (o : Outlook) (d : Device) → i < length outlooks
    → i < length ds → IsOutlookOf o (get_or ds i d ∷ []) → AreOutlooksOf outlooks (take i ds)
    → AreOutlooksOf (set outlooks i o) (take (suc i) ds)
next_outlook outlooks [] i o d room within h front = absurd (omega (arith, within))
next_outlook [] (x ∷ ds) i o d room within h front = absurd (omega (arith, room))
next_outlook (a ∷ outlooks) (x ∷ ds) zero o d room within h front = (h, tt)
next_outlook (a ∷ outlooks) (x ∷ ds) (suc i) o d room within h front =
    (front.0, next_outlook outlooks ds i o d (omega (arith, room)) (omega (arith, within)) h front.1)

pub outlook_more : (outlooks : List Outlook) (ds : List Device) (i : ℕ) (o : Outlook) (d : Device)
    → i < length outlooks → i < length ds → IsOutlookOf o (get_or ds i d ∷ []) → AreOutlooksOf outlooks (take i ds)
    → AreOutlooksOf (set outlooks i o) (take (i + 1) ds)
outlook_more outlooks ds i o d room within h front =
    let after : suc i ≡ i + 1 = omega arith in
    subst (λ (n : ℕ). AreOutlooksOf (set outlooks i o) (take n ds)) after
    (next_outlook outlooks ds i o d room within h front)

-- a device ran, and what is known of it is written
pub outlook_set : (outlooks : List Outlook) (ds : List Device) (i : ℕ) (o : Outlook) (d : Device)
    → IsOutlookOf o (d ∷ []) → AreOutlooksOf outlooks ds → AreOutlooksOf (set outlooks i o) (set ds i d)
outlook_set outlooks [] i o d h all = tt
outlook_set [] (x ∷ ds) i o d h all = absurd all
outlook_set (a ∷ outlooks) (x ∷ ds) zero o d h all = (h, all.1)
outlook_set (a ∷ outlooks) (x ∷ ds) (suc i) o d h all = (all.0, outlook_set outlooks ds i o d h all.1)

-- the frame that wins of those that wait at devices and at one more
pub best_more : (a b best : Option Contender) (ds : List Device) (i : ℕ) (d : Device) → i < length ds
    → IsBest a (take i ds) → IsBest b (get_or ds i d ∷ []) → best ≡ lower a b → IsBest best (take (i + 1) ds)
best_more a b best ds i d within g h e =
    rw (take_more ds i d within) (best_of_both (take i ds) (get_or ds i d ∷ []) a b best g h e)

-- ---- what follows of devices from what is known of each

alarms_known : (outlooks : List Outlook) (ds : List Device) → AreOutlooksOf outlooks ds → AreEachOf IsAlarmOf outlooks ds
alarms_known outlooks [] h = tt
alarms_known [] (d ∷ ds) h = absurd h
alarms_known (o ∷ outlooks) (d ∷ ds) h = (h.0.agenda, alarms_known outlooks ds h.1)

bests_known : (outlooks : List Outlook) (ds : List Device) → AreOutlooksOf outlooks ds → AreEachOf IsBestOf outlooks ds
bests_known outlooks [] h = tt
bests_known [] (d ∷ ds) h = absurd h
bests_known (o ∷ outlooks) (d ∷ ds) h = (h.0.best, bests_known outlooks ds h.1)

pub block_outlook : (b : Block) (ds : List Device) → IsBlockOf b ds → IsOutlookOf b.outlook ds
block_outlook b ds h = record {
  agenda = h.outlook.alarm ds refl (alarms_known b.each ds h.each);
  best = h.outlook.best ds refl (bests_known b.each ds h.each);
}

-- what follows of the first of so many devices
pub record FollowsSoFar (outlook : Outlook) (each : List Outlook) (count place : ℕ) : Type 0 where
  pub alarm : (ds : List Device) → length ds ≡ count → AreEachOf IsAlarmOf each ds → IsAlarmOf outlook (take place ds)
  pub best : (ds : List Device) → length ds ≡ count → AreEachOf IsBestOf each ds → IsBestOf outlook (take place ds)

-- and of one more
pub follows_more : (a b both : Outlook) (each : List Outlook) (count place : ℕ) (o : Outlook) → place < count
    → ((ds es : List Device) → IsAlarmOf a ds → IsAlarmOf b es → IsAlarmOf both (ds ++ es))
    → ((ds es : List Device) → IsBestOf a ds → IsBestOf b es → IsBestOf both (ds ++ es)) → b ≡ get_or each place o
    → FollowsSoFar a each count place → FollowsSoFar both each count (place + 1)
follows_more a b both each count place o within alarms bests is so_far = record {
  alarm = λ ds long h.
      let near : place < length ds = omega (arith, within, long) in
      one_more IsAlarmOf a b both ds place (without_power false 0) near alarms (so_far.alarm ds long h)
      (subst (λ (x : Outlook). IsAlarmOf x (get_or ds place (without_power false 0) ∷ [])) (sym is)
      (outlook_at IsAlarmOf each ds place o (without_power false 0) near h));
  best = λ ds long h.
      let near : place < length ds = omega (arith, within, long) in
      one_more IsBestOf a b both ds place (without_power false 0) near bests (so_far.best ds long h)
      (subst (λ (x : Outlook). IsBestOf x (get_or ds place (without_power false 0) ∷ [])) (sym is)
      (outlook_at IsBestOf each ds place o (without_power false 0) near h));
}

-- they are all
pub follows_all : (outlook : Outlook) (each : List Outlook) (count place : ℕ) → count ≤ place
    → FollowsSoFar outlook each count place → FollowsFromEach outlook each count
follows_all outlook each count place past so_far = record {
  alarm = λ ds long h. none_more IsAlarmOf outlook ds place (omega (arith, past, long)) (so_far.alarm ds long h);
  best = λ ds long h. none_more IsBestOf outlook ds place (omega (arith, past, long)) (so_far.best ds long h);
}

-- ---- and of all devices from what is known of each eight

block_alarms : (blocks : List Block) (ds : List Device) → AreBlocksOf blocks ds → AreEightsOf IsAlarmOf blocks ds
block_alarms [] ds h = h
block_alarms (b ∷ blocks) ds h = ((block_outlook b (take 8 ds) h.0).agenda, block_alarms blocks (drop 8 ds) h.1)

block_bests : (blocks : List Block) (ds : List Device) → AreBlocksOf blocks ds → AreEightsOf IsBestOf blocks ds
block_bests [] ds h = h
block_bests (b ∷ blocks) ds h = ((block_outlook b (take 8 ds) h.0).best, block_bests blocks (drop 8 ds) h.1)

pub whole_known : (blocks : List Block) (whole : Outlook) (ds : List Device) → AreKnown blocks whole ds
    → IsOutlookOf whole ds
whole_known blocks whole ds h = record {
  agenda = h.all.alarm ds (block_alarms blocks ds h.each);
  best = h.all.best ds (block_bests blocks ds h.each);
}

-- the same follows where the same is known of each eight
eights_as : (Of : Outlook → List Device → Type 0) (new old : List Block) (ds : List Device)
    → outlooks_of new ≡ outlooks_of old → AreEightsOf Of new ds → AreEightsOf Of old ds
eights_as Of [] [] ds e h = h
eights_as Of [] (c ∷ old) ds e h = absurd (let n : 0 ≡ length (outlooks_of (c ∷ old)) = ap length e in omega (arith, n))
eights_as Of (b ∷ new) [] ds e h = absurd (let n : length (outlooks_of (b ∷ new)) ≡ 0 = ap length e in omega (arith, n))
eights_as Of (b ∷ new) (c ∷ old) ds e h = (
  subst (λ (o : Outlook). Of o (take 8 ds)) (ap (λ (os : List Outlook). get_or os 0 b.outlook) e) h.0,
  eights_as Of new old (drop 8 ds) (ap (drop 1) e) h.1,
)

pub follows_as : (whole : Outlook) (new old : List Block) → outlooks_of new ≡ outlooks_of old
    → FollowsFromBlocks whole old → FollowsFromBlocks whole new
follows_as whole new old e f = record {
  alarm = λ ds h. f.alarm ds (eights_as IsAlarmOf new old ds e h);
  best = λ ds h. f.best ds (eights_as IsBestOf new old ds e h);
}

-- and the same alarm where each eight have the same
pub alarms_as : (new old : List Block) (ds : List Device) → alarms_of new ≡ alarms_of old
    → AreEightsOf IsAlarmOf new ds → AreEightsOf IsAlarmOf old ds
alarms_as [] [] ds e h = h
alarms_as [] (c ∷ old) ds e h = absurd (let n : 0 ≡ length (alarms_of (c ∷ old)) = ap length e in omega (arith, n))
alarms_as (b ∷ new) [] ds e h = absurd (let n : length (alarms_of (b ∷ new)) ≡ 0 = ap length e in omega (arith, n))
alarms_as (b ∷ new) (c ∷ old) ds e h = (
  subst (λ (a : Alarm). IsAgendaOf (agenda_by a) (take 8 ds)) (ap (λ (alarms : List Alarm). get_or alarms 0 b.outlook.alarm) e) h.0,
  alarms_as new old (drop 8 ds) (ap (drop 1) e) h.1,
)

-- ---- beyond which low bytes devices are deaf

pub deaf_at : (bytes : LowBytes) (ds : List Device) (i : ℕ) (d : Device) → i < length ds → AreDeafBeyond bytes ds
    → IsDeafBeyond bytes (get_or ds i d)
deaf_at bytes [] i d within all = absurd (omega (arith, within))
deaf_at bytes (x ∷ ds) zero d within all = all.0
deaf_at bytes (x ∷ ds) (suc i) d within all = deaf_at bytes ds i d (omega (arith, within)) all.1

pub ran_deaf : (bytes : LowBytes) (ds : List Device) (i : ℕ) (d : Device) → IsDeafBeyond bytes d
    → AreDeafBeyond bytes ds → AreDeafBeyond bytes (set ds i d)
ran_deaf bytes [] i d h all = tt
ran_deaf bytes (x ∷ ds) zero d h all = (h, all.1)
ran_deaf bytes (x ∷ ds) (suc i) d h all = (all.0, ran_deaf bytes ds i d h all.1)
