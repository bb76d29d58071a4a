-- The winner, and the list where it waits.
use Rattle.std.proofs.Common.{◌≡◌, ℕ, suc, ◌<◌, ◌≤◌, Bool, true, false, List, [], ◌∷◌, ◌++◌, length, map, get_or}
use Rattle.std.proofs.Common.{Option, Some, None, ◌⊎◌, inl, inr, refl, sym, subst, ap, ◌∙◌, arith}
use Rattle.std.specs.Prelude.{if◌then◌else◌, slice_get}
use Rattle.std.specs.List.{position, position_or_len}
use Rattle.std.proofs.lemmas.Bool.{false≢true}
use Rattle.std.proofs.lemmas.Bool.Decides.{nat_tests}
use Rattle.std.proofs.lemmas.Grind.{common_steps}
use Rattle.std.proofs.lemmas.List.{append-nil, get_or_default}
use Rattle.std.proofs.lemmas.List.Concat.{flat_map-append}
use Rattle.std.proofs.lemmas.List.Quantifiers.{position-Some}
use Rattle.std.proofs.lemmas.List.Sums.{fails_before_first}
use Rattle.std.proofs.lemmas.Option.{get_or_from_slice_get}
use Rattle.can_frame.specs.Senders.{device_sender, manager_sender}
use Rattle.can_frame.specs.Winner.{contenders, contenders_of, is_below, lower, winner_of, IsWinner}
use Rattle.can_frame.specs.declared.contender.Contender.{Contender}
use Rattle.can_frame.specs.declared.waiting.Waiting.{Waiting}
use Rattle.can_frame.proofs.WinnerLemmas.{contender_at, length-contenders_of, winner-append, winner-unique}
use Rattle.can_frame.proofs.WinnerLemmas.{winner_of-wins}
use Rattle.co_device.specs.Device.{Device, without_power}
use Rattle.nmt_boot.specs.Manager.{Manager}
use Rattle.bus_devices.specs.Senders.{contends_with, is_contender, sender_place}
use Rattle.bus_devices.specs.Places.{device_at}
use Rattle.can_bus.specs.Bus.{winning_frame, waiting_lists, winner}

-- ---- who wins is who is found

pub winner_is : (cs : List Contender) (o : Option Contender) → IsWinner cs o → o ≡ winner_of cs
winner_is cs o h = winner-unique cs o (winner_of cs) h (winner_of-wins cs)

pub winner-both : (xs ys : List Contender) → winner_of (xs ++ ys) ≡ lower (winner_of xs) (winner_of ys)
winner-both xs ys = sym (winner_is (xs ++ ys) (lower (winner_of xs) (winner_of ys))
    (winner-append xs ys (winner_of xs) (winner_of ys) (winner_of-wins xs) (winner_of-wins ys)))

list_of : Device → ℕ × List Waiting
list_of d = (device_sender d.number, d.waiting)

pub winner_found : (ds : List Device) (m : Manager) (a b : Option Contender)
    → IsWinner (contenders (map (λ d. (device_sender d.number, d.waiting)) ds)) a → IsWinner (contenders_of (manager_sender m.number, m.waiting)) b
    → lower a b ≡ winner ds m
unfolding winner
winner_found ds m a b g h =
    let front : List (ℕ × List Waiting) = map (λ d. (device_sender d.number, d.waiting)) ds in
    let last : ℕ × List Waiting = (manager_sender m.number, m.waiting) in
    winner_is (contenders (waiting_lists ds m)) (lower a b)
    (rw (flat_map-append contenders_of front (last ∷ []), append-nil {A = Contender} (contenders_of last))
    (winner-append (contenders front) (contenders_of last) a b g h))

-- ---- it waits where it is found

both_true : (a b : Bool) → (if a then b else false) ≡ true → (a ≡ true) × (b ≡ true)
both_true true b h = (refl, h)
both_true false b h = absurd (false≢true h)

same_numbers : (a b c d e f : ℕ) → is_contender (record { id = b; sender = d; place = f })
    (Some (record { id = a; sender = c; place = e })) ≡ true → (a ≡ b) × ((c ≡ d) × (e ≡ f))
same_numbers a b c d e f h = (grind (arith, nat_tests), (grind (arith, nat_tests), grind (arith, nat_tests)))

pub is_same : (c : Contender) (o : Option Contender) → is_contender c o ≡ true → o ≡ Some c
is_same c None h = absurd (false≢true h)
is_same c (Some b) h =
    let e = same_numbers b.id c.id b.sender c.sender b.place c.place h in
    let made : ℕ → ℕ → ℕ → Option Contender = λ id node place. Some (record { id = id; sender = node; place = place }) in
    ap (λ id. made id b.sender b.place) e.0 ∙ ap (λ node. made c.id node b.place) e.1.0
    ∙ ap (λ place. made c.id c.sender place) e.1.1

itself : (a b c : ℕ) → is_contender (record { id = a; sender = b; place = c })
    (Some (record { id = a; sender = b; place = c })) ≡ true
itself a b c = grind (arith, nat_tests)

pub is_itself : (c : Contender) (o : Option Contender) → o ≡ Some c → is_contender c o ≡ true
is_itself c o e = rw e (itself c.id c.sender c.place)

-- the winner of one list has its place there
pub place_within : (node : ℕ) (frames : List Waiting) (c : Contender)
    → winner_of (contenders_of (node, frames)) ≡ Some c → c.place < length frames
place_within node frames c e =
    let wins : IsWinner (contenders_of (node, frames))
    (Some c) = rw e at (winner_of-wins (contenders_of (node, frames))) in
    let k = wins.0.0 in
    let many = length-contenders_of node frames in
    let within : k < length frames = omega (arith, wins.0.1) in
    let place : k ≡ c.place = ap (λ (d : Contender). d.place) (sym (contender_at node frames k c within) ∙ wins.0.2) in
    omega (arith, within, place)

either : (t : Bool) (a b : Option Contender) → ((if t then b else a) ≡ a) ⊎ ((if t then b else a) ≡ b)
either true a b = inr refl
either false a b = inl refl

lower_is : (a b : Option Contender) → (lower a b ≡ a) ⊎ (lower a b ≡ b)
lower_is None b = inr refl
lower_is (Some a) None = inl refl
lower_is (Some a) (Some b) = either (is_below b a) (Some a) (Some b)

-- ---- whose frame it is

pub contends_is : (c : Contender) (d : Device) → contends_with c d ≡ true
    → winner_of (contenders_of (device_sender d.number, d.waiting)) ≡ Some c
contends_is c d h = is_same c (winner_of (contenders_of (device_sender d.number, d.waiting))) h

not_both : (b : Bool) → b ≡ true → b ≡ false → ⊥
not_both b h k = false≢true (sym k ∙ h)

-- where no device contends with the winner, the manager does
pub manager_contends : (ds : List Device) (m : Manager) (c : Contender)
    → winner_of (contenders (waiting_lists ds m)) ≡ Some c
    → ((k : ℕ) (d : Device) → k < length ds → contends_with c (get_or ds k d) ≡ false)
    → winner_of (contenders_of (manager_sender m.number, m.waiting)) ≡ Some c
manager_contends [] m c e none =
    let last : ℕ × List Waiting = (manager_sender m.number, m.waiting) in
    ap winner_of (sym (append-nil {A = Contender} (contenders_of last))) ∙ e
manager_contends (d ∷ ds) m c e none =
    let own : Option Contender = winner_of (contenders_of (device_sender d.number, d.waiting)) in
    let others : Option Contender = winner_of (contenders (waiting_lists ds m)) in
    let low : lower own others ≡ Some c = sym (winner-both (contenders_of (device_sender d.number, d.waiting))
    (contenders (waiting_lists ds m))) ∙ e in
    elim (lower_is own others) [
      | inl first ↦ absurd (not_both (contends_with c d) (is_itself c own (sym first ∙ low)) (none 0 d (omega arith)))
      | inr rest ↦ manager_contends ds m c (sym rest ∙ low) (λ k x h. none (suc k) x (omega (arith, h)))
    ]

pub none_found : {X : Type 0} (p : X → Bool) (xs : List X) → position p xs ≡ None → (k : ℕ) (d : X) → k < length xs
    → p (get_or xs k d) ≡ false
none_found p xs e k d h =
    let late : length xs ≤ position_or_len p xs = grind (arith, common_steps) in
    fails_before_first p xs k d (omega arith)

-- ---- it is sent

-- by the device at the place that is found
module _ (c : Contender) (ds : List Device) (i : ℕ) (found : Some i ≡ sender_place c ds) where
  pub sends_at : (d : Device) → (i < length ds) × (c.place < length (get_or ds i d).waiting)
  unfolding sender_place
  sends_at d =
      let at = position-Some (contends_with c) ds i d (sym found) in
      (at.0, place_within (device_sender (get_or ds i d).number) (get_or ds i d).waiting c (contends_is c (get_or ds i d) at.1))

  same_device : (d : Device) → get_or ds i d ≡ device_at ds i
  same_device d = get_or_default ds i d (without_power false 0) (sends_at d).0

  pub device_within : c.place < length (device_at ds i).waiting
  device_within = let d = without_power false 0
      in subst (λ (x : Device). c.place < length x.waiting) (same_device d) (sends_at d).1

  pub device_sends : (m : Manager) (w : Waiting) → slice_get (device_at ds i).waiting c.place ≡ Some w
      → w.frame ≡ winning_frame c (sender_place c ds) ds m
  device_sends m w h =
      rw (← found) (ap (λ (x : Waiting). x.frame) (sym (get_or_from_slice_get (device_at ds i).waiting c.place w _ h)))

-- by the manager, where no device is found
module _ (c : Contender) (ds : List Device) (m : Manager) (found : None ≡ sender_place c ds) where
  pub manager_sends_at : winner ds m ≡ Some c → c.place < length m.waiting
  unfolding sender_place winner
  manager_sends_at e =
      place_within (manager_sender m.number) m.waiting c (manager_contends ds m c e (none_found (contends_with c) ds (sym found)))

  pub manager_sends : (w : Waiting) → slice_get m.waiting c.place ≡ Some w
      → w.frame ≡ winning_frame c (sender_place c ds) ds m
  manager_sends w h = rw (← found) (ap (λ (x : Waiting). x.frame) (sym (get_or_from_slice_get m.waiting c.place w _ h)))
