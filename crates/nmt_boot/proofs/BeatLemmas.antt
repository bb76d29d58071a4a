-- What the manager sends periodically comes at the whole multiples of its period.
use Rattle.std.proofs.Common.{◌≡◌, ◌↔◌, ℕ, zero, suc, ◌+◌, ◌*◌, ◌<◌, ◌≤◌, Bool, true, false, Option, Some, None, ◌⊎◌}
use Rattle.std.proofs.Common.{List, [], ◌∷◌, length, map, inl, inr, refl, sym, ap, ◌∙◌, subst, arith}
use Rattle.std.specs.Prelude.{Contains, filter, slice_index_or, if◌then◌else◌, ◌==◌}
use Rattle.std.specs.List.{AllZip}
use Rattle.std.proofs.Math.Nat.{mul-le-mul_right}
use Rattle.std.proofs.lemmas.Bool.Decides.{nat_tests}
use Rattle.image_parts.specs.Asking.{outcome}
use Rattle.can_frame.specs.Frames.{BaseFrame}
use Rattle.image_parts.specs.Contents.{Image}
use Rattle.base.specs.Moments.{is_due, moment_after}
use Rattle.image_parts.specs.declared.roster.Roster.{Roster}
use Rattle.co_scenario.specs.declared.nmt_command.NmtCommand.{NmtCommand}
use Rattle.nmt_boot.proofs.FrameLemmas.{received_holds}
use Rattle.nmt_boot.specs.Beats.{HasNumbersOf, IsFirstMultiple, IsMultiple, IsNextOf, IsOnTime, IsTimed, due_messages}
use Rattle.nmt_boot.specs.Manager.{Manager, with_command, manager_at_power_on, after_frame, time_outs, timers}
use Rattle.nmt_boot.specs.Periodic.{first_of as set_first, messages_of, period_of, periodic_after}
use Rattle.nmt_boot.specs.declared.periodic.Periodic.{Periodic}
use Rattle.nmt_boot.specs.declared.periodic_message.PeriodicMessage.{PeriodicMessage}
use Rattle.nmt_boot.specs.declared.periodic_message.PeriodicMessage.TheVariants.{Heartbeat, Time, Sync}

-- one number is below another, or not
apart : (j k : ℕ) → (j ≤ k) ⊎ (suc k ≤ j)
apart zero k = inl (omega arith)
apart (suc j) zero = inr (omega arith)
apart (suc j) (suc k) = more (apart j k)
  where
    more : (j ≤ k) ⊎ (suc k ≤ j) → (suc j ≤ suc k) ⊎ (suc (suc k) ≤ suc j)
    more (inl h) = inl (omega (arith, h))
    more (inr h) = inr (omega (arith, h))

-- one multiple is below another: it is a period or more below
a_period_apart : (j k p : ℕ) → k * suc p < j * suc p → suc k * suc p ≤ j * suc p
a_period_apart j k p below = by (apart j k)
  where
    by : (j ≤ k) ⊎ (suc k ≤ j) → suc k * suc p ≤ j * suc p
    by (inl few) = let most = mul-le-mul_right (suc p) few in absurd (omega (arith, most, below))
    by (inr many) = mul-le-mul_right (suc p) many

zero_not_above : (0 == 0) ≡ false → ⊥
zero_not_above e = cc

first_of : (p : ℕ) → IsFirstMultiple 0 (suc p) (0 + suc p)
first_of p = record {
  multiple = (omega arith, (1, omega arith));
  from = omega arith;
  first = λ other h from. least other h.0 h.1.0 h.1.1;
}
  where
    least : (other : ℕ) → 1 ≤ other → (k : ℕ) → other ≡ k * suc p → 0 + suc p ≤ other
    least other above zero e = absurd (omega (arith, above, e))
    least other above (suc k) e = let more = mul-le-mul_right {m = 1} {n = suc k} (suc p) (omega arith)
        in omega (arith, e, more)

first_by : (p : ℕ) (b : Bool) → (p == 0) ≡ b → IsNextOf 0 p (if b then None else Some (0 + p))
first_by p true e = grind (arith, nat_tests)
first_by zero false e = absurd (zero_not_above e)
first_by (suc p) false e = first_of p

first_at : (p : ℕ) → IsNextOf 0 p (moment_after 0 p)
first_at p = first_by p (p == 0) refl

-- the next after one that came
next_at : (t p : ℕ) → IsMultiple t (suc p) → IsFirstMultiple (t + 1) (suc p) (t + suc p)
next_at t p m = record {
  multiple = (omega arith, (suc m.1.0, after m.1.0 m.1.1));
  from = omega arith;
  first = λ other h from. least m.1.0 m.1.1 other h.1.0 h.1.1 from;
}
  where
    after : (k : ℕ) → t ≡ k * suc p → t + suc p ≡ suc k * suc p
    after k e = omega (arith, e)

    least : (k : ℕ) → t ≡ k * suc p → (other j : ℕ) → other ≡ j * suc p → t + 1 ≤ other → t + suc p ≤ other
    least k e other j f from =
        let below : k * suc p < j * suc p = omega (arith, e, f, from) in
        let more = a_period_apart j k p below in
        omega (arith, e, f, more)

without_period : (t : ℕ) → IsMultiple t 0 → ⊥
without_period t m = omega (arith, m.0, m.1.1)

is_the_moment : (t : ℕ) (next : Option ℕ) → is_due t next ≡ true → next ≡ Some t
is_the_moment t None e = cc
is_the_moment t (Some moment) e = ap Some (grind (arith, nat_tests))

not_the_moment : (t moment : ℕ) → is_due t (Some moment) ≡ false → t ≤ moment → t + 1 ≤ moment
not_the_moment t moment e h = grind (arith, nat_tests)

stays_next : (t period : ℕ) (next : Option ℕ) → is_due t next ≡ false → IsNextOf t period next
    → IsNextOf (t + 1) period next
stays_next t period None e h = h
stays_next t period (Some moment) e h = record {
  multiple = h.multiple;
  from = not_the_moment t moment e h.from;
  first = λ other m from. h.first other m (omega (arith, from));
}

goes_by : (t p : ℕ) (b : Bool) → (p == 0) ≡ b → IsMultiple t p → IsNextOf (t + 1) p (if b then None else Some (t + p))
goes_by t p true e m = grind (arith, nat_tests)
goes_by t zero false e m = absurd (zero_not_above e)
goes_by t (suc p) false e m = next_at t p m

goes_on : (t period : ℕ) → IsFirstMultiple t period t → IsNextOf (t + 1) period (moment_after t period)
goes_on t period h = goes_by t period (period == 0) refl h.multiple

itself_at : (t : ℕ) → is_due t (Some t) ≡ true
itself_at t = grind (arith, nat_tests)

at_multiple : (t period : ℕ) (next : Option ℕ) → IsNextOf t period next → IsMultiple t period → is_due t next ≡ true
at_multiple t period None h m = absurd (without_period t (subst (IsMultiple t) h m))
at_multiple t period (Some moment) h m =
    let at_most = h.first t m (omega arith) in
    let at_least = h.from in
    grind (arith, nat_tests)

due_next : (t period : ℕ) (next : Option ℕ) → IsNextOf t period next → (is_due t next ≡ true) ↔ IsMultiple t period
due_next t period next h = (
  λ e. (subst (IsNextOf t period) (is_the_moment t next e) h).multiple,
  at_multiple t period next h,
)

-- ---- the messages

-- a message of a network is one of its list, with the numbers that the network gives it
is_numbered : (network : Roster) (m : PeriodicMessage) (k : ℕ) → k < length (messages_of network)
    → slice_index_or (messages_of network) k m ≡ m → HasNumbersOf network m
is_numbered network Heartbeat k within is = tt
is_numbered network (Time first_day) zero within is = absurd cc
is_numbered network (Time first_day) (suc zero) within is = cc
is_numbered network (Time first_day) (suc (suc zero)) within is = absurd cc
is_numbered network (Sync last) zero within is = absurd cc
is_numbered network (Sync last) (suc zero) within is = absurd cc
is_numbered network (Sync last) (suc (suc zero)) within is = cc
is_numbered network _ (suc (suc (suc k))) within is = absurd (omega (arith, within))

-- and each kind of message is in the list: one that isn't gets no clause here
is_there : (network : Roster) (m : PeriodicMessage) → HasNumbersOf network m → Contains (messages_of network) m
is_there network Heartbeat has = (0, omega arith, refl)
is_there network (Time first_day) has = (1, omega arith, ap Time (sym has))
is_there network (Sync last) has = (2, omega arith, ap Sync (sym has))

pub all_there : (network : Roster) (m : PeriodicMessage) → Contains (messages_of network) m ↔ HasNumbersOf network m
all_there network m = (λ c. is_numbered network m c.0 c.1 c.2, is_there network m)

-- ---- the manager

module _ (network : Roster) where
  all_first : (ms : List PeriodicMessage) → AllZip (IsTimed network 0) ms (map (set_first network) ms)
  all_first [] = tt
  all_first (m ∷ ms) = (record { message = refl; period = refl; next = first_at (period_of network m) }, all_first ms)

  pub on_time_first : IsOnTime network 0 (manager_at_power_on network)
  unfolding manager_at_power_on
  on_time_first = all_first (messages_of network)

  one_after : (t : ℕ) (m : PeriodicMessage) (p : Periodic) → IsTimed network t m p
      → IsTimed network (t + 1) m (periodic_after t p)
  one_after t m p h = by (is_due t p.next) refl
    where
      by : (b : Bool) → is_due t p.next ≡ b
          → IsTimed network (t + 1) m (if b then record p { next = moment_after t p.period } else p)
      by true e = record {
        message = h.message;
        period = h.period;
        next = goes_on t p.period (subst (IsNextOf t p.period) (is_the_moment t p.next e) h.next);
      }
      by false e = record {
        message = h.message;
        period = h.period;
        next = stays_next t p.period p.next e h.next;
      }

  all_after : (t : ℕ) (ms : List PeriodicMessage) (ps : List Periodic) → AllZip (IsTimed network t) ms ps
      → AllZip (IsTimed network (t + 1)) ms (map (periodic_after t) ps)
  all_after t [] [] h = tt
  all_after t [] (p ∷ ps) h = absurd h
  all_after t (m ∷ ms) [] h = absurd h
  all_after t (m ∷ ms) (p ∷ ps) h = (one_after t m p h.0, all_after t ms ps h.1)

  pub timers_on_time : (t : ℕ) (m : Manager) → IsOnTime network t m → IsOnTime network (t + 1) (timers t m).0
  unfolding timers time_outs
  timers_on_time t m h = all_after t (messages_of network) m.periodic h

  pub command_on_time : (t : ℕ) (command : NmtCommand) (node : ℕ) (m : Manager) → IsOnTime network t m
      → IsOnTime network t (with_command command node m)
  command_on_time t command node m h = h

  pub frame_on_time : (image : Image) (t : ℕ) (frame : BaseFrame) (m : Manager) → IsOnTime network t m
      → IsOnTime network t (outcome (after_frame t frame m) image).0
  frame_on_time image t frame m h =
      received_holds image t frame m (λ r read. IsOnTime network t r.0) h (λ i e o. h) (λ i e o. h)
      (λ i e. h)

-- ---- what is due

module _ (network : Roster) (t : ℕ) where
  pub due_at : (m : PeriodicMessage) (p : Periodic) → IsTimed network t m p
      → (is_due t p.next ≡ true) ↔ IsMultiple t (period_of network m)
  due_at m p h =
      subst (λ (period : ℕ). (is_due t p.next ≡ true) ↔ IsMultiple t period) h.period
      (due_next t p.period p.next h.next)

  -- the first is due, or not, and then the others
  abbrev DueOf : Bool → Periodic → List Periodic → List PeriodicMessage
  DueOf b p ps = map (λ (q : Periodic). q.message)
      (if b then p ∷ filter (λ (q : Periodic). is_due t q.next) ps else filter (λ (q : Periodic). is_due t q.next) ps)

  module _ (message : PeriodicMessage) where
    abbrev Comes : Type 0
    Comes = IsMultiple t (period_of network message)

    one_comes : (m : PeriodicMessage) (p : Periodic) → IsTimed network t m p → is_due t p.next ≡ true
        → p.message ≡ message → Comes
    one_comes m p h e is =
        subst (λ (x : PeriodicMessage). IsMultiple t (period_of network x)) (sym h.message ∙ is) ((due_at m p h).0 e)

    -- it is one of these, and it comes
    abbrev Sent : List PeriodicMessage → Type 0
    Sent ms = Contains ms message × Comes

    of_more : (m : PeriodicMessage) (ms : List PeriodicMessage) → Sent ms → Sent (m ∷ ms)
    of_more m ms h = let one = h.0 in ((suc one.0, omega (arith, one.1), one.2), h.1)

    due_comes : (ms : List PeriodicMessage) (ps : List Periodic) → AllZip (IsTimed network t) ms ps
        → (k : ℕ) → k < length (due_messages t ps) → slice_index_or (due_messages t ps) k message ≡ message → Sent ms
    due_comes [] [] h k within is = absurd (omega (arith, within))
    due_comes [] (p ∷ ps) h k within is = absurd h
    due_comes (m ∷ ms) [] h k within is = absurd h
    due_comes (m ∷ ms) (p ∷ ps) h k within is =
        by (λ j among e. of_more m ms (due_comes ms ps h.1 j among e)) (is_due t p.next) refl k within is
      where
        by : ((j : ℕ) → j < length (due_messages t ps) → slice_index_or (due_messages t ps) j message ≡ message
            → Sent (m ∷ ms))
            → (b : Bool) → is_due t p.next ≡ b → (k : ℕ) → k < length (DueOf b p ps)
            → slice_index_or (DueOf b p ps) k message ≡ message → Sent (m ∷ ms)
        by rest true e zero within is = ((0, omega arith, sym h.0.message ∙ is), one_comes m p h.0 e is)
        by rest true e (suc k) within is = rest k (omega (arith, within)) is
        by rest false e k within is = rest k within is

    comes_due : (ms : List PeriodicMessage) (ps : List Periodic) → AllZip (IsTimed network t) ms ps
        → (k : ℕ) → k < length ms → slice_index_or ms k message ≡ message → Comes
        → Contains (due_messages t ps) message
    comes_due [] ps h k within is at = absurd (omega (arith, within))
    comes_due (m ∷ ms) [] h k within is at = absurd h
    comes_due (m ∷ ms) (p ∷ ps) h zero within is at =
        by (is_due t p.next)
        ((due_at m p h.0).1 (subst (λ (x : PeriodicMessage). IsMultiple t (period_of network x)) (sym is) at))
      where
        by : (b : Bool) → b ≡ true → Contains (DueOf b p ps) message
        by true e = (0, omega arith, h.0.message ∙ is)
        by false e = cc
    comes_due (m ∷ ms) (p ∷ ps) h (suc k) within is at =
        by (is_due t p.next) (comes_due ms ps h.1 k (omega (arith, within)) is at)
      where
        by : (b : Bool) → Contains (due_messages t ps) message → Contains (DueOf b p ps) message
        by true rest = (suc rest.0, omega (arith, rest.1), rest.2)
        by false rest = rest

  pub due_at_multiples : (m : Manager) (message : PeriodicMessage) → IsOnTime network t m
      → Contains (due_messages t m.periodic) message
      ↔ (HasNumbersOf network message × IsMultiple t (period_of network message))
  due_at_multiples m message h = (
    λ due. let sent = due_comes message (messages_of network) m.periodic h due.0 due.1 due.2 in
        ((all_there network message).0 sent.0, sent.1),
    λ sent. let one = (all_there network message).1 sent.0 in
        comes_due message (messages_of network) m.periodic h one.0 one.1 one.2 sent.1,
  )
