-- When what the manager sends periodically comes.
use Rattle.std.specs.Prelude.{◌≡◌, ℕ, ◌*◌, ◌≤◌, List, Option, Some, None, filter, map}
use Rattle.std.specs.List.{AllZip}
use Rattle.base.specs.Moments.{is_due}
use Rattle.image_parts.specs.declared.roster.Roster.{Roster}
use Rattle.nmt_boot.specs.Manager.{Manager}
use Rattle.nmt_boot.specs.Periodic.{messages_of, period_of}
use Rattle.nmt_boot.specs.declared.periodic.Periodic.{Periodic}
use Rattle.nmt_boot.specs.declared.periodic_message.PeriodicMessage.{PeriodicMessage}
use Rattle.nmt_boot.specs.declared.periodic_message.PeriodicMessage.TheVariants.{Heartbeat, Time, Sync}

-- a whole multiple of a period, above 0
abbrev pub IsMultiple : ℕ → ℕ → Type 0
IsMultiple t period = (1 ≤ t) × ((k : ℕ) × (t ≡ k * period))

-- the first of them from the moment t on
pub record IsFirstMultiple (t period moment : ℕ) : Type 0 where
  pub multiple : IsMultiple moment period
  pub from : t ≤ moment
  pub first : (other : ℕ) → IsMultiple other period → t ≤ other → moment ≤ other

-- the moment that is set for what comes with a period
abbrev pub IsNextOf : ℕ → ℕ → Option ℕ → Type 0
IsNextOf t period None = period ≡ 0
IsNextOf t period (Some moment) = IsFirstMultiple t period moment

-- this message of a network, with its period: it is due next at the first multiple from the moment t on
pub record IsTimed (network : Roster) (t : ℕ) (which : PeriodicMessage) (p : Periodic) : Type 0 where
  pub message : p.message ≡ which
  pub period : p.period ≡ period_of network which
  pub next : IsNextOf t p.period p.next

-- a message with the numbers that a network gives it: every kind of message is one of each network
abbrev pub HasNumbersOf : Roster → PeriodicMessage → Type 0
HasNumbersOf network Heartbeat = Unit {0}
HasNumbersOf network (Time first_day) = first_day ≡ network.first_day
HasNumbersOf network (Sync last) = last ≡ network.sync_counter

-- THE MANAGER IS ON TIME: it has each periodic message of its network, in their order, with its next moment
abbrev pub IsOnTime : Roster → ℕ → Manager → Type 0
IsOnTime network t m = AllZip (IsTimed network t) (messages_of network) m.periodic

-- those that are due at a moment
abbrev pub due_messages : ℕ → List Periodic → List PeriodicMessage
due_messages t ps = map (λ p. p.message) (filter (λ p. is_due t p.next) ps)
