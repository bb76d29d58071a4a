-- When the manager is due.
use Rattle.std.proofs.Common.{◌≡◌, ℕ, ◌+◌, ◌≤◌, Bool, true, false, List, [], ◌∷◌, ◌++◌, map, Option, Some, None}
use Rattle.std.proofs.Common.{IfSome, refl, ap, ◌∙◌, arith, zero, suc}
use Rattle.std.specs.Prelude.{All, if◌then◌else◌, ◌==◌, slice_set}
use Rattle.std.specs.List.{AllByRecursion}
use Rattle.std.proofs.lemmas.Bool.Decides.{nat_tests}
use Rattle.std.proofs.lemmas.List.Elements.{All-append, All-cons, All-head, All-nil, All-tail}
use Rattle.can_frame.specs.declared.waiting.Waiting.{Waiting}
use Rattle.co_scenario.specs.declared.nmt_command.NmtCommand.{NmtCommand}
use Rattle.base.specs.Moments.{is_due, moment_after, moments_of, earlier, earliest}
use Rattle.base.proofs.EarliestLemmas.{earliest_append}
use Rattle.manager_nodes.proofs.QuietLemmas.{AreFrom, quiet_list, quiet_nodes}
use Rattle.nmt_boot.specs.Ahead.{IsAhead}
use Rattle.node_boot.specs.Boot.{deadline_of, is_at, is_timed_out, sdo_time_out}
use Rattle.nmt_boot.specs.Manager.{Manager, with_command, moments, send_due, time_outs, timers, next_due, after_frame}
use Rattle.nmt_boot.specs.Periodic.{next_moments, periodic_after, queue_after}
use Rattle.nmt_boot.specs.declared.periodic.Periodic.{Periodic}
use Rattle.manager_nodes.specs.Table.{deadlines, node_after, node_at}
use Rattle.node_boot.specs.declared.boot_stage.BootStage.{BootStage}
use Rattle.manager_nodes.specs.declared.booting.Booting.{Booting}
use Rattle.node_boot.specs.declared.note.Note.{Note}
use Rattle.image_parts.specs.Asking.{outcome}
use Rattle.can_frame.specs.Frames.{BaseFrame}
use Rattle.image_parts.specs.Contents.{Image}
use Rattle.node_boot.proofs.DeadlineLemmas.{IsOpenFrom, boot_from, answer_from}
use Rattle.nmt_boot.proofs.FrameLemmas.{received_holds}

-- ---- the first moment

pub next_due_is : (m : Manager) → next_due m
    ≡ earlier (earliest (next_moments m.periodic)) (earliest (deadlines m.nodes))
unfolding next_due moments
next_due_is m = earliest_append (next_moments m.periodic) (deadlines m.nodes)

-- none of these comes before t
abbrev pub AreSetFrom : ℕ → List Periodic → Type 0
AreSetFrom t ps = AllByRecursion (λ (p : Periodic). IfSome p.next (λ d. t ≤ d)) ps

-- no moment of the manager lies before t
pub record IsFrom (t : ℕ) (m : Manager) : Type 0 where
  pub periodic : AreSetFrom t m.periodic
  pub nodes : AreFrom t m.nodes

-- ---- the list of moments

module _ (t : ℕ) where
  abbrev AllFrom : List ℕ → Type 0
  AllFrom ms = All (λ d. t ≤ d) ms

  splits : (xs ys : List ℕ) → AllFrom (xs ++ ys) → AllFrom xs × AllFrom ys
  splits [] ys h = (All-nil (λ d. t ≤ d), h)
  splits (x ∷ xs) ys h =
      let rest = splits xs ys (All-tail (λ d. t ≤ d) x (xs ++ ys) h) in
      (All-cons (λ d. t ≤ d) x xs (All-head (λ d. t ≤ d) x (xs ++ ys) h) rest.0, rest.1)

  some_from : (o : Option ℕ) → AllFrom (moments_of o) → IfSome o (λ d. t ≤ d)
  some_from None h = tt
  some_from (Some moment) h = All-head (λ d. t ≤ d) moment [] h

  from_some : (o : Option ℕ) → IfSome o (λ d. t ≤ d) → AllFrom (moments_of o)
  from_some None h = All-nil (λ d. t ≤ d)
  from_some (Some moment) h = All-cons (λ d. t ≤ d) moment [] h (All-nil (λ d. t ≤ d))

  nodes_from : (ns : List Booting) → AllFrom (deadlines ns) → AreFrom t ns
  unfolding deadlines
  nodes_from [] h = tt
  nodes_from (n ∷ ns) h =
      let both = splits (moments_of (deadline_of n.stage)) (deadlines ns) h in
      (some_from (deadline_of n.stage) both.0, nodes_from ns both.1)

  from_nodes : (ns : List Booting) → AreFrom t ns → AllFrom (deadlines ns)
  unfolding deadlines
  from_nodes [] h = All-nil (λ d. t ≤ d)
  from_nodes (n ∷ ns) h = All-append (λ d. t ≤ d) (moments_of (deadline_of n.stage)) (deadlines ns)
      (from_some (deadline_of n.stage) h.0) (from_nodes ns h.1)

  set_from : (ps : List Periodic) → AllFrom (next_moments ps) → AreSetFrom t ps
  set_from [] h = tt
  set_from (p ∷ ps) h =
      let both = splits (moments_of p.next) (next_moments ps) h in (some_from p.next both.0, set_from ps both.1)

  from_set : (ps : List Periodic) → AreSetFrom t ps → AllFrom (next_moments ps)
  from_set [] h = All-nil (λ d. t ≤ d)
  from_set (p ∷ ps) h = All-append (λ d. t ≤ d) (moments_of p.next) (next_moments ps) (from_some p.next h.0)
      (from_set ps h.1)

  pub from_ahead : (m : Manager) → IsAhead t m → IsFrom t m
  unfolding moments
  from_ahead m h =
      let both = splits (next_moments m.periodic) (deadlines m.nodes) h in
      record { periodic = set_from m.periodic both.0; nodes = nodes_from m.nodes both.1 }

  pub ahead_from : (m : Manager) → IsFrom t m → IsAhead t m
  unfolding moments
  ahead_from m h = All-append (λ d. t ≤ d) (next_moments m.periodic) (deadlines m.nodes)
      (from_set m.periodic h.periodic) (from_nodes m.nodes h.nodes)

-- ---- nothing happens before the first moment

not_due : (t : ℕ) (o : Option ℕ) → IfSome o (λ d. t + 1 ≤ d) → is_due t o ≡ false
not_due t None h = refl
not_due t (Some d) h = grind (arith, nat_tests)

quiet_time_outs : (t : ℕ) (m : Manager) → AreFrom (t + 1) m.nodes → time_outs t m ≡ (m, [])
unfolding time_outs
quiet_time_outs t m from = rw (quiet_nodes t m.nodes from, quiet_list t m.nodes from) refl

quiet_periodic : (t : ℕ) (ps : List Periodic) → AreSetFrom (t + 1) ps → map (periodic_after t) ps ≡ ps
quiet_periodic t [] h = refl
quiet_periodic t (p ∷ ps) h = rw (not_due t p.next h.0, quiet_periodic t ps h.1) refl

quiet_queue : (t number : ℕ) (ps : List Periodic) → AreSetFrom (t + 1) ps → (ws : List Waiting)
    → queue_after t number ps ws ≡ ws
quiet_queue t number [] h ws = refl
quiet_queue t number (p ∷ ps) h ws = rw (not_due t p.next h.0) (quiet_queue t number ps h.1 ws)

quiet_sending : (t : ℕ) (m : Manager) → AreSetFrom (t + 1) m.periodic → send_due t m ≡ m
quiet_sending t m h = rw (quiet_periodic t m.periodic h, quiet_queue t m.number m.periodic h m.waiting) refl

pub quiet : (t : ℕ) (m : Manager) → IsAhead (t + 1) m → timers t m ≡ (m, [])
unfolding timers
quiet t m h =
    let from = from_ahead (t + 1) m h in
    ap (λ (r : Manager × List Note). (send_due t r.0, r.1)) (quiet_time_outs t m from.nodes)
    ∙ ap (λ (n : Manager). (n, [])) (quiet_sending t m from.periodic)

-- ---- timers leave no moment up to theirs

waits_later : (t : ℕ) (o : Option ℕ) → is_at t o ≡ false → IfSome o (λ d. t ≤ d) → IfSome o (λ d. t + 1 ≤ d)
waits_later t None e h = tt
waits_later t (Some d) e h = grind (arith, nat_tests)

stays_later : (t : ℕ) (o : Option ℕ) → is_due t o ≡ false → IfSome o (λ d. t ≤ d) → IfSome o (λ d. t + 1 ≤ d)
stays_later t None e h = tt
stays_later t (Some d) e h = grind (arith, nat_tests)

later_of : (t : ℕ) (b : Bool) (n : Booting) (s : BootStage) → is_at t (deadline_of n.stage) ≡ b → deadline_of s ≡ None
    → IfSome (deadline_of n.stage) (λ d. t ≤ d)
    → IfSome (deadline_of (if b then record n { stage = s } else n).stage) (λ d. t + 1 ≤ d)
later_of t true n s e f h = rw f tt
later_of t false n s e f h = waits_later t (deadline_of n.stage) e h

ended : (s : BootStage) → deadline_of (sdo_time_out s).stage ≡ None
unfolding sdo_time_out
ended s = refl

nodes_later : (t : ℕ) (ns : List Booting) → AreFrom t ns → AreFrom (t + 1) (map (node_after t) ns)
nodes_later t [] h = tt
nodes_later t (n ∷ ns) h = (
  later_of t (is_timed_out t n.stage) n (sdo_time_out n.stage).stage refl (ended n.stage) h.0,
  nodes_later t ns h.1,
)

above_zero : (n : ℕ) → (n == 0) ≡ false → 1 ≤ n
above_zero n e = grind (arith, nat_tests)

period_by : (t period : ℕ) (b : Bool) → (period == 0) ≡ b
    → IfSome (if b then None else Some (t + period)) (λ d. t + 1 ≤ d)
period_by t period true e = tt
period_by t period false e = let h = above_zero period e in omega (arith, h)

period_later : (t period : ℕ) → IfSome (moment_after t period) (λ d. t + 1 ≤ d)
period_later t period = period_by t period (period == 0) refl

one_later : (t : ℕ) (p : Periodic) → IfSome p.next (λ d. t ≤ d) → IfSome (periodic_after t p).next (λ d. t + 1 ≤ d)
one_later t p h = by (is_due t p.next) refl
  where
    by : (b : Bool) → is_due t p.next ≡ b
        → IfSome (if b then record p { next = moment_after t p.period } else p).next (λ d. t + 1 ≤ d)
    by true e = period_later t p.period
    by false e = stays_later t p.next e h

set_later : (t : ℕ) (ps : List Periodic) → AreSetFrom t ps → AreSetFrom (t + 1) (map (periodic_after t) ps)
set_later t [] h = tt
set_later t (p ∷ ps) h = (one_later t p h.0, set_later t ps h.1)

pub due_later : (t : ℕ) (m : Manager) → IsAhead t m → IsAhead (t + 1) (timers t m).0
unfolding timers time_outs
due_later t m h =
    let from = from_ahead t m h in
    ahead_from (t + 1) (timers t m).0
    (record { periodic = set_later t m.periodic from.periodic; nodes = nodes_later t m.nodes from.nodes })

-- a command sets no moment
pub command_ahead : (t : ℕ) (command : NmtCommand) (node : ℕ) (m : Manager) → IsAhead t m
    → IsAhead t (with_command command node m)
unfolding moments
command_ahead t command node m h = h

-- ---- a frame, which sets no due moment before it

stage_from : (t i : ℕ) (ns : List Booting) (n : Booting) → AreFrom t ns → IsOpenFrom t n.stage
    → AreFrom t (slice_set ns i n)
stage_from t i [] n h k = h
stage_from t zero (x ∷ xs) n h k = (k, h.1)
stage_from t (suc i) (x ∷ xs) n h k = (h.0, stage_from t i xs n h.1 k)

at_from : (t i : ℕ) (ns : List Booting) → AreFrom t ns → IsOpenFrom t (node_at ns i).stage
at_from t i [] h = tt
at_from t zero (x ∷ xs) h = h.0
at_from t (suc i) (x ∷ xs) h = at_from t i xs h.1

pub frame_ahead : (image : Image) (t : ℕ) (frame : BaseFrame) (m : Manager) → IsAhead t m
    → IsAhead t (outcome (after_frame t frame m) image).0
frame_ahead image t frame m h =
    let from = from_ahead t m h in
    ahead_from t (outcome (after_frame t frame m) image).0
    (received_holds image t frame m (λ r read. IsFrom t r.0) from
    (λ i e o. record { periodic = from.periodic; nodes = from.nodes })
    (λ i e o. record {
      periodic = from.periodic;
      nodes = stage_from t i m.nodes _ from.nodes (boot_from image t (t + m.timeout)
          (node_at m.nodes i).number (omega arith));
    })
    (λ i e. record {
      periodic = from.periodic;
      nodes = stage_from t i m.nodes _ from.nodes (answer_from image t (t + m.timeout)
          (node_at m.nodes i).number (omega arith)
          (node_at m.nodes i).stage frame.bytes (at_from t i m.nodes from.nodes));
    }))
