-- The events that do nothing are found.
use Rattle.std.proofs.Common.{◌≡◌, ℕ, Bool, true, false, filter_map, Contains, Some, None, refl, ap, subst}
use Rattle.std.specs.Prelude.{if◌then◌else◌}
use Rattle.std.specs.FinMap.{entries}
use Rattle.std.proofs.lemmas.Cmp.{nat_cmp_total}
use Rattle.std.proofs.lemmas.Map.Lookups.{exact_unsigned}
use Rattle.node_parameters.proofs.WrittenLemmas.{Contains-filter_map, from_filter_map}
use Rattle.co_scenario.specs.declared.timed_event.TimedEvent.{TimedEvent}
use Rattle.co_project.specs.Project.{Content}
use Rattle.diag_lines.specs.declared.code.Code.TheVariants.{IdleEvent}
use Rattle.diag_lines.specs.declared.diag.Diag.{Diag}
use Rattle.diag_lines.specs.declared.subject.Subject.TheVariants as of
use Rattle.diag_nodes.specs.Found.{diagnostic}
use Rattle.co_diag.specs.Found.{idle_event}
use Rattle.co_diag.specs.Holds.{HasIdleEvent, HoldsOf, Holds, is_idle}
use Rattle.diag_nodes.proofs.MemberLemmas.{at_entry, entry_of}

-- what is found of an event that does nothing
idle_by : (p : Content) (number : ℕ) (e : TimedEvent) (d : Diag) → idle_event p (number, e) ≡ Some d
    → (is_idle p e.event ≡ true) × (diagnostic IdleEvent (of.Event number) ≡ d)
idle_by p number e d h = by (is_idle p e.event) refl h
  where
    by : (t : Bool) → is_idle p e.event ≡ t
        → (if t then Some (diagnostic IdleEvent (of.Event number)) else None) ≡ Some d
        → (is_idle p e.event ≡ true) × (diagnostic IdleEvent (of.Event number) ≡ d)
    by true idle h = let same : diagnostic IdleEvent (of.Event number) ≡ d = cc in (idle, same)
    by false idle h = cc

pub idle_hold : (p : Content) (d : Diag) → Contains (filter_map (idle_event p) (entries p.events)) d → Holds p d
unfolding Holds
idle_hold p d c =
    let one = from_filter_map (idle_event p) (entries p.events) d c in
    let found = idle_by p one.0.0 one.0.1 d one.2 in
    let holds : HasIdleEvent p one.0.0 = record {
      timed = one.0.1;
      there = at_entry nat_cmp_total exact_unsigned p.events one.0 one.1;
      idle = found.0;
    } in
    subst (λ (x : Diag). HoldsOf p x.code x.subject) found.1 holds

pub idle_listed : (p : Content) (number : ℕ) → HasIdleEvent p number
    → Contains (filter_map (idle_event p) (entries p.events)) (diagnostic IdleEvent (of.Event number))
idle_listed p number h =
    let d : Diag = diagnostic IdleEvent (of.Event number) in
    Contains-filter_map (idle_event p) (entries p.events) (number, h.timed) d
    (entry_of nat_cmp_total exact_unsigned p.events number h.timed h.there)
    (ap (λ (t : Bool). if t then Some d else None) h.idle)
