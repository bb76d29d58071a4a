use Rattle.std.proofs.Common.{arith, rules, ◌≡◌, ◌∙◌, ◌+◌, ◌*◌, ℕ, ap, subst}
use Rattle.co_scenario.specs.Scenario.{events_between, Events}
use Rattle.kept_parts.proofs.AllLemmas.{windows_more, windows_start, WindowsSoFar}
use Rattle.kept_parts.proofs.kept_parts.KeptParts.bring_windows.Goals as goal

pub loop-i-init : goal.loop-i-init
loop-i-init c =
    let left : c.as_slice-left.result.now ≡ events_between 0 10009999 c.events-script.result.now = search rules in
    record {
      so_far = windows_start c.args.project.now c.args.self.now c.args.meter.now c.requires.devices c.requires.is_of;
      left = left;
    }

pub keep_window-requires : goal.keep_window-requires
keep_window-requires c = record {
  is_of = c.loop-i.invariant.so_far.is;
  number = omega (arith, c.loop-i-test.true);
  devices = c.loop-i.invariant.so_far.holds;
  moments =
      c.window_split.ensures.window
      ∙ ap (λ (i : ℕ). events_between (10000 * i) (10000 * i + 9999) c.events-script.result.now) c.from.ensures
      ∙ ap (λ (events : Events). events_between (10000 * c.loop-i.i) (10000 * c.loop-i.i + 9999) events)
      c.events-script.ensures;
}

pub loop-i-preserved : goal.loop-i-preserved
loop-i-preserved c = record {
  so_far = windows_more c.args.project.now c.loop-i.i c.args.self.now c.loop-i.self c.keep_window.new.self
      c.args.meter.now c.loop-i.meter c.keep_window.new.meter c.loop-i.invariant.so_far
      c.in_ok-keep_window.ensures.brings c.in_ok-keep_window.ensures.devices c.in_ok-keep_window.ensures.is_of;
  left =
      c.window_split.ensures.after
      ∙ ap (λ (i : ℕ). events_between (10000 * (i + 1)) 10009999 c.events-script.result.now) c.from.ensures;
}

pub returns-clause-brings : goal.returns-clause-brings
returns-clause-brings c =
    let last : c.loop-i.i ≡ 1001 = omega (arith, c.loop-i-test.false) in
    (subst (λ (i : ℕ). WindowsSoFar c.args.project.now i c.args.self.now c.loop-i.self c.args.meter.now c.loop-i.meter)
    last c.loop-i.invariant.so_far).brought

pub returns-clause-is_of : goal.returns-clause-is_of
returns-clause-is_of c = c.loop-i.invariant.so_far.is
