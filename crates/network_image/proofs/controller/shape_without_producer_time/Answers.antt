use Rattle.std.proofs.Common.{◌≡◌, ◌<◌, ℕ, List, length, get_or, take, sym, ap, ◌∙◌}
use Rattle.std.proofs.lemmas.List.{take_all}
use Rattle.std.specs.FinMap.{FinMap, get, remove}
use Rattle.co_dict.specs.Places.{place_cmp}
use Rattle.co_dict.specs.Shapes.{Shaped}
use Rattle.co_dict.specs.declared.entry.Entry.{Entry}
use Rattle.eds_device.specs.Entries.{entry_at, shape_of}
use Rattle.eds_device.specs.Places.{pairs_of}
use Rattle.eds_device.proofs.MapLemmas.{has_more, has_none}
use Rattle.project_plan.specs.Controller.{producer_time}
use Rattle.network_image.proofs.ControllerLemmas.{found_none, rebuilt, removed_none}
use Rattle.network_image.proofs.controller.shape_without_producer_time.Goals as goal

abbrev with_entries : Shaped → FinMap place_cmp Entry → Shaped
with_entries shape entries = record shape { entries = entries }

pub returns-then-is_none : goal.returns-then-is_none
returns-then-is_none c =
    ap (with_entries c.args.shape)
    (sym (removed_none c.args.shape.entries producer_time
    (found_none c.entry.result (get c.args.shape.entries producer_time) c.if-is_none.ensures c.entry.ensures)))

pub loop-place-init : goal.loop-place-init
loop-place-init c = (
  rw (ap (λ (s : Shaped). s.entries) c.new-held.ensures) (has_none (get (remove c.args.shape.entries producer_time))),
  ap (λ (s : Shaped). s.dummies) c.new-held.ensures ∙ c.dummies_of.ensures,
)

pub loop-place-preserved : goal.loop-place-preserved
loop-place-preserved c =
    let ps : List (ℕ × ℕ) = c.pairs-place-items.result.now in
    let all : List (ℕ × ℕ) = pairs_of c.args.device.now.sections in
    let i : ℕ = c.loop-place.place-index in
    let d : ℕ × ℕ = (0, 0) in
    let lt : i < length all = rw c.pairs-place-items.ensures.pairs at c.loop-place-test.true in
    let is : get_or ps i d ≡ get_or all i d =
    ap (λ (xs : List (ℕ × ℕ)). get_or xs i d) c.pairs-place-items.ensures.pairs in (
      has_more (get (remove c.args.shape.entries producer_time)) c.loop-place.held.entries c.add_entry.new.held.entries all i
          d (get_or ps i d) lt is (ap (λ (s : Shaped). s.entries) c.in_ok-add_entry.ensures) c.loop-place.invariant.0,
      ap (λ (s : Shaped). s.dummies) c.in_ok-add_entry.ensures ∙ c.loop-place.invariant.1,
    )

pub returns : goal.returns
unfolding shape_of
returns c =
    let all : List (ℕ × ℕ) = pairs_of c.args.device.now.sections in
    let whole : take c.loop-place.place-index all
    ≡ all = take_all c.loop-place.place-index all (rw c.pairs-place-items.ensures.pairs at c.loop-place-test.false) in
    let entries =
    rebuilt (λ p. entry_at c.args.device.now c.args.node p.0 p.1) all c.args.shape.entries c.loop-place.held.entries
    producer_time (ap (λ (s : Shaped). s.entries) c.requires) (rw whole at c.loop-place.invariant.0) in
    let dummies = c.loop-place.invariant.1 ∙ sym (ap (λ (s : Shaped). s.dummies) c.requires) in
    λ j. record { entries = entries j; dummies = dummies j }
