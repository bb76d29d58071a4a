use Rattle.std.proofs.Common.{◌≡◌, ◌<◌, ℕ, List, Option, length, get_or, take, ap, ◌∙◌}
use Rattle.std.proofs.lemmas.List.{take_all}
use Rattle.co_dict.specs.declared.entry.Entry.{Entry}
use Rattle.co_dict.specs.Shapes.{Shaped}
use Rattle.eds_device.specs.Entries.{entry_at, shape_of}
use Rattle.eds_places.specs.Places.{pairs_of}
use Rattle.eds_device.proofs.MapLemmas.{has_none, has_more, has_all}
use Rattle.eds_device.proofs.data_sheet.DataSheet.common_shape.Goals as goal

pub loop-place-init : goal.loop-place-init
loop-place-init c = (
  λ node.
      let f : ℕ × ℕ → Option Entry = λ p. entry_at c.args.self.now node p.0 p.1 in
      rw (ap (λ (s : Shaped). s.entries) c.new-shape.ensures) (has_none f),
  ap (λ (s : Shaped). s.dummies) c.new-shape.ensures ∙ c.dummies.ensures,
)

pub loop-place-preserved : goal.loop-place-preserved
loop-place-preserved c =
    let ps : List (ℕ × ℕ) = c.pairs-place-items.result.now in
    let i : ℕ = c.loop-place.place-index in
    let d : ℕ × ℕ = (0, 0) in
    let lt : i < length (pairs_of c.args.self.now.sections) =
    rw c.pairs-place-items.ensures.pairs at c.loop-place-test.true in
    let is : get_or ps i d ≡ get_or (pairs_of c.args.self.now.sections) i d =
    ap (λ (xs : List (ℕ × ℕ)). get_or xs i d) c.pairs-place-items.ensures.pairs in
    let set = c.in_ok-fixed.ensures c.if-not-fixed.false in (
      λ node.
          let f : ℕ × ℕ → Option Entry = λ p. entry_at c.args.self.now node p.0 p.1 in
          has_more f c.loop-place.shape.entries c.add_fixed.new.shape.entries (pairs_of c.args.self.now.sections) i d
          (get_or ps i d) lt is (ap (λ (s : Shaped). s.entries) (set node)) (c.loop-place.invariant.0 node),
      ap (λ (s : Shaped). s.dummies) (set 0) ∙ c.loop-place.invariant.1,
    )

pub returns : goal.returns
unfolding shape_of
returns c =
    let ps = pairs_of c.args.self.now.sections in
    let all : take c.loop-place.place-index ps
    ≡ ps = take_all c.loop-place.place-index ps (rw c.pairs-place-items.ensures.pairs at c.loop-place-test.false) in
    λ node.
    let f : ℕ × ℕ → Option Entry = λ p. entry_at c.args.self.now node p.0 p.1 in
    let so_far = c.loop-place.invariant.0 node in
    let whole = has_all f c.loop-place.shape.entries ps (rw all at so_far) in
    let made : c.loop-place.shape ≡ shape_of c.args.self.now node =
    λ j. record { entries = whole j; dummies = c.loop-place.invariant.1 j } in
    c.in_ok-shape.ensures ∙ made
