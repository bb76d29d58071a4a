use Rattle.std.proofs.Common.{arith, refl, sym, ap, ◌∙◌, ◌<◌, ◌≤◌, ◌≡◌, ◌+◌, ◌-◌}
use Rattle.std.proofs.lemmas.Bool.{false≢true}
use Rattle.std.proofs.lemmas.List.{append-nil}
use Rattle.image_parts.specs.Asking.{outcome}
use Rattle.image_parts.proofs.LoopLemmas.{turned_told}
use Rattle.can_bus.specs.Spans.{span}
use Rattle.can_bus.specs.Bus.{blank_bus}
use Rattle.trace_spans.proofs.SpanLemmas.{span_ready}
use Rattle.co_segments.specs.declared.stock.Stock.{Stock}
use Rattle.co_segments.specs.Placed.{Numbered, kept_of}
use Rattle.co_segments.specs.Progress.{progress, state_of}
use Rattle.co_segments.specs.Segments.{Advances, at_power_on, recorded_from, recorded_of}
use Rattle.co_segments.specs.Stocks.{held_in}
use Rattle.co_segments.proofs.RecordedLemmas.{recorded_left}
use Rattle.co_segments.proofs.StockLemmas.{segments_fewer, segments_from_told, segments_later, told_new}
use Rattle.co_segments.proofs.TracedLemmas.{advances_gives, traced_more}
use Rattle.co_segments.proofs.WindowLemmas.{none_left}
use Rattle.co_segments.proofs.store.tell_spans.Goals as goal

pub returns-in_err-begin-clause-segments : goal.returns-in_err-begin-clause-segments
returns-in_err-begin-clause-segments g c =
    let before : Stock = c.args.stock.now in
    let after : Stock = record before { recent = c.begin.new.self } in
    segments_fewer before after c.begin.ensures.fewer refl c.requires.segments

pub returns-in_err-state-clause-segments : goal.returns-in_err-state-clause-segments
returns-in_err-state-clause-segments g c =
    let before : Stock = c.args.stock.now in
    let after : Stock = record before {
      recent = c.begin.new.self;
      given = record before.given { buses = c.give.new.given };
    } in
    segments_later before after c.in_ok-begin.ensures.ok.0 (omega (arith, c.in_err-state.ensures.err), omega arith)
    c.requires.segments

pub loop-number-init : goal.loop-number-init
loop-number-init g c =
    let image = (g.P.Asked.seen c.args.parts.now).image in
    let begun = c.in_ok-begin.ensures in
    let before : Stock = c.args.stock.now in
    let after : Stock = record before {
      recent = c.begin.new.self;
      given = record before.given { buses = c.give.new.given };
    } in
    let entries : c.begin.new.self.entries ≡ before.recent.entries = begun.ok.0 in
    let given = c.in_ok-state.ensures in
    let bus : c.in_ok-state.state.bus ≡ blank_bus = ap (λ (n : Numbered). n.bus) given.is ∙ c.new-bus.ensures in
    let telling = c.new-telling.ensures in
    let whole : c.args.count - 0 ≡ c.args.count = omega arith in
    record {
      lines = rw (telling.told, bus, whole) refl;
      traced = (
        0,
        (
          λ i. record { bus = bus i; held = kept_of (entries i); told = telling.told i; work = c.args.meter.now; read = 0 },
          rw entries (omega arith),
        ),
      );
      ready = λ h. absurd (omega (arith, h));
      stands = record {
        turn = begun.ok.1;
        told = told_new image before after c.new-telling.result.look c.in_ok-state.state c.new-bus.result
            c.requires.segments entries given.is given.ok refl telling.known;
        new = λ h. absurd (false≢true h);
      };
      capacity = begun.capacity;
      kept = refl;
      rises = (omega arith, omega arith);
    }

pub advance-requires : goal.advance-requires
advance-requires g c =
    let old = c.loop-number.invariant in
    record {
      can = rw old.kept (record {
        within = omega (arith, c.loop-number-test.true, c.requires.within);
        image_is = c.requires.image;
        ready = old.ready;
      });
      stands = rw old.kept old.stands;
    }

pub loop-number-preserved : goal.loop-number-preserved
loop-number-preserved g c =
    let image = (g.P.Asked.seen c.args.parts.now).image in
    let old = c.loop-number.invariant in
    let number = c.loop-number.number in
    let here = c.loop-number.here.state.bus in
    let after = c.in_ok-end.end.state.bus in
    let capacity = c.args.stock.now.recent.capacity in
    let start = at_power_on (held_in c.args.stock.now) c.args.meter.now in
    let e = c.in_ok-end.ensures in
    let before = progress c.loop-number.stock c.loop-number.telling c.loop-number.meter c.loop-number.parts in
    let later = progress c.advance.new.stock c.advance.new.telling c.advance.new.meter c.advance.new.parts in
    let next = state_of after later e.read in
    let is : Advances image capacity number (state_of here before 0) next = rw (old.kept, old.capacity) at e.advances in
    let gives = advances_gives image capacity number (state_of here before 0) next is in
    let turned : after ≡ (outcome (span number here) image).0 = gives.0 in
    let within : number < c.args.count = omega arith in
    let left : recorded_from (number + 1) (held_in later.stock) + recorded_of number (held_in before.stock)
    ≤ recorded_from number (held_in before.stock) = recorded_left image capacity number (state_of here before 0) next is in
    record {
      lines = turned_told span number c.args.count here after image within turned before.telling.told later.telling.told
          gives.1 ∙ old.lines;
      traced = (
        old.traced.0 + e.read,
        (
          traced_more image capacity start number (state_of here before old.traced.0) next old.traced.1.0 is,
          omega (arith, old.traced.1.1, e.counted, c.let_go.ensures.asks, left),
        ),
      );
      ready = λ h. rw turned (span_ready image c.requires.image number here old.ready);
      stands = rw old.kept at e.stands;
      capacity = e.capacity ∙ old.capacity;
      kept = c.let_go.ensures.image ∙ e.kept ∙ old.kept;
      rises = (omega (arith, old.rises.0, e.rises.0), omega (arith, old.rises.1, e.rises.1));
    }

pub returns-in_err-end-clause-segments : goal.returns-in_err-end-clause-segments
returns-in_err-end-clause-segments g c = c.in_err-end.ensures.segments

pub returns-clause-lines : goal.returns-clause-lines
returns-clause-lines g c =
    let image = (g.P.Asked.seen c.args.parts.now).image in
    let old = c.loop-number.invariant in
    let e = none_left image c.loop-number.number c.args.count c.loop-number.here.state.bus c.loop-number-test.false in
    sym (append-nil c.loop-number.telling.told) ∙ (rw e at old.lines)

pub returns-clause-traced : goal.returns-clause-traced
returns-clause-traced g c =
    let old = c.loop-number.invariant in
    let all : c.loop-number.number ≡ c.args.count = omega arith in
    let last = progress c.loop-number.stock c.loop-number.telling c.loop-number.meter c.loop-number.parts in (
      state_of c.loop-number.here.state.bus last old.traced.0,
      (rw (← all) old.traced.1.0, refl, refl, refl, omega (arith, old.traced.1.1)),
    )

pub returns-clause-segments : goal.returns-clause-segments
returns-clause-segments g c =
    let image = (g.P.Asked.seen c.args.parts.now).image in
    segments_from_told image c.loop-number.stock c.loop-number.telling.look c.loop-number.here.state
    c.loop-number.invariant.stands.told
