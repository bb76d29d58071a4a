use Rattle.std.proofs.Common.{◌≡◌, ◌+◌, Some, false, length, nat_eq, refl, sym, ap, subst, ◌∙◌, arith}
use Rattle.std.proofs.lemmas.Option.{same_Some}
use Rattle.std.specs.Map.{lookup}
use Rattle.image_parts.specs.Asking.{reads}
use Rattle.can_bus.specs.Spans.{span}
use Rattle.kept_values.specs.LastUsed.{LastUsed, use_first}
use Rattle.co_segments.specs.declared.reached.Reached.{Reached}
use Rattle.co_segments.specs.declared.stock.Stock.{Stock}
use Rattle.co_segments.specs.declared.telling.Telling.{Telling}
use Rattle.co_segments.specs.Placed.{Placed, kept_of}
use Rattle.co_segments.specs.Progress.{progress, state_of}
use Rattle.co_segments.specs.Segments.{Runs, Serves}
use Rattle.co_segments.specs.Stocks.{StandsAt}
use Rattle.co_segments.proofs.AdvanceLemmas.{goes_wrong}
use Rattle.co_segments.proofs.PlacedLemmas.{kept_added, uses_held}
use Rattle.co_segments.proofs.StockLemmas.{segments_from_told, segments_later, stands_used}
use Rattle.co_segments.proofs.serving.search.Goals as goal

pub returns-in_err-found : goal.returns-in_err-found
returns-in_err-found g c =
    let f = c.in_err-found.ensures in
    let telling : Telling = record c.args.telling.now { look = c.find.new.look } in
    let new = progress c.find.new.stock telling c.args.meter.now c.find.new.parts in
    goes_wrong {new = new} c.from_residual.ensures.0 f.segments
    (ap (λ (x : LastUsed Placed). x.capacity) f.recent) f.kept (omega arith, omega arith)

pub use_held-requires-clause-settled : goal.use_held-requires-clause-settled
use_held-requires-clause-settled g c = rw c.in_ok-found.ensures.recent c.requires.settled

pub use_held-requires-clause-turn : goal.use_held-requires-clause-turn
use_held-requires-clause-turn g c =
    let f = c.in_ok-found.ensures in
    let found = rw c.in-Some.is at f.found in
    rw f.recent (found.0, (found.1.0, omega (arith, found.1.1.0, c.requires.stands.turn)))

pub returns-in_err-state-in-Some : goal.returns-in_err-state-in-Some
returns-in_err-state-in-Some g c =
    let f = c.in_ok-found.ensures in
    let same = c.in_err-state-in-Some.ensures.err in
    let before : Stock = c.find.new.stock in
    let after : Stock = record before { recent = c.use_held.new.recent } in
    let segments =
    segments_later before after (ap (λ (x : LastUsed Placed). x.entries) same) (omega arith, omega arith) f.segments in
    let telling : Telling = record { look = c.find.new.look; told = c.use_held.new.told } in
    let new = progress after telling c.args.meter.now c.find.new.parts in
    goes_wrong {new = new} c.from_residual-in_err-state-in-Some.ensures.0 segments
    (ap (λ (x : LastUsed Placed). x.capacity) (same ∙ f.recent)) f.kept (omega arith, omega arith)

pub returns-in_ok-state-in-Some : goal.returns-in_ok-state-in-Some
returns-in_ok-state-in-Some g c =
    let image = (g.P.Asked.seen c.args.parts.now).image in
    let old = c.args.stock.now.recent in
    let number = c.args.number in
    let key = c.in-Some.key in
    let here = c.args.here.state.bus in
    let f = c.in_ok-found.ensures in
    let found = rw c.in-Some.is at f.found in
    let e = c.in_ok-state-in-Some.ensures in
    let s = e.used.0 in
    let used = e.used.1.1 in
    let held : lookup (nat_eq key) old.entries ≡ Some s = rw f.recent at e.used.1.0 in
    let serves : Serves image number here s.kept =
    subst (λ (p : Placed). Serves image number here p.kept) (same_Some found.0 s (sym found.1.0 ∙ held)) found.1.1 in
    let first : c.use_held.new.recent ≡ use_first key old = rw f.recent at e.first in
    let before : Stock = c.find.new.stock in
    let after : Stock = record before { recent = c.use_held.new.recent } in
    let telling : Telling = record { look = c.find.new.look; told = c.use_held.new.told } in
    let end : Reached = record { state = c.in_ok-state-in-Some.state; is_new = false; apart = c.args.here.apart } in
    let stands : StandsAt image (number + 1) after c.find.new.look end =
    stands_used image before after number c.find.new.look c.args.here end key s f.stands e.used.1.0
    (ap (λ (x : LastUsed Placed). x.entries) e.first) (ap (λ (x : LastUsed Placed). x.turn) e.first) refl used.end_is
    refl in
    record {
      read = 0;
      advances = uses_held image old.capacity number
          (state_of here (progress c.args.stock.now c.args.telling.now c.args.meter.now c.args.parts.now) 0)
          (state_of end.state.bus (progress after telling c.args.meter.now c.find.new.parts) 0) key old.entries s
          c.requires.stands.told.sound c.len-count.ensures.fits held serves refl (λ i. record {
            bus = (used.end_is i).bus;
            held = kept_of (first i).entries;
            told = used.told_is i;
            work = c.args.meter.now;
            read = 0;
          });
      stands = stands;
      counted = omega (arith, f.counted);
      segments = segments_from_told image after c.find.new.look end.state stands.told;
      capacity = ap (λ (x : LastUsed Placed). x.capacity) first;
      kept = f.kept;
      rises = (omega arith, omega arith);
    }

pub run_new-requires : goal.run_new-requires
run_new-requires g c =
    let f = c.in_ok-found.ensures in
    record {
      settled = rw f.recent c.requires.settled;
      can = rw f.kept c.requires.can;
      stands = rw f.kept f.stands;
    }

pub returns-in_err-reached-in-None : goal.returns-in_err-reached-in-None
returns-in_err-reached-in-None g c =
    let f = c.in_ok-found.ensures in
    let e = c.in_err-reached-in-None.ensures in
    let same : c.run_new.new.stock.recent ≡ c.find.new.stock.recent = e.err in
    let segments =
    segments_later c.find.new.stock c.run_new.new.stock (ap (λ (x : LastUsed Placed). x.entries) same) e.more f.segments
    in
    let new = progress c.run_new.new.stock c.run_new.new.telling c.ran.new.self c.run_new.new.parts in
    goes_wrong {new = new} c.from_residual-in_err-reached-in-None.ensures.0 segments
    (ap (λ (x : LastUsed Placed). x.capacity) (same ∙ f.recent)) (rw e.kept f.kept) c.ran.ensures.rises

pub returns-in_ok-reached-in-None : goal.returns-in_ok-reached-in-None
returns-in_ok-reached-in-None g c =
    let image = (g.P.Asked.seen c.args.parts.now).image in
    let old = c.args.stock.now.recent in
    let f = c.in_ok-found.ensures in
    let e = c.in_ok-reached-in-None.ensures in
    let s = e.ran.0 in
    let run = rw f.kept at e.ran.1.0 in
    let first = rw f.recent at e.ran.1.1 in
    let tells = e.ran.1.2 in
    let stale = rw c.in-None.is at f.found in
    let counted = rw f.kept at e.counted in
    let stands = rw f.kept at e.stands in
    let read = 0 + length (reads (span c.args.number c.args.here.state.bus) image) in
    record {
      read = read;
      advances = Runs s.kept stale run (λ i. record {
        bus = (tells.end_is i).bus;
        held = (ap (λ (x : LastUsed Placed). kept_of x.entries) first
            ∙ kept_added old.capacity old.given s old.entries) i;
        told = tells.told_is i;
        work = c.ran.ensures.counted i;
        read = read;
      });
      stands = stands;
      counted = omega (arith, counted, f.counted);
      segments = segments_from_told image c.run_new.new.stock c.run_new.new.telling.look
          c.in_ok-reached-in-None.reached.state stands.told;
      capacity = ap (λ (x : LastUsed Placed). x.capacity) first;
      kept = rw e.kept f.kept;
      rises = c.ran.ensures.rises;
    }
