use Rattle.std.proofs.Common.{◌≡◌, ℕ, ◌+◌, Some, drop, false, nat_eq, slice_get, refl, sym, ap, subst, ◌∙◌, arith}
use Rattle.std.proofs.lemmas.Bool.{false≢true}
use Rattle.std.proofs.lemmas.Option.{same_Some}
use Rattle.std.specs.Map.{lookup}
use Rattle.kept_values.specs.LastUsed.{LastUsed, use_first}
use Rattle.co_segments.specs.declared.reached.Reached.{Reached}
use Rattle.co_segments.specs.declared.stock.Stock.{Stock}
use Rattle.co_segments.specs.declared.telling.Telling.{Telling}
use Rattle.co_segments.specs.Placed.{Placed, kept_of}
use Rattle.co_segments.specs.Progress.{progress, state_of}
use Rattle.co_segments.specs.Segments.{Serves}
use Rattle.co_segments.specs.Stocks.{StandsAt}
use Rattle.co_segments.proofs.AdvanceLemmas.{goes_from, goes_wrong}
use Rattle.co_segments.proofs.NumberedLemmas.{all_stale, first_recorded, none_passed, numbered_recorded}
use Rattle.co_segments.proofs.PlacedLemmas.{uses_held}
use Rattle.co_segments.proofs.StockLemmas.{segments_from_told, segments_later, stands_used}
use Rattle.co_segments.proofs.serving.advance.Goals as goal

pub returns-in_err-ahead : goal.returns-in_err-ahead
returns-in_err-ahead g c =
    let l = c.in_err-ahead.ensures in
    let telling : Telling = record c.args.telling.now { look = c.look_ahead.new.look } in
    let new = progress c.look_ahead.new.stock telling c.args.meter.now c.look_ahead.new.parts in
    goes_wrong {new = new} c.from_residual.ensures.0 l.segments
    (ap (λ (x : LastUsed Placed). x.capacity) l.recent) l.kept (omega arith, omega arith)

pub follow-requires : goal.follow-requires
follow-requires g c =
    let l = c.in_ok-ahead.ensures in
    let a = rw c.in-Some-true.is at l.answer in
    rw l.recent (a.entry, a.next)

pub returns-in_err-state-in-Some-true : goal.returns-in_err-state-in-Some-true
returns-in_err-state-in-Some-true g c =
    let l = c.in_ok-ahead.ensures in
    let same = c.in_err-state-in-Some-true.ensures.err in
    let before : Stock = c.look_ahead.new.stock in
    let after : Stock = record before { recent = c.follow.new.recent } in
    let segments =
    segments_later before after (ap (λ (x : LastUsed Placed). x.entries) same) (omega arith, omega arith) l.segments in
    let telling : Telling = record { look = c.look_ahead.new.look; told = c.follow.new.told } in
    let new = progress after telling c.args.meter.now c.look_ahead.new.parts in
    goes_wrong {new = new} c.from_residual-in_err-state-in-Some-true.ensures.0 segments
    (ap (λ (x : LastUsed Placed). x.capacity) (same ∙ l.recent)) l.kept (omega arith, omega arith)

pub returns-in_ok-state-in-Some-true : goal.returns-in_ok-state-in-Some-true
returns-in_ok-state-in-Some-true g c =
    let image = (g.P.Asked.seen c.args.parts.now).image in
    let old = c.args.stock.now.recent in
    let number = c.args.number in
    let here = c.args.here.state.bus in
    let l = c.in_ok-ahead.ensures in
    let a = rw c.in-Some-true.is at l.answer in
    let e = c.in_ok-state-in-Some-true.ensures in
    let u : ℕ × Placed = e.used.0 in
    let used = e.used.1.1 in
    let next : slice_get old.ahead 0 ≡ Some u = rw l.recent at e.used.1.0 in
    let same : a.entry ≡ u = same_Some a.entry u (sym a.next ∙ next) in
    let held : lookup (nat_eq u.0) old.entries ≡ Some u.1 =
    subst (λ (x : ℕ × Placed). lookup (nat_eq x.0) old.entries ≡ Some x.1) same a.held in
    let serves : Serves image number here u.1.kept =
    subst (λ (x : ℕ × Placed). Serves image number here x.1.kept) same (a.answer.0 c.in-Some-true.field-0-test) in
    let before : Stock = c.look_ahead.new.stock in
    let after : Stock = record before { recent = c.follow.new.recent } in
    let telling : Telling = record { look = c.look_ahead.new.look; told = c.follow.new.told } in
    let moved = e.first u e.used.1.0 in
    let first : c.follow.new.recent ≡ record (use_first u.0 old) { ahead = drop 1 old.ahead } = rw l.recent at moved in
    let end : Reached = record {
      state = c.in_ok-state-in-Some-true.state;
      is_new = false;
      apart = c.args.here.apart;
    } in
    let look = c.look_ahead.new.look in
    let stands : StandsAt image (number + 1) after look end =
    stands_used image before after number look c.args.here end u.0 u.1 l.stands (rw l.recent held)
    (ap (λ (x : LastUsed Placed). x.entries) moved) (ap (λ (x : LastUsed Placed). x.turn) moved) refl used.end_is refl in
    record {
      read = 0;
      advances = uses_held image old.capacity number
          (state_of here (progress c.args.stock.now c.args.telling.now c.args.meter.now c.args.parts.now) 0)
          (state_of end.state.bus (progress after telling c.args.meter.now c.look_ahead.new.parts) 0) u.0 old.entries u.1
          c.requires.stands.told.sound c.len-count.ensures.fits held serves refl (λ i. record {
            bus = (used.end_is i).bus;
            held = kept_of (first i).entries;
            told = used.told_is i;
            work = c.args.meter.now;
            read = 0;
          });
      stands = stands;
      counted = omega (arith, a.counted, first_recorded number old.entries a.entry a.first);
      segments = segments_from_told image after look end.state stands.told;
      capacity = ap (λ (x : LastUsed Placed). x.capacity) first;
      kept = l.kept;
      rises = (omega arith, omega arith);
    }

pub pass_on-requires : goal.pass_on-requires
pass_on-requires g c =
    let image = (g.P.Asked.seen c.args.parts.now).image in
    let es = c.args.stock.now.recent.entries in
    let l = c.in_ok-ahead.ensures in
    let a = rw c.in-Some-false.is at l.answer in
    record {
      passed = rw (l.kept, l.recent) (none_passed image c.args.number c.args.here.state.bus es a.entry.0 a.entry.1
          a.first (λ k. false≢true (sym c.in-Some-false.field-0-test ∙ a.answer.1 k)));
      can = rw l.kept c.requires.can;
      stands = rw l.kept l.stands;
    }

pub returns-in_err-end-in-Some-false : goal.returns-in_err-end-in-Some-false
returns-in_err-end-in-Some-false g c =
    let l = c.in_ok-ahead.ensures in
    let e = c.in_err-end-in-Some-false.ensures in
    let after = c.pass_on.new in
    let new = progress after.stock after.telling after.meter after.parts in
    goes_wrong {new = new} c.from_residual-in_err-end-in-Some-false.ensures.0 e.segments
    (omega (arith, e.capacity, ap (λ (x : LastUsed Placed). x.capacity) l.recent)) (rw e.kept l.kept) e.rises

pub returns-in_ok-end-in-Some-false : goal.returns-in_ok-end-in-Some-false
returns-in_ok-end-in-Some-false g c =
    let l = c.in_ok-ahead.ensures in
    let a = rw c.in-Some-false.is at l.answer in
    let few = first_recorded c.args.number c.args.stock.now.recent.entries a.entry a.first in
    let telling : Telling = record c.args.telling.now { look = c.look_ahead.new.look } in
    let between = progress c.look_ahead.new.stock telling c.args.meter.now c.look_ahead.new.parts in
    let after = c.pass_on.new in
    let new = progress after.stock after.telling after.meter after.parts in
    goes_from {between = between} {new = new} c.in_ok-end-in-Some-false.ensures
    (ap (λ (x : LastUsed Placed). kept_of x.entries) l.recent) (ap (λ (x : LastUsed Placed). x.capacity) l.recent)
    refl refl l.kept (rw l.recent (omega (arith, a.counted, few)))

pub pass_on-requires-in-None : goal.pass_on-requires-in-None
pass_on-requires-in-None g c =
    let image = (g.P.Asked.seen c.args.parts.now).image in
    let l = c.in_ok-ahead.ensures in
    record {
      passed = rw (l.kept, l.recent)
          (all_stale image c.args.number c.args.here.state.bus c.args.stock.now.recent.entries);
      can = rw l.kept c.requires.can;
      stands = rw l.kept l.stands;
    }

pub returns-in_err-end-in-None : goal.returns-in_err-end-in-None
returns-in_err-end-in-None g c =
    let l = c.in_ok-ahead.ensures in
    let e = c.in_err-end-in-None.ensures in
    let after = c.pass_on-in-None.new in
    let new = progress after.stock after.telling after.meter after.parts in
    goes_wrong {new = new} c.from_residual-in_err-end-in-None.ensures.0 e.segments
    (omega (arith, e.capacity, ap (λ (x : LastUsed Placed). x.capacity) l.recent)) (rw e.kept l.kept) e.rises

pub returns-in_ok-end-in-None : goal.returns-in_ok-end-in-None
returns-in_ok-end-in-None g c =
    let l = c.in_ok-ahead.ensures in
    let a = rw c.in-None.is at l.answer in
    let few = numbered_recorded c.args.number c.args.stock.now.recent.entries in
    let telling : Telling = record c.args.telling.now { look = c.look_ahead.new.look } in
    let between = progress c.look_ahead.new.stock telling c.args.meter.now c.look_ahead.new.parts in
    let after = c.pass_on-in-None.new in
    let new = progress after.stock after.telling after.meter after.parts in
    goes_from {between = between} {new = new} c.in_ok-end-in-None.ensures
    (ap (λ (x : LastUsed Placed). kept_of x.entries) l.recent) (ap (λ (x : LastUsed Placed). x.capacity) l.recent)
    refl refl l.kept (rw l.recent (omega (arith, a.1, few)))
