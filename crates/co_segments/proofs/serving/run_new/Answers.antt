use Rattle.std.proofs.Common.{List, ℕ, ◌≡◌, ◌+◌, refl, sym, ap, subst, ◌∙◌, arith}
use Rattle.can_bus.specs.Bus.{Bus}
use Rattle.can_bus.specs.declared.line.Line.{Line}
use Rattle.trace_spans.specs.Reads.{Recorded}
use Rattle.kept_values.specs.LastUsed.{LastUsed}
use Rattle.co_segments.specs.declared.stock.Stock.{Stock}
use Rattle.co_segments.specs.Placed.{IsEndNumber, Numbered, Placed, placed_of}
use Rattle.co_segments.proofs.PlacedLemmas.{new_added, reached_bus}
use Rattle.co_segments.proofs.StockLemmas.{told_reached}
use Rattle.co_segments.proofs.ValidLemmas.{sound_from_run}
use Rattle.co_segments.proofs.serving.run_new.Goals as goal

same_placed : (number : ℕ) (start : Numbered) (reads : List Recorded) (lines told : List Line) (end copy : Numbered)
    → lines ≡ told → copy ≡ end → placed_of number start reads lines copy ≡ placed_of number start reads told end
same_placed number start reads lines told end copy l e =
    ap (λ (n : Numbered). placed_of number start reads lines n) e
    ∙ ap (λ (k : List Line). placed_of number start reads k end) l

pub run-requires-clause-known : goal.run-requires-clause-known
run-requires-clause-known g c =
    let h = c.requires.stands.told in
    (h.meaning.contents, h.known)

pub returns-clause-ran : goal.returns-clause-ran
returns-clause-ran g c =
    let ran = c.in_ok-ran.ran in
    let end = c.in_ok-end.end.state in
    let lines : c.in_ok-lines.lines ≡ ran.told = c.in_ok-lines.ensures in
    let placed : c.new-segment.result ≡ placed_of c.args.number c.args.here.state ran.reads.items ran.told end =
    c.new-segment.ensures ∙ same_placed c.args.number c.args.here.state ran.reads.items c.in_ok-lines.lines ran.told
    end c.in_ok-copy.copy lines c.in_ok-copy.ensures in
    let bus : end.bus ≡ ran.end = reached_bus _ _ _ ran.end end c.in_ok-end.ensures.reached in (
      placed_of c.args.number c.args.here.state ran.reads.items ran.told end,
      (
        record {
          number_is = refl;
          start_is = refl;
          gives = rw bus (rw c.bus.ensures at c.in_ok-ran.ensures.gives);
          recorded = rw c.bus.ensures at c.in_ok-ran.ensures.recorded;
        },
        rw placed at c.in_ok-add-2.ensures.ok,
        record { end_is = refl; told_is = rw (c.in_ok-share.ensures, lines) at c.in_ok-add.ensures.added },
      ),
    )

pub returns-clause-stands : goal.returns-clause-stands
returns-clause-stands g c =
    let image = (g.P.Asked.seen c.args.parts.now).image in
    let old : Stock = c.args.stock.now in
    let new : Stock = record old {
      recent = c.add-2.new.self;
      given = record { buses = c.reach.new.given; contents = c.run.new.given };
    } in
    let h = c.requires.stands.told in
    let number = c.args.number in
    let start = c.args.here.state in
    let ran = c.in_ok-ran.ran in
    let end = c.in_ok-end.end.state in
    let lines : c.in_ok-lines.lines ≡ ran.told = c.in_ok-lines.ensures in
    let placed : c.new-segment.result ≡ placed_of number start ran.reads.items ran.told end =
    c.new-segment.ensures ∙ same_placed number start ran.reads.items c.in_ok-lines.lines ran.told end
    c.in_ok-copy.copy lines c.in_ok-copy.ensures in
    let first = rw placed at c.in_ok-add-2.ensures.ok in
    let bus : end.bus ≡ ran.end = reached_bus _ _ _ ran.end end c.in_ok-end.ensures.reached in
    let reached : IsEndNumber old.recent.entries old.given.buses c.reach.new.given end.bus end =
    subst (λ (b : Bus). IsEndNumber old.recent.entries old.given.buses c.reach.new.given b end) (sym bus)
    c.in_ok-end.ensures.reached in
    let kept = (placed_of number start ran.reads.items ran.told end).kept in
    let sound = sound_from_run image number start.bus kept (record {
      number_is = refl;
      start_is = refl;
      gives = rw bus (rw c.bus.ensures at c.in_ok-ran.ensures.gives);
      recorded = rw c.bus.ensures at c.in_ok-ran.ensures.recorded;
    }) in
    record {
      turn = ap (λ (x : LastUsed Placed). x.turn) first ∙ ap (λ n. n + 1) c.requires.stands.turn;
      told = told_reached image old new c.args.telling.now.look c.run.new.now start end kept ran.reads.items h sound
          refl refl (c.in_ok-ran.ensures.known h.meaning.contents h.known) first reached;
      new = λ k. rw c.in_ok-add-2.ensures.ok (new_added old.recent.capacity old.recent.given c.new-segment.result
          old.recent.entries (number + 1) end.bus
          (λ n. omega (arith, sym (ap (λ (p : Placed). p.kept.number) c.new-segment.ensures) ∙ n))
          (rw bus (c.in_ok-end.ensures.new k)));
    }
