-- What a store holds, and where a trace stands.
use Rattle.std.proofs.Common.{◌≡◌, ℕ, ◌+◌, ◌≤◌, false, inl, inr, List, [], ◌∷◌, take, Contains, None, Some, nat_eq}
use Rattle.std.proofs.Common.{sym, ap, subst, ◌∙◌, arith}
use Rattle.std.proofs.lemmas.Bool.{false≢true}
use Rattle.std.specs.Map.{lookup}
use Rattle.lru.specs.LruCache.{promoted}
use Rattle.kept_values.specs.LastUsed.{LastUsed, put_first}
use Rattle.kept_values.proofs.EntryLemmas.{none_in}
use Rattle.can_bus.specs.Bus.{Bus, blank_bus}
use Rattle.image_parts.specs.Contents.{Image, RosterIs}
use Rattle.image_parts.specs.declared.part.Part.{Part}
use Rattle.trace_spans.specs.Numbers.{KeepsMeaning, StandsFor, with_meaning}
use Rattle.trace_spans.specs.Reads.{AreNumbered, AreMarked, LearnsMore, Known, Recorded}
use Rattle.trace_spans.proofs.NumberLemmas.{given_keeps, given_stands, keeps_all, stands_later}
use Rattle.trace_spans.specs.declared.look.Look.{Look}
use Rattle.co_segments.specs.declared.numbers_given.NumbersGiven.{NumbersGiven}
use Rattle.co_segments.specs.declared.reached.Reached.{Reached}
use Rattle.co_segments.specs.declared.stock.Stock.{Stock}
use Rattle.co_segments.specs.Placed.{AreNamed, AreSound, IsLater, IsMore, IsNamed, ServesNone, IsEndNumber}
use Rattle.co_segments.specs.Placed.{Meaning, Numbered, Placed}
use Rattle.co_segments.specs.Segments.{IsValidOnce, Segment}
use Rattle.co_segments.specs.Stocks.{AreSegments, IsTold, StandsAt}
use Rattle.co_segments.proofs.PlacedLemmas.{all_later, in_lookup, named_added, named_promoted, sound_added}
use Rattle.co_segments.proofs.PlacedLemmas.{sound_promoted}

-- ---- all segments

-- none at all
pub no_segments : (stock : Stock) → stock.recent.entries ≡ [] → AreSegments stock
no_segments stock e =
    let none : (f : ℕ × Placed) → Contains stock.recent.entries f → ⊥ =
    λ f c. none_in f (subst (λ (es : List (ℕ × Placed)). Contains es f) e c) in
    record {
      sound = λ f c. absurd (none f c);
      meaning = record { buses = λ n. blank_bus; contents = λ n. RosterIs None };
      named = λ f c. absurd (none f c);
    }

-- numbers that were given for nothing
pub segments_later : (old new : Stock) → new.recent.entries ≡ old.recent.entries → IsMore old.given new.given
    → AreSegments old → AreSegments new
segments_later old new same more h =
    let grows : IsLater h.meaning old.given h.meaning new.given = record {
      more_buses = more.0;
      buses = keeps_all h.meaning.buses old.given.buses;
      more_contents = more.1;
      contents = keeps_all h.meaning.contents old.given.contents;
    } in
    record {
      sound = subst (λ (es : List (ℕ × Placed)). AreSound es) (sym same) h.sound;
      meaning = h.meaning;
      named = subst (λ (es : List (ℕ × Placed)). AreNamed h.meaning new.given es) (sym same)
          (all_later h.meaning h.meaning old.given new.given grows old.recent.entries h.named);
    }

-- some of them
pub segments_fewer : (old new : Stock)
    → ((e : ℕ × Placed) → Contains new.recent.entries e → Contains old.recent.entries e)
    → new.given ≡ old.given → AreSegments old → AreSegments new
segments_fewer old new fewer given h = record {
  sound = λ e c. h.sound e (fewer e c);
  meaning = h.meaning;
  named = λ e c. subst (λ (g : NumbersGiven). IsNamed h.meaning g e.1) (sym given) (h.named e (fewer e c));
}

-- ---- with the bus that was reached, and what is known of the image

-- the segments stand without them
pub segments_from_told : (image : Image) (stock : Stock) (look : Look) (here : Numbered)
    → IsTold image stock look here → AreSegments stock
segments_from_told image stock look here h = record { sound = h.sound; meaning = h.meaning; named = h.named }

none_known : (k : Known) → None ≡ Some k → ⊥
none_known k e = cc

module _ (image : Image) (old new : Stock) where
  -- a new bus, where nothing is known of the image yet
  pub told_new : (look : Look) (here : Numbered) (bus : Bus) → AreSegments old → new.recent.entries ≡ old.recent.entries
      → here ≡ record { number = old.given.buses; bus = bus } → new.given.buses ≡ old.given.buses + 1
      → new.given.contents ≡ old.given.contents → look.reads ≡ [] → IsTold image new look here
  told_new look here bus h same is e f none =
      let buses = with_meaning h.meaning.buses old.given.buses bus in
      let m : Meaning = record { buses = buses; contents = h.meaning.contents } in
      let grows : IsLater h.meaning old.given m new.given = record {
        more_buses = omega (arith, e);
        buses = given_keeps h.meaning.buses old.given.buses bus;
        more_contents = omega (arith, f);
        contents = keeps_all h.meaning.contents old.given.contents;
      } in
      record {
        sound = subst (λ (es : List (ℕ × Placed)). AreSound es) (sym same) h.sound;
        meaning = m;
        named = subst (λ (es : List (ℕ × Placed)). AreNamed m new.given es) (sym same)
            (all_later h.meaning m old.given new.given grows old.recent.entries h.named);
        state = rw (is, e) (given_stands h.meaning.buses old.given.buses bus);
        known = subst (λ (r : List (Part × Known)). AreNumbered image m.contents new.given.contents r) (sym none)
            (λ part k at. absurd (none_known k at));
      }

  -- the store holds the same, in another order of what lies ahead
  pub told_still : (look : Look) (here : Numbered) → new.recent.entries ≡ old.recent.entries → new.given ≡ old.given
      → IsTold image old look here → IsTold image new look here
  told_still look here same given h = record {
    sound = subst (λ (es : List (ℕ × Placed)). AreSound es) (sym same) h.sound;
    meaning = h.meaning;
    named = subst (λ (g : NumbersGiven). AreNamed h.meaning g new.recent.entries) (sym given)
        (subst (λ (es : List (ℕ × Placed)). AreNamed h.meaning old.given es) (sym same) h.named);
    state = subst (λ (g : NumbersGiven). StandsFor h.meaning.buses g.buses here.number here.bus) (sym given) h.state;
    known = subst (λ (g : NumbersGiven). AreNumbered image h.meaning.contents g.contents look.reads) (sym given) h.known;
  }

  -- more is known of the image
  pub told_known : (look after : Look) (here : Numbered) (h : IsTold image old look here)
      → new.recent.entries ≡ old.recent.entries → new.given.buses ≡ old.given.buses
      → LearnsMore image h.meaning.contents old.given.contents new.given.contents after.reads → IsTold image new after here
  told_known look after here h same buses e =
      let m : Meaning = record { buses = h.meaning.buses; contents = e.meaning } in
      let grows : IsLater h.meaning old.given m new.given = record {
        more_buses = omega (arith, buses);
        buses = keeps_all h.meaning.buses old.given.buses;
        more_contents = e.more;
        contents = e.keeps;
      } in
      record {
        sound = subst (λ (es : List (ℕ × Placed)). AreSound es) (sym same) h.sound;
        meaning = m;
        named = subst (λ (es : List (ℕ × Placed)). AreNamed m new.given es) (sym same)
            (all_later h.meaning m old.given new.given grows old.recent.entries h.named);
        state = rw buses h.state;
        known = e.known;
      }

  -- one that is used goes first, and its end is reached
  pub told_used : (look : Look) (here end : Numbered) (key : ℕ) (s : Placed) → IsTold image old look here
      → lookup (nat_eq key) old.recent.entries ≡ Some s
      → new.recent.entries ≡ promoted (nat_eq key) old.recent.entries → new.given ≡ old.given
      → end ≡ record { number = s.end; bus = s.kept.end } → IsTold image new look end
  told_used look here end key s h found first given is =
      let c = in_lookup key old.recent.entries s found in
      record {
        sound = subst (λ (es : List (ℕ × Placed)). AreSound es) (sym first)
            (sound_promoted key old.recent.entries h.sound);
        meaning = h.meaning;
        named = subst (λ (g : NumbersGiven). AreNamed h.meaning g new.recent.entries) (sym given)
            (subst (λ (es : List (ℕ × Placed)). AreNamed h.meaning old.given es) (sym first)
            (named_promoted h.meaning old.given key old.recent.entries h.named));
        state = rw (is, given) ((h.named (c.0, s) c.1).end);
        known = subst (λ (g : NumbersGiven). AreNumbered image h.meaning.contents g.contents look.reads) (sym given) h.known;
      }

  -- one that was run goes first, and its end is reached: with a new number, or with that of a held segment's start
  module _ (look after : Look) (here n : Numbered) (kept : Segment) (marked : List Recorded)
      (h : IsTold image old look here) (sound : IsValidOnce kept) (start : kept.start ≡ here.bus) (same : n.bus ≡ kept.end)
      (e : (x : LearnsMore image h.meaning.contents old.given.contents new.given.contents after.reads)
      × AreMarked x.meaning new.given.contents marked) where
    abbrev placed : Placed
    placed = record { kept = kept; start = here.number; reads = marked; end = n.number }

    module _ (first : new.recent ≡ put_first placed old.recent) where
      told_by : (buses : ℕ → Bus) → KeepsMeaning old.given.buses h.meaning.buses buses
          → old.given.buses ≤ new.given.buses → StandsFor buses new.given.buses n.number n.bus
          → IsTold image new after n
      told_by buses keeps grows end =
          let es : List (ℕ × Placed) = old.recent.entries in
          let key : ℕ = old.recent.given in
          let entries : new.recent.entries ≡ take old.recent.capacity ((key, placed) ∷ es) =
          ap (λ (x : LastUsed Placed). x.entries) first in
          let m : Meaning = record { buses = buses; contents = e.0.meaning } in
          let later : IsLater h.meaning old.given m new.given = record {
            more_buses = grows;
            buses = keeps;
            more_contents = e.0.more;
            contents = e.0.keeps;
          } in
          let begin : StandsFor buses new.given.buses here.number kept.start =
          rw start (stands_later h.meaning.buses buses old.given.buses new.given.buses here.number here.bus keeps grows
          h.state) in
          let last : StandsFor buses new.given.buses n.number kept.end =
          subst (λ (b : Bus). StandsFor buses new.given.buses n.number b) same end in
          record {
            sound = subst (λ (x : List (ℕ × Placed)). AreSound x) (sym entries)
                (sound_added old.recent.capacity key placed es sound h.sound);
            meaning = m;
            named = subst (λ (x : List (ℕ × Placed)). AreNamed m new.given x) (sym entries)
                (named_added m new.given old.recent.capacity key placed es
                (record { start = begin; end = last; reads = e.1 })
                (all_later h.meaning m old.given new.given later es h.named));
            state = end;
            known = e.0.known;
          }

      pub told_reached : IsEndNumber old.recent.entries old.given.buses new.given.buses n.bus n
          → IsTold image new after n
      told_reached how = elim how [
        | inl new_one ↦ (
            let number : n.number ≡ old.given.buses = ap (λ (x : Numbered). x.number) new_one.0 in
            told_by (with_meaning h.meaning.buses old.given.buses n.bus)
            (given_keeps h.meaning.buses old.given.buses n.bus) (omega (arith, new_one.1))
            (rw (number, new_one.1) (given_stands h.meaning.buses old.given.buses n.bus))
            )
        | inr held ↦ (
            let f = held.0.0 in
            let is = held.0.1.1.0 in
            let stands = (h.named f held.0.1.0).start in
            let number : f.1.start ≡ n.number = sym (ap (λ (x : Numbered). x.number) is) in
            let bus : f.1.kept.start ≡ n.bus = sym (ap (λ (x : Numbered). x.bus) is) in
            told_by h.meaning.buses (keeps_all h.meaning.buses old.given.buses) (omega (arith, held.1)) (
            subst (λ (b : Bus). StandsFor h.meaning.buses new.given.buses n.number b) bus
            (subst (λ (i : ℕ). StandsFor h.meaning.buses new.given.buses i f.1.kept.start) number (rw held.1 stands))
            )
            )
      ]

  -- ---- a trace that stands before a segment

  -- more is known of the image
  pub stands_known : (number : ℕ) (look after : Look) (here : Reached) (h : StandsAt image number old look here)
      → new.recent ≡ old.recent → new.given.buses ≡ old.given.buses
      → LearnsMore image h.told.meaning.contents old.given.contents new.given.contents after.reads
      → StandsAt image number new after here
  stands_known number look after here h same buses e =
      let entries : new.recent.entries ≡ old.recent.entries = ap (λ (s : LastUsed Placed). s.entries) same in
      record {
        turn = ap (λ (s : LastUsed Placed). s.turn) same ∙ h.turn;
        told = told_known look after here.state h.told entries buses e;
        new = λ is. subst (λ (es : List (ℕ × Placed)). ServesNone es number here.state.bus) (sym entries) (h.new is);
      }

  -- nothing lies ahead any more
  pub stands_settled : (number : ℕ) (look : Look) (here : Reached) → StandsAt image number old look here
      → new.recent ≡ record old.recent { ahead = [] } → new.given ≡ old.given → StandsAt image number new look here
  stands_settled number look here h same given =
      let entries : new.recent.entries ≡ old.recent.entries = ap (λ (s : LastUsed Placed). s.entries) same in
      record {
        turn = ap (λ (s : LastUsed Placed). s.turn) same ∙ h.turn;
        told = told_still look here.state entries given h.told;
        new = λ is. subst (λ (es : List (ℕ × Placed)). ServesNone es number here.state.bus) (sym entries) (h.new is);
      }

  -- a held segment was used
  pub stands_used : (number : ℕ) (look : Look) (here end : Reached) (key : ℕ) (s : Placed)
      → StandsAt image number old look here → lookup (nat_eq key) old.recent.entries ≡ Some s
      → new.recent.entries ≡ promoted (nat_eq key) old.recent.entries → new.recent.turn ≡ old.recent.turn + 1
      → new.given ≡ old.given → end.state ≡ record { number = s.end; bus = s.kept.end } → end.is_new ≡ false
      → StandsAt image (number + 1) new look end
  stands_used number look here end key s h found first turn given is known = record {
    turn = omega (arith, turn, h.turn);
    told = told_used look here.state end.state key s h.told found first given is;
    new = λ k. absurd (false≢true (sym known ∙ k));
  }
