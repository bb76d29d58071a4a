-- What a store holds, and where a trace stands.
use Rattle.std.specs.Prelude.{◌≡◌, ℕ, ◌+◌, ◌≤◌, ◌↔◌, Bool, IsTrue, List, MatchOption, None, Option, Some, drop, length}
use Rattle.std.specs.Prelude.{nat_eq, slice_get}
use Rattle.std.specs.Map.{lookup}
use Rattle.can_bus.specs.Bus.{Bus}
use Rattle.image_parts.specs.Contents.{Image}
use Rattle.trace_spans.specs.Numbers.{StandsFor}
use Rattle.trace_spans.specs.Reads.{AreNumbered}
use Rattle.trace_spans.specs.declared.look.Look.{Look}
use Rattle.co_segments.specs.declared.reached.Reached.{Reached}
use Rattle.co_segments.specs.declared.stock.Stock.{Stock}
use Rattle.co_segments.specs.Placed.{AreNamed, AreSound, ServesNone, Meaning, Numbered, Placed, kept_of}
use Rattle.co_segments.specs.Placed.{entries_of_number}
use Rattle.co_segments.specs.Segments.{IsStale, Segment, Serves}

-- the segments that are held, the last run or used first
abbrev pub held_in : Stock → List Segment
held_in stock = kept_of stock.recent.entries

-- those of a number, from a place among them on
abbrev pub left_from : ℕ → ℕ → Stock → List Segment
left_from number place stock = kept_of (drop place (entries_of_number number stock.recent.entries))

-- ---- what always holds

-- what holds of the segments of a store: each is valid, and NO NUMBER STANDS FOR TWO BUSES, or for two contents
pub record AreSegments (stock : Stock) : Type 0 where
  pub sound : AreSound stock.recent.entries
  pub meaning : Meaning
  pub named : AreNamed meaning stock.given stock.recent.entries

-- the same, with the bus that a trace has reached, and what it knows of its image
pub record IsTold (image : Image) (stock : Stock) (look : Look) (here : Numbered) : Type 0 where
  pub sound : AreSound stock.recent.entries
  pub meaning : Meaning
  pub named : AreNamed meaning stock.given stock.recent.entries
  pub state : StandsFor meaning.buses stock.given.buses here.number here.bus
  pub known : AreNumbered image meaning.contents stock.given.contents look.reads

-- A TRACE STANDS before the segment of a number: it is the number's turn, private numbers stand for what they were
-- given to, and where the bus is said to be new, no held segment of the number starts from it
pub record StandsAt (image : Image) (number : ℕ) (stock : Stock) (look : Look) (here : Reached) : Type 0 where
  pub turn : stock.recent.turn ≡ number
  pub told : IsTold image stock look here.state
  pub new : IsTrue here.is_new → ServesNone stock.recent.entries number here.state.bus

-- ---- what a look at the held segments comes to

-- those of a number before a place are passed over: where none of the others serves, none does
abbrev pub ArePassed : Image → ℕ → ℕ → Stock → Bus → Type 0
ArePassed image number place stock here = IsStale image (left_from number place stock) number here
    → IsStale image (held_in stock) number here

-- what was found: the key of a segment that serves, or that none does
abbrev pub IsFound : Image → ℕ → Stock → Bus → Option ℕ → Type 0
IsFound image number stock here found = MatchOption found (IsStale image (held_in stock) number here)
    (λ key. (s : Placed) × ((lookup (nat_eq key) stock.recent.entries ≡ Some s) × Serves image number here s.kept))

-- a segment lies ahead, the first of its number, and it is known whether it serves: parts were asked at most as often
-- as it has reads
pub record LiesAhead (image : Image) (number : ℕ) (stock : Stock) (here : Bus) (serves : Bool)
    (asks later : ℕ) : Type 0 where
  pub entry : ℕ × Placed
  pub next : slice_get stock.recent.ahead 0 ≡ Some entry
  pub held : lookup (nat_eq entry.0) stock.recent.entries ≡ Some entry.1
  pub first : slice_get (entries_of_number number stock.recent.entries) 0 ≡ Some entry
  pub answer : IsTrue serves ↔ Serves image number here entry.1.kept
  pub counted : later ≤ asks + length entry.1.kept.reads

-- what a look ahead comes to: whether the segment that lies ahead serves, or that none does
abbrev pub LooksAhead : Image → ℕ → Stock → Bus → Option Bool → ℕ → ℕ → Type 0
LooksAhead image number stock here answer asks later =
    MatchOption answer ((slice_get stock.recent.ahead 0 ≡ None) × (later ≡ asks))
    (λ serves. LiesAhead image number stock here serves asks later)
