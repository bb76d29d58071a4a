-- Segments with the numbers of their buses: by these, buses are told apart without comparing them.
use Rattle.std.specs.Prelude.{Contains, List, map, refl, ℕ, ◌+◌, ◌≡◌, ◌≤◌, ◌⊎◌}
use Rattle.std.specs.Coded.{Coded, code_by, coded×, coded_list, coded_ℕ}
use Rattle.can_bus.specs.Bus.{Bus}
use Rattle.can_bus.specs.declared.line.Line.{Line}
use Rattle.image_parts.specs.Contents.{Content, Image}
use Rattle.image_parts.specs.declared.part.Part.{Part}
use Rattle.kept_values.specs.Numbers.{of_number}
use Rattle.trace_spans.specs.Numbers.{KeepsMeaning, StandsFor}
use Rattle.trace_spans.specs.Reads.{AreNumbered, AreMarked, LearnsMore, Known, Recorded, plain}
use Rattle.co_segments.specs.declared.numbers_given.NumbersGiven.{NumbersGiven}
use Rattle.co_segments.specs.Segments.{IsValidOnce, IsStale, Segment}

-- a bus with its number
pub record Numbered : Type 0 where
  pub number : ℕ
  pub bus : Bus

abbrev pub numbered_code : Coded Bus → Coded Numbered
numbered_code bus_code = code_by (ℕ × Bus) (coded× coded_ℕ bus_code) (λ n. (n.number, n.bus))
    (λ p. record { number = p.0; bus = p.1 }) (λ _. refl)

-- a segment with the numbers of its start and of its end, and its reads with theirs
pub record Placed : Type 0 where
  pub kept : Segment
  pub start : ℕ
  pub reads : List Recorded
  pub end : ℕ

abbrev pub placed_code : Coded Segment → Coded Recorded → Coded Placed
placed_code segment_code read_code =
    code_by (Segment × (ℕ × (List Recorded × ℕ)))
    (coded× segment_code (coded× coded_ℕ (coded× (coded_list read_code) coded_ℕ)))
    (λ p. (p.kept, (p.start, (p.reads, p.end))))
    (λ p. record { kept = p.0; start = p.1.0; reads = p.1.1.0; end = p.1.1.1 }) (λ _. refl)

-- the segment of a number from a bus on, by what was read and told, and the bus at its end
abbrev pub placed_of : ℕ → Numbered → List Recorded → List Line → Numbered → Placed
placed_of number start reads lines end = record {
  kept = record { number = number; start = start.bus; reads = plain reads; lines = lines; end = end.bus };
  start = start.number;
  reads = reads;
  end = end.number;
}

-- it is the bus that the segment starts from, with its number, and equal to a bus
abbrev pub IsStart : Placed → Numbered → Bus → Type 0
IsStart s n bus = (n ≡ record { number = s.start; bus = s.kept.start }) × (s.kept.start ≡ bus)

-- the segments, without their keys and numbers
abbrev pub kept_of : List (ℕ × Placed) → List Segment
kept_of entries = map (λ e. e.1.kept) entries

-- the held segments of a number, in their order
abbrev pub entries_of_number : ℕ → List (ℕ × Placed) → List (ℕ × Placed)
entries_of_number = of_number (λ (s : Placed). s.kept.number)

-- a bus from which no held segment of a number serves, whatever the image
abbrev pub ServesNone : List (ℕ × Placed) → ℕ → Bus → Type 0
ServesNone entries number bus = (image : Image) → IsStale image (kept_of entries) number bus

-- the numbers that were given, and what they stand for
pub record Meaning : Type 0 where
  pub buses : ℕ → Bus
  pub contents : ℕ → Content

-- as many numbers were given, or more
abbrev pub IsMore : NumbersGiven → NumbersGiven → Type 0
IsMore given later = (given.buses ≤ later.buses) × (given.contents ≤ later.contents)

-- more numbers were given: those before stand for what they stood for
pub record IsLater (old : Meaning) (given : NumbersGiven) (new : Meaning) (later : NumbersGiven) : Type 0 where
  pub more_buses : given.buses ≤ later.buses
  pub buses : KeepsMeaning given.buses old.buses new.buses
  pub more_contents : given.contents ≤ later.contents
  pub contents : KeepsMeaning given.contents old.contents new.contents

-- the bus at the end of a segment has a new number, or that of a held segment which starts from it
abbrev pub IsEndNumber : List (ℕ × Placed) → ℕ → ℕ → Bus → Numbered → Type 0
IsEndNumber entries given later bus n = ((n ≡ record { number = given; bus = bus }) × (later ≡ given + 1))
    ⊎ (((e : ℕ × Placed) × (Contains entries e × IsStart e.1 n bus)) × (later ≡ given))

-- its numbers stand for its start, its end and what it read
pub record IsNamed (m : Meaning) (given : NumbersGiven) (s : Placed) : Type 0 where
  pub start : StandsFor m.buses given.buses s.start s.kept.start
  pub end : StandsFor m.buses given.buses s.end s.kept.end
  pub reads : AreMarked m.contents given.contents s.reads

abbrev pub AreNamed : Meaning → NumbersGiven → List (ℕ × Placed) → Type 0
AreNamed m given entries = (e : ℕ × Placed) → Contains entries e → IsNamed m given e.1

abbrev pub AreSound : List (ℕ × Placed) → Type 0
AreSound entries = (e : ℕ × Placed) → Contains entries e → IsValidOnce e.1.kept

-- the numbers of a segment, of a bus and of what is known of an image have one meaning: so the segment can be compared
-- with the bus and the image
pub record AreComparable (image : Image) (given : NumbersGiven) (s : Placed) (here : Numbered)
    (now : List (Part × Known)) : Type 0 where
  pub meaning : Meaning
  pub named : IsNamed meaning given s
  pub state : StandsFor meaning.buses given.buses here.number here.bus
  pub known : AreNumbered image meaning.contents given.contents now

-- more is known of an image once it was compared with what was read, and more numbers may be given: those before stand
-- for what they stood for
abbrev pub Learns : Image → List Recorded → NumbersGiven → NumbersGiven → List (Part × Known) → List (Part × Known)
    → Type 0
Learns image reads given later now after = (contents : ℕ → Content) → AreNumbered image contents given.contents now
    → AreMarked contents given.contents reads → LearnsMore image contents given.contents later.contents after
