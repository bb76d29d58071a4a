-- Kept segments of a run.
use Rattle.std.specs.Prelude.{◌≡◌, ℕ, zero, suc, ◌+◌, ◌-◌, ◌^◌, List, [], ◌++◌, ◌∷◌, length}
use Rattle.std.specs.Prelude.{Contains, min, take, nat_le, if◌then◌else◌, ◌==◌, refl}
use Rattle.std.specs.Coded.{Coded, code_by, coded×, coded_list, coded_ℕ}
use Rattle.image_parts.specs.Asking.{outcome, reads, Agrees}
use Rattle.kept_values.specs.Work.{Work}
use Rattle.image_parts.specs.Contents.{Content, Image}
use Rattle.image_parts.specs.declared.part.Part.{Part}
use Rattle.can_bus.specs.Bus.{Bus, blank_bus}
use Rattle.can_bus.specs.declared.line.Line.{Line}
use Rattle.can_bus.specs.Spans.{span}
use Rattle.trace_spans.specs.Records.{IsOnce, IsRecordOf}

-- A SEGMENT: the span of a number from a bus on, what it read, what it told, and the bus at its end
pub record Segment : Type 0 where
  pub number : ℕ
  pub start : Bus
  pub reads : List (Part × Content)
  pub lines : List Line
  pub end : Bus

abbrev pub kept_code : Coded Bus → Coded (Part × Content) → Coded Line → Coded Segment
kept_code bus_code read_code line_code =
    code_by (ℕ × (Bus × (List (Part × Content) × (List Line × Bus))))
    (coded× coded_ℕ (coded× bus_code (coded× (coded_list read_code) (coded× (coded_list line_code) bus_code))))
    (λ k. (k.number, (k.start, (k.reads, (k.lines, k.end)))))
    (λ p. record { number = p.0; start = p.1.0; reads = p.1.1.0; lines = p.1.1.1.0; end = p.1.1.1.1 }) (λ _. refl)

-- WHAT A STORE HOLDS: the segments, the last run or used first
pub record HeldSegments : Type 0 where
  pub capacity : ℕ
  pub segments : List Segment

abbrev pub held_code : Coded Segment → Coded HeldSegments
held_code segment_code = code_by (ℕ × List Segment) (coded× coded_ℕ (coded_list segment_code))
    (λ h. (h.capacity, h.segments)) (λ p. record { capacity = p.0; segments = p.1 }) (λ _. refl)

-- ---- segments that are valid, and of use

-- VALID: under every image that has its recorded values at its reads, lines and end are those of its span
abbrev pub IsValid : Segment → Type 0
IsValid kept = (image : Image) → Agrees image kept.reads
    → outcome (span kept.number kept.start) image ≡ (kept.end, kept.lines)

-- it is valid, and no name stands twice among its reads
unfoldable pub IsValidOnce : Segment → Type 0
IsValidOnce kept = IsValid kept × IsOnce kept.reads

-- it is that span from that bus on, and the image has its recorded values
abbrev pub Serves : Image → ℕ → Bus → Segment → Type 0
Serves image number start kept = (kept.number ≡ number) × (kept.start ≡ start) × Agrees image kept.reads

-- STALE: a number, reached with a bus, of which no held segment serves
abbrev pub IsStale : Image → List Segment → ℕ → Bus → Type 0
IsStale image held number start = (kept : Segment) → Contains held kept → Serves image number start kept → ⊥

-- how many values are recorded in the segments of a number
abbrev pub recorded_of : ℕ → List Segment → ℕ
recorded_of number [] = 0
recorded_of number (k ∷ ks) = (if k.number == number then length k.reads else 0) + recorded_of number ks

-- how many values are recorded in the segments from a number on
abbrev pub recorded_from : ℕ → List Segment → ℕ
recorded_from number [] = 0
recorded_from number (k ∷ ks) = (if nat_le number k.number then length k.reads else 0) + recorded_from number ks

-- ---- a trace, window by window

-- WHERE A TRACE STANDS: the bus that it has reached, what is held, what was told, what was counted, and how many values
-- were read by runs
pub record TraceState : Type 0 where
  pub bus : Bus
  pub held : List Segment
  pub told : List Line
  pub work : Work
  pub read : ℕ

-- at the power-on
abbrev pub at_power_on : List Segment → Work → TraceState
at_power_on held work = record { bus = blank_bus; held = held; told = []; work = work; read = 0 }

-- behind a window: the bus at its end, its lines told, and its segment first, before the others
abbrev pub behind : ℕ → Segment → List Segment → TraceState → TraceState
behind capacity kept others s =
    record s { bus = kept.end; held = take capacity (kept ∷ others); told = s.told ++ kept.lines }

-- one more run is counted, up to 2^64 - 1, and how many values it read
abbrev pub with_run : ℕ → TraceState → TraceState
with_run read s =
    record s { work = record s.work { segments = min (s.work.segments + 1) (2 ^ 64 - 1) }; read = s.read + read }

-- the segment was run: its lines and its end are those of the span, and it records each name once of what that read
pub record IsRun (image : Image) (number : ℕ) (start : Bus) (kept : Segment) : Type 0 where
  pub number_is : kept.number ≡ number
  pub start_is : kept.start ≡ start
  pub gives : outcome (span number start) image ≡ (kept.end, kept.lines)
  pub recorded : IsRecordOf (reads (span number start) image) kept.reads

-- A TRACE ADVANCES by one window
pub data Advances (image : Image) (capacity number : ℕ) (s next : TraceState) : Type 0 where
  -- one of the held segments serves, and is USED
  Uses : (kept : Segment) (before after : List Segment) → s.held ≡ before ++ kept ∷ after
      → Serves image number s.bus kept → outcome (span number s.bus) image ≡ (kept.end, kept.lines)
      → next ≡ behind capacity kept (before ++ after) s → Advances image capacity number s next
  -- none serves, and the window is RUN
  Runs : (kept : Segment) → IsStale image s.held number s.bus → IsRun image number s.bus kept
      → next ≡ with_run (length (reads (span number s.bus) image)) (behind capacity kept s.held s)
      → Advances image capacity number s next

-- THE FIRST `count` WINDOWS OF A TRACE
abbrev pub Traced : Image → ℕ → TraceState → ℕ → TraceState → Type 0
Traced image capacity start zero s = s ≡ start
Traced image capacity start (suc count) s =
    (before : TraceState) × (Traced image capacity start count before × Advances image capacity count before s)
