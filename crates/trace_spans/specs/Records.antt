-- What is kept of all that was read.
use Rattle.std.specs.Prelude.{◌≡◌, ◌↔◌, List, All, AllPairs}
use Rattle.image_parts.specs.Asking.{Agrees}
use Rattle.image_parts.specs.Contents.{Content, Image}
use Rattle.image_parts.specs.declared.part.Part.{Part}
use Rattle.trace_spans.specs.Reads.{Recorded}

-- no name stands twice
abbrev pub IsOnce : List (Part × Content) → Type 0
IsOnce reads = AllPairs (λ a b. a.0 ≡ b.0 → ⊥) reads

-- the name doesn't stand among them
abbrev pub IsNew : Part → List (Part × Content) → Type 0
IsNew name reads = All (λ read. read.0 ≡ name → ⊥) reads

-- the same of reads with numbers
abbrev pub IsNewAmong : Part → List Recorded → Type 0
IsNewAmong name reads = All (λ (r : Recorded). r.name ≡ name → ⊥) reads

-- each name once, and what an image has to have is the same
pub record IsRecordOf (all kept : List (Part × Content)) : Type 0 where
  pub once : IsOnce kept
  pub same : (image : Image) → Agrees image kept ↔ Agrees image all
