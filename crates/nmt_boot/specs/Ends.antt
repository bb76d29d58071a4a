-- How the writes of a node end.
use Rattle.std.specs.Prelude.{ℕ, List}
use Rattle.image_parts.specs.Contents.{Content, Image}
use Rattle.image_parts.specs.declared.part.Part.{Part}
use Rattle.node_boot.specs.declared.note.Note.{Note}
use Rattle.node_boot.specs.Ends.{IsAbsent}
use Rattle.node_boot.specs.declared.note_kind.NoteKind.TheVariants as kind

abbrev pub configured_note : ℕ → Note
configured_note node = record { node = node; kind = kind.Configured }

-- the writes of a node end: one was asked for and is absent
abbrev pub WritesEnd : Image → ℕ → List (Part × Content) → Type 0
WritesEnd image node read = (place : ℕ) × IsAbsent image node read place
