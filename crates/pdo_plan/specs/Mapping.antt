-- The mapping of a message (CiA 301, PDO mapping parameters): what each PDO of it carries.
use Rattle.std.specs.Prelude.{ℕ, ◌==◌, ◌&&◌, ◌||◌, Bool, true, false, not, List, ◌∷◌, map, filter_map, Option, Some, None}
use Rattle.std.specs.Prelude.{is_none, option_map, option_and_then, sum_by}
use Rattle.std.specs.Option.{option_map_or, unwrap_or, option_or}
use Rattle.byteorder.specs.Endian.{little_bytes}
use Rattle.project_messages.specs.Messages.{source_at, sink_at}
use Rattle.co_values.specs.declared.data_type.DataType.{DataType}
use Rattle.co_values.specs.declared.data_type.DataType.TheVariants.{Real32, Real64}
use Rattle.co_values.specs.Types.{is_modelled}
use Rattle.pdo_stations.specs.declared.mapped.Mapped.{Mapped}
use Rattle.pdo_stations.specs.Devices.{Devices, type_at, width_at}
use Rattle.pdo_stations.specs.Dummies.{mapped_to, dummy_for}
use Rattle.pdo_choices.specs.Consumers.{Sinks}

-- a mapping entry in the mapping object: the bits, the sub-index and the index, the lowest byte first, as 20020010h is
-- 10 00 02 20
abbrev pub mapped_bytes : Mapped → List ℕ
mapped_bytes m = m.bits ∷ m.sub ∷ little_bytes 2 m.index

-- the bits that a mapping fills in a frame
abbrev pub mapping_bits : List Mapped → ℕ
mapping_bits mapping = sum_by (λ (m : Mapped). m.bits) mapping

-- the sources of a message, by position, each an entry of the sender
abbrev pub Sources : Type 0
Sources = List (ℕ × (ℕ × ℕ))

-- the bits of a source; one without a width adds nothing
abbrev pub source_bits : Devices → ℕ → ℕ × (ℕ × ℕ) → ℕ
source_bits devices sender source = unwrap_or (width_at devices sender source.1) 0

-- all bits of a message
abbrev pub bits_of : Devices → ℕ → Sources → ℕ
bits_of devices sender sources = sum_by (source_bits devices sender) sources

-- what the sender's PDO maps: each source by position
unfoldable pub sent_mapping : Devices → ℕ → Sources → List Mapped
sent_mapping devices sender sources = map (λ s. mapped_to s.1 (source_bits devices sender s)) sources

-- what a consumer's PDO maps for a source: its sink at that position, else a dummy of that width
abbrev pub taken_at : Devices → ℕ → Sinks → ℕ → ℕ × (ℕ × ℕ) → Option Mapped
taken_at devices sender sinks node source =
    option_or (option_map (λ place. mapped_to place (source_bits devices sender source)) (sink_at sinks source.0 node))
    (option_and_then (dummy_for devices node) (width_at devices sender source.1))

unfoldable pub taken_mapping : Devices → ℕ → Sources → Sinks → ℕ → List Mapped
taken_mapping devices sender sources sinks node = filter_map (taken_at devices sender sinks node) sources

-- a dummy is needed at a source, and there is none of that width or the consumer doesn't allow it; a source without a
-- width needs none
abbrev pub lacks_dummy_at : Devices → ℕ → Sinks → ℕ → ℕ × (ℕ × ℕ) → Bool
lacks_dummy_at devices sender sinks node source =
    is_none (sink_at sinks source.0 node)
    && option_map_or (λ bits. is_none (dummy_for devices node bits)) (width_at devices sender source.1) false

-- two widths that differ; an entry without a width differs from none
abbrev pub differ : Option ℕ → Option ℕ → Bool
differ None other = false
differ (Some bits) None = false
differ (Some bits) (Some other) = not (bits == other)

-- REAL32 and REAL64
abbrev pub is_real : DataType → Bool
is_real Real32 = true
is_real Real64 = true
is_real kind = false

-- two types that are modelled, one of them a REAL and the other another type; before version 3 a device has no REAL
abbrev pub are_unlike : DataType → DataType → Bool
are_unlike Real32 Real32 = false
are_unlike Real64 Real64 = false
are_unlike kind other = is_modelled kind && is_modelled other && (is_real kind || is_real other)

-- a source and a sink don't suit each other: their widths differ, or one is a REAL and the other of another type
abbrev pub misfit : Option ℕ → DataType → Option ℕ → DataType → Bool
misfit width kind other_width other_kind = differ width other_width || are_unlike kind other_kind

-- a sink without a source at its position, or one that the source doesn't suit
abbrev pub is_mismatched : Devices → ℕ → Sources → (ℕ × ℕ) × (ℕ × ℕ) → Bool
is_mismatched devices sender sources sink =
    option_map_or (λ place. misfit (width_at devices sender place) (type_at devices sender place)
    (width_at devices sink.0.1 sink.1) (type_at devices sink.0.1 sink.1))
    (source_at sources sink.0.0) true
