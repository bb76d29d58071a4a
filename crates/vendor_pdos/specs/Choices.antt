-- What serves at each position of a mapping.
use Rattle.std.specs.Prelude.{ℕ, ◌==◌, if◌then◌else◌, List, [], ◌∷◌, map, Option, Some, None}
use Rattle.std.specs.Option.{option_map_or}
use Rattle.co_dict.specs.Shapes.{is_dummy_allowed}
use Rattle.project_messages.specs.Messages.{sink_at}
use Rattle.pdo_stations.specs.Dummies.{dummy_type, mapped_to}
use Rattle.pdo_stations.specs.declared.as_made.AsMade.{AsMade}
use Rattle.pdo_stations.specs.declared.carried.Carried.{Carried}
use Rattle.pdo_stations.specs.declared.mapped.Mapped.{Mapped}
use Rattle.vendor_pdos.specs.Mappings.{Wanted}

-- at the sender the source, where it has a width
abbrev pub sent_choice : Carried → List Mapped
sent_choice c = option_map_or (λ bits. mapped_to c.place bits ∷ []) c.bits []

abbrev pub sent_choices : List Carried → Wanted
sent_choices cs = map sent_choice cs

-- the data type of the dummy of so many bits that is signed (CiA 301, dummy entries): INTEGER8, 16 and 32 have one
abbrev pub signed_dummy_type : ℕ → Option ℕ
signed_dummy_type bits =
    if bits == 8 then Some 0x0002 else if bits == 16 then Some 0x0003 else if bits == 32 then Some 0x0004 else None

-- it, where the device allows it
abbrev pub signed_dummies : AsMade → ℕ → List Mapped
signed_dummies device bits =
    option_map_or (λ kind. if is_dummy_allowed device.shape kind then mapped_to (kind, 0) bits ∷ [] else [])
    (signed_dummy_type bits) []

-- in the place of so many bits that aren't taken the dummy that is planned, and the signed one that the device allows
abbrev pub dummy_choices : AsMade → ℕ → List Mapped
dummy_choices device bits =
    option_map_or (λ kind. mapped_to (kind, 0) bits ∷ signed_dummies device bits) (dummy_type bits) []

-- at a consumer its sink with the width of the source, or else a dummy of it
abbrev pub taken_choice : AsMade → List ((ℕ × ℕ) × (ℕ × ℕ)) → ℕ → Carried → List Mapped
taken_choice device sinks node c =
    option_map_or
    (λ bits. option_map_or (λ place. mapped_to place bits ∷ []) (sink_at sinks c.position node)
    (dummy_choices device bits))
    c.bits []

unfoldable pub taken_choices : AsMade → List ((ℕ × ℕ) × (ℕ × ℕ)) → ℕ → List Carried → Wanted
taken_choices device sinks node cs = map (taken_choice device sinks node) cs
