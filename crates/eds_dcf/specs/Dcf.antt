-- The DCF text of a device (CiA 306): the lines of its EDS, with the values that writes leave.
use Rattle.std.specs.Prelude.{ℕ, ◌++◌, not, List, [], ◌∷◌, map, filter, filter_map, Option}
use Rattle.std.specs.List.{range_with_len}
use Rattle.std.specs.Option.{option_map_or}
use Rattle.ini_text.specs.Content.{Pair, Section}
use Rattle.concise_dcf.specs.declared.write.Write.{Write}
use Rattle.eds_device.specs.Described.{kind_at}
use Rattle.eds_device.specs.Names.{values_named}
use Rattle.eds_device.specs.Sheets.{Sheet}
use Rattle.eds_dcf.specs.Commissioning.{commissioning, is_commissioning}
use Rattle.eds_dcf.specs.Compact.{made_section, values_pairs_at}
use Rattle.eds_dcf.specs.Entries.{parameter_pairs, parameter_place}
use Rattle.eds_dcf.specs.Writes.{last_of}

-- the pairs of a section with the values: of the section of an entry, of compact values, or of neither, which stay
unfoldable pub pairs_with : Sheet → (ℕ × ℕ → Option (List ℕ)) → Section → List Pair
pairs_with sheet values s =
    option_map_or (λ place. parameter_pairs s.pairs (kind_at sheet place) (values place)) (parameter_place sheet s.name)
    (option_map_or (λ index. values_pairs_at sheet values index s.pairs) (values_named s.name) s.pairs)

-- a section of the text with the values
abbrev pub with_values : Sheet → (ℕ × ℕ → Option (List ℕ)) → Section → Section
with_values sheet values s = record { name = s.name; pairs = pairs_with sheet values s }

-- the indices of an object dictionary, from 0000h to FFFFh
unfoldable pub indices : List ℕ
indices = range_with_len 0 0x10000

-- the sections that are made, by index: for each compact object without its section of values, where values of its
-- subs are set
unfoldable pub made_sections : Sheet → (ℕ × ℕ → Option (List ℕ)) → List Section
made_sections sheet values = filter_map (made_section sheet values) indices

-- the sections of the text with the values, those that are made, and the node's
unfoldable pub sections_with : Sheet → ℕ → List ℕ → ℕ → (ℕ × ℕ → Option (List ℕ)) → List Section
sections_with sheet node name bitrate values =
    map (with_values sheet values) (filter (λ s. not (is_commissioning s.name)) sheet.sections)
    ++ (made_sections sheet values ++ commissioning sheet.sections node name bitrate ∷ [])

-- the sections of the DCF: each entry has the value of its last write
unfoldable pub dcf_sections : Sheet → ℕ → List ℕ → ℕ → List Write → List Section
dcf_sections sheet node name bitrate writes = sections_with sheet node name bitrate (last_of writes)

-- the DCF as a data sheet, where the same types count
abbrev pub dcf_sheet : Sheet → ℕ → List ℕ → ℕ → List Write → Sheet
dcf_sheet sheet node name bitrate writes = record sheet { sections = dcf_sections sheet node name bitrate writes }
